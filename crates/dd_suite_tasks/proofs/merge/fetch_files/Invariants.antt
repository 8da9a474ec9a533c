use Rattle.std.proofs.Common.{◌≡◌, ◌≤◌, true, take}
use Rattle.std.specs.Prelude.{IsSome}
use Rattle.std.specs.List.{AllByRecursion}
use Rattle.dd_ports.specs.Texts.{SameTexts}
use Rattle.dd_suite_commands.specs.Merges.{bytes_of}
use Rattle.dd_suite_tasks.specs.Merges.{AreFetchedFronts}
use Rattle.dd_suite_tasks.proofs.merge.fetch_files.Given as goal

-- the files so far are what the names held, which they hold still, and what was sure is
abbrev pub invariant-loop-name : goal.invariant-loop-name
invariant-loop-name g l =
    AreFetchedFronts (g.S.Store.tells l.initial.store) (g.S.Store.held l.initial.store) 16777217 (take l.name-index l.names) (bytes_of l.files.items)
    × (g.S.Store.tells l.initial.store ≡ true → (g.S.Store.tells l.store ≡ true) × SameTexts (g.S.Store.held l.initial.store) (g.S.Store.held l.store))
    × (g.S.Store.faults l.initial.store ≤ g.S.Store.faults l.store)
    × (g.S.Store.sure l.initial.store ≡ true → g.S.Store.tells l.initial.store ≡ true → AllByRecursion (λ name. IsSome (g.S.Store.held l.initial.store name)) l.names
    → (g.S.Store.sure l.store ≡ true) × (g.S.Store.faults l.store ≡ g.S.Store.faults l.initial.store))
