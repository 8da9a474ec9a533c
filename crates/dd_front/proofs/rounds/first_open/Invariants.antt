use Rattle.std.proofs.Common.{◌≡◌, ◌-◌, ◌≤◌, ◌++◌, length, take, drop}
use Rattle.dd_front.specs.Rounds.{open_jobs}
use Rattle.dd_front.proofs.rounds.first_open.Given as goal

abbrev pub invariant-loop-entry : goal.invariant-loop-entry
invariant-loop-entry l =
    (length l.jobs.items ≤ l.most)
    × (l.jobs.items ++ take (l.most - length l.jobs.items) (open_jobs (drop l.entry-index l.entries)) ≡ take l.most (open_jobs l.entries))
