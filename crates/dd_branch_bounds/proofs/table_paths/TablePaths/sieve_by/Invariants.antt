use Rattle.std.proofs.Common.{◌≡◌, ℕ}
use Rattle.dd_model.specs.Symbol.{Symbol}
use Rattle.dd_branch_tables.specs.Chambers.{bit_of}
use Rattle.dd_branch_tables.specs.Rows.{partial_of, HasNumberAt}
use Rattle.dd_branch_bounds.specs.Shares.{IsSought}
use Rattle.dd_branch_bounds.proofs.table_paths.TablePaths.sieve_by.Given as goal

abbrev pub invariant-loop-number : goal.invariant-loop-number
invariant-loop-number l =
    (m : ℕ) → bit_of l.fn.numbers m ≡ 1 → bit_of l.left m ≡ 0 → bit_of l.kept m ≡ 0 → (s : Symbol) → IsSought l.classes.request (partial_of l.table) s → HasNumberAt l.place m s → ⊥

abbrev pub decreases-loop-number : goal.decreases-loop-number
decreases-loop-number l = l.left.bits
