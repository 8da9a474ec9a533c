use Rattle.std.proofs.Common.{◌≡◌, ◌+◌, ℕ, length}
use Rattle.std.specs.List.{sum_by}
use Rattle.dd_template.specs.Table.{table_of}
use Rattle.dd_template.specs.Connecting.{IsJoined}
use Rattle.dd_template.specs.Joined.{IsMet, unmet}
use Rattle.dd_template.proofs.undone.Undone.are_joined.Given as goal

abbrev pub invariant-loop-step : goal.invariant-loop-step
invariant-loop-step g l = record {
  count : sum_by unmet l.met + l._step ≡ g.row.K;
  length : length l.met ≡ g.row.K;
  zero : IsMet l.met 0;
  joined : (x : ℕ) → IsMet l.met x → IsJoined (table_of l.self.table.now) x;
}
