use Rattle.std.proofs.Common.{◌≤◌, []}
use Rattle.dd_plain.specs.Adds.{Adds}
use Rattle.dd_plain.proofs.filter.plain_catalogue.Given as goal

abbrev pub invariant-loop-k : goal.invariant-loop-k
invariant-loop-k l = Adds l.q (λ s. s.size ≤ l.k) [] l.list
