use Rattle.std.specs.Prelude.{◌+◌}
use Rattle.dd_model.specs.declared.index.Index.TheVariants.{Zero}
use Rattle.dd_covers.specs.Visits.{rank}
use Rattle.dd_covers.specs.Visiting.{IsVisiting}
use Rattle.dd_covers.proofs.visits.first_visits.Given as goal

abbrev pub invariant-loop-k : goal.invariant-loop-k
invariant-loop-k l = IsVisiting l.fn.s l.visits.order.items l.visits.number.items l.visits.white.items (rank Zero (l.k + 1))
