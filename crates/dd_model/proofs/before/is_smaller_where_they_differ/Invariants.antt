use Rattle.std.proofs.Common.{◌↔◌}
use Rattle.dd_model.proofs.SmallerPlaces.{SmallerFrom}
use Rattle.dd_model.proofs.before.is_smaller_where_they_differ.Given as goal

abbrev pub invariant-loop-k : goal.invariant-loop-k
invariant-loop-k l = SmallerFrom 0 l.numbers l.others ↔ SmallerFrom l.k l.numbers l.others
