use Rattle.std.proofs.Common.{arith}
use Rattle.dd_model.proofs.CellWalks.{has_period}
use Rattle.dd_model.proofs.Turns.{IsLeastTurns-from_period, least_turns_unique}
use Rattle.dd_model.proofs.cell_laws.each_cell_has_one_period.Goals as goal

pub returns : goal.returns
returns c = record {
  exists = λ s p d is h. let has = has_period s is.involutions p d h in (has.r, has.period);
  bound = λ s p d r is h period.
      let has = has_period s is.involutions p d h in
      let least = period.least has.r has.period.positive has.period.fixed in
      let high = has.bound in
      omega arith;
  whole_cell = λ s p d r is. IsLeastTurns-from_period s is.involutions p d r;
  unique = least_turns_unique;
}
