use Rattle.std.proofs.Common.{refl, arith}
use Rattle.dd_branch_bounds.proofs.census.Census.add_fixed_end.Goals as goal

pub returns-then-is_capped : goal.returns-then-is_capped
returns-then-is_capped c = record {
  flagged = c.add_flag.new.self;
  flag = c.add_flag.ensures;
  goes_on = λ low. let high = c.is_capped.ensures.0 c.if-is_capped.true in absurd (omega (arith, low, high));
  closed = λ _. c.add_cell.ensures;
}

pub returns-else-is_capped : goal.returns-else-is_capped
returns-else-is_capped c = record {
  flagged = c.add_flag.new.self;
  flag = c.add_flag.ensures;
  goes_on = λ _. refl;
  closed = λ high. absurd (let yes = c.is_capped.ensures.1 high in let none = c.if-is_capped.false in cc);
}
