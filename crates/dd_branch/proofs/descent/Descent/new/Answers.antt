use Rattle.std.proofs.Common.{length, sym, ap, ◌∙◌, subst, arith}
use Rattle.dd_branch_tables.specs.Rows.{partial_of}
use Rattle.dd_branch_bounds.specs.Kept.{AreSides}
use Rattle.dd_branch.proofs.GoingBack.{goes_back_at_first}
use Rattle.dd_branch.proofs.descent.Descent.new.Goals as goal

pub invariant_of-result : goal.invariant_of-result
invariant_of-result c =
    let stem = c.new-2.result in
    let told = c.new-2.ensures in
    let levels = c.in_ok-levels.ensures in
    let none = ap length levels.before in
    goes_back_at_first _ (record {
      valid = c.requires.valid;
      stem = told.stem;
      kept = subst (AreSides c.for_size-classes.result (partial_of stem.rows)) (sym levels.sides)
          (c.start.ensures (partial_of stem.rows) (told.size ∙ sym c.for_size-classes.ensures.size));
      same_request = c.for_size-classes.ensures.request ∙ c.requires.asked;
      room = omega (arith, none);
    }) levels.before told.empty
