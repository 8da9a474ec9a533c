use Rattle.std.proofs.Common.{refl, subst, arith}
use Rattle.dd_branch_tables.specs.Rows.{partial_of, HasNumberAt}
use Rattle.dd_branch_tables.specs.declared.stem.Stem.{Stem}
use Rattle.dd_branch_tables.proofs.Absorbing.{IsKnownPut, absorbed_more, absorbed_none, known_put_stem}
use Rattle.dd_branch_tables.proofs.stem.Stem.absorb.Goals as goal

pub loop-self-init : goal.loop-self-init
loop-self-init c = record { stem = c.requires; absorbed = absorbed_none c.args.self.now }

pub loop-self-preserved : goal.loop-self-preserved
loop-self-preserved c =
    let mid = c.loop-self.self in
    let e = c.number_at-number.result in
    let new : Stem = record { rows = mid.rows; prefix = c.push.new.self } in
    let put : IsKnownPut mid new e = record {
      room = omega arith;
      known = subst (λ t. HasNumberAt t e (partial_of mid.rows)) c.len-in-loop-self.ensures c.number_at-number.ensures.number;
      some = c.if-number-eq0.false;
      rows = refl;
      longer = c.push.ensures;
    } in
    record {
      stem = known_put_stem mid new e c.loop-self.invariant.stem put;
      absorbed = absorbed_more c.args.self.now mid new e c.loop-self.invariant.stem c.loop-self.invariant.absorbed put;
    }
