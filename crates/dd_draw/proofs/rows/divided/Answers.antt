use Rattle.std.proofs.Common.{refl, subst}
use Rattle.dd_draw.proofs.RowLemmas.{made_more, read_number}
use Rattle.dd_draw.specs.Elimination.{quotient}
use Rattle.dd_draw.specs.Limit.{IsWide, IsNarrow, ratio_of}
use Rattle.dd_draw.proofs.rows.divided.Goals as goal

pub returns-in_default-clause-fault : goal.returns-in_default-clause-fault
returns-in_default-clause-fault c =
    let read = read_number c.args.row.now c.loop-place.place c.index-row-place.result c.loop-place-test.true c.index-row-place.is in (
      refl,
      refl,
      record {
        place = c.loop-place.place;
        inside = c.loop-place-test.true;
        column = refl;
        wide = subst (λ x. IsWide (quotient (ratio_of x) (ratio_of c.args.pivot))) read c.in_default.ensures;
        first = c.loop-place.invariant.none_wide;
      },
    )

pub loop-place-preserved : goal.loop-place-preserved
loop-place-preserved c =
    let read = read_number c.args.row.now c.loop-place.place c.index-row-place.result c.loop-place-test.true c.index-row-place.is in
    made_more _ _ c.loop-place.place c.loop-place.new.items c.push.new.self.items c.in-Some.number c.in_ok-push.ensures.items c.loop-place.invariant
    (subst (λ x. IsNarrow c.in-Some.number (quotient (ratio_of x) (ratio_of c.args.pivot))) read c.in-Some.ensures.0)
    (subst (λ x. ¬ IsWide (quotient (ratio_of x) (ratio_of c.args.pivot))) read c.in-Some.ensures.1)
