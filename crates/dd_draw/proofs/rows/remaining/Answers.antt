use Rattle.std.proofs.Common.{◌⊎◌, refl, subst, arith}
use Rattle.dd_draw.proofs.RowLemmas.{made_more, read_number}
use Rattle.dd_draw.specs.Elimination.{product, difference}
use Rattle.dd_draw.specs.Limit.{IsWide, IsNarrow, ratio_of}
use Rattle.dd_draw.specs.Rows.{number_at}
use Rattle.dd_draw.proofs.rows.remaining.Goals as goal

pub returns-in_default-clause-fault : goal.returns-in_default-clause-fault
returns-in_default-clause-fault c =
    let row = c.args.row.now in
    let top = c.args.top.now in
    let place = c.loop-place.place in
    let read = read_number row place c.index-row-place.result c.loop-place-test.true c.index-row-place.is in
    let above = read_number top place c.index-top-place.result (omega (arith, c.requires.as_long, c.loop-place-test.true)) c.index-top-place.is in (
      refl,
      refl,
      record {
        place = c.loop-place.place;
        inside = c.loop-place-test.true;
        column = refl;
        wide = subst (λ x. IsWide (difference (ratio_of x) (product (ratio_of c.args.factor) (ratio_of (number_at top place)))) ⊎ IsWide (product (ratio_of c.args.factor) (ratio_of (number_at top place)))) read (subst (λ y. IsWide (difference (ratio_of c.index-row-place.result) (product (ratio_of c.args.factor) (ratio_of y))) ⊎ IsWide (product (ratio_of c.args.factor) (ratio_of y))) above c.in_default.ensures);
        first = c.loop-place.invariant.none_wide;
      },
    )

pub loop-place-preserved : goal.loop-place-preserved
loop-place-preserved c =
    let row = c.args.row.now in
    let top = c.args.top.now in
    let place = c.loop-place.place in
    let read = read_number row place c.index-row-place.result c.loop-place-test.true c.index-row-place.is in
    let above = read_number top place c.index-top-place.result (omega (arith, c.requires.as_long, c.loop-place-test.true)) c.index-top-place.is in
    made_more _ _ c.loop-place.place c.loop-place.new.items c.push.new.self.items c.in-Some.number c.in_ok-push.ensures.items c.loop-place.invariant
    (subst (λ x. IsNarrow c.in-Some.number (difference (ratio_of x) (product (ratio_of c.args.factor) (ratio_of (number_at top place))))) read (subst (λ y. IsNarrow c.in-Some.number (difference (ratio_of c.index-row-place.result) (product (ratio_of c.args.factor) (ratio_of y)))) above c.in-Some.ensures.0))
    (subst (λ x. ¬ (IsWide (difference (ratio_of x) (product (ratio_of c.args.factor) (ratio_of (number_at top place)))) ⊎ IsWide (product (ratio_of c.args.factor) (ratio_of (number_at top place))))) read (subst (λ y. ¬ (IsWide (difference (ratio_of c.index-row-place.result) (product (ratio_of c.args.factor) (ratio_of y))) ⊎ IsWide (product (ratio_of c.args.factor) (ratio_of y)))) above c.in-Some.ensures.1))
