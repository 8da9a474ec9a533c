use Rattle.std.proofs.Common.{◌≤◌, sym, subst, arith}
use Rattle.dd_plain.proofs.ChoiceLemmas.{three_powers}
use Rattle.dd_plain.proofs.LevelLemmas.{cube_small, images-more, all_images}
use Rattle.dd_plain.proofs.filter.add_size.Goals as goal

pub pow-lists-requires : goal.pow-lists-requires
pow-lists-requires c = let most = three_powers c.args.size c.requires in omega arith

pub overflow_mul-number-end : goal.overflow_mul-number-end
overflow_mul-number-end c =
    let most = three_powers c.args.size c.requires in
    let few = cube_small c.pow-lists.result (subst (λ l. l ≤ 27) (sym c.pow-lists.ensures) most) in
    omega (arith, few.0)

pub overflow_mul-number-end-2 : goal.overflow_mul-number-end-2
overflow_mul-number-end-2 c =
    let most = three_powers c.args.size c.requires in
    let few = cube_small c.pow-lists.result (subst (λ l. l ≤ 27) (sym c.pow-lists.ensures) most) in
    omega (arith, few.1)

pub loop-number-preserved : goal.loop-number-preserved
loop-number-preserved c =
    images-more c.args.q.now c.args.size c.pow-lists.result c.loop-number.number c.args.list.now c.loop-number.list c.add_images.new.list
    c.loop-number.invariant c.in_ok-add_images.ensures

pub returns : goal.returns
returns c =
    all_images c.args.q.now c.args.size c.pow-lists.result c.loop-number.number c.args.list.now c.loop-number.list
    c.requires c.pow-lists.ensures (omega arith) c.loop-number.invariant
