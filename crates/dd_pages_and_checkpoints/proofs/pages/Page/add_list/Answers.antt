use Rattle.std.proofs.Common.{◌≡◌, ◌<◌, [], length, refl, ap, ◌∙◌, arith}
use Rattle.std.proofs.lemmas.List.{length-drop, nil_from_length}
use Rattle.dd_pages_and_checkpoints.proofs.PageLemmas.{front_kept}
use Rattle.dd_pages_and_checkpoints.proofs.PageParts.{parted, none_added, part_added, part_fits, front_part, all_added, all_counted}
use Rattle.dd_pages_and_checkpoints.proofs.pages.Page.add_list.Goals as goal

pub loop-left-init : goal.loop-left-init
loop-left-init g c = (
  none_added _ _ _ _ _ _ (λ k base start ss has. has) refl refl c.requires.waiting,
  omega arith,
  λ s. (s, refl),
)

pub add_part-requires-clause-waiting : goal.add_part-requires-clause-waiting
add_part-requires-clause-waiting g c = c.loop-left.invariant.0.waiting

pub add_part-requires-clause-few : goal.add_part-requires-clause-few
add_part-requires-clause-few g c =
    let rest = parted _ _ _ _ c.split_at-part.ensures.first c.split_at-part.ensures.others in
    part_fits _ _ _ _ _ _ _ _ _ rest c.requires.few c.loop-left.invariant.0

pub returns-in_err-add_part-clause-front : goal.returns-in_err-add_part-clause-front
returns-in_err-add_part-clause-front g c =
    let rest = parted _ _ _ _ c.split_at-part.ensures.first c.split_at-part.ensures.others in
    front_part _ _ _ _ _ _ _ _ _ rest c.add_part.ensures.front c.loop-left.invariant.0

pub loop-left-smaller : goal.loop-left-smaller
loop-left-smaller g c =
    let left = c.loop-left.left in
    let some : 0 < length left = omega (arith, c.loop-left-test.true, c.len.ensures) in
    let rest = ap length c.split_at-part.ensures.others ∙ length-drop c.min.result left in
    let fewest : 0 < c.min.result = omega (arith, c.min.ensures, c.len-in-loop-left.ensures, some) in
    omega (arith, rest, fewest, some)

pub loop-left-preserved : goal.loop-left-preserved
loop-left-preserved g c =
    let rest = parted _ _ _ _ c.split_at-part.ensures.first c.split_at-part.ensures.others in
    let added = c.in_ok-add_part.ensures in
    let ih = c.loop-left.invariant in (
      part_added _ _ _ _ _ _ _ _ _ _ rest added.all added.count added.waiting ih.0,
      omega (arith, c.add_part.ensures.cause.later, ih.1),
      λ s. let sure = ih.2 s in let next = c.add_part.ensures.sure sure.0 in (next.sure, next.count ∙ sure.1),
    )

pub returns-clause-all : goal.returns-clause-all
returns-clause-all g c =
    let none : c.loop-left.left ≡ [] = nil_from_length _ (omega (arith, c.loop-left-test.false, c.len.ensures)) in
    all_added _ _ _ _ _ _ none c.loop-left.invariant.0

pub returns-clause-waiting : goal.returns-clause-waiting
returns-clause-waiting g c = c.loop-left.invariant.0.waiting

pub returns-clause-count : goal.returns-clause-count
returns-clause-count g c =
    let none : c.loop-left.left ≡ [] = nil_from_length _ (omega (arith, c.loop-left-test.false, c.len.ensures)) in
    all_counted _ _ _ _ _ _ none c.loop-left.invariant.0

pub returns-clause-front : goal.returns-clause-front
returns-clause-front g c k base start ss has =
    let none : c.loop-left.left ≡ [] = nil_from_length _ (omega (arith, c.loop-left-test.false, c.len.ensures)) in
    front_kept k base start _ _ _ (all_added _ _ _ _ _ _ none c.loop-left.invariant.0 k base start ss has)
