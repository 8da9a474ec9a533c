use Rattle.std.proofs.Common.{◌≡◌, ◌+◌, ◌≤◌, ℕ, get_or, take, [], ◌∷◌, ◌++◌, ℤ, pos, nat_abs, ◌+ℤ◌, w64, FitsSigned, to_z, of_z, sym, ap, ◌∙◌, subst, arith}
use Rattle.std.proofs.lemmas.Int.{ints}
use Rattle.std.proofs.lemmas.List.{take_more, map-append}
use Rattle.std.proofs.lemmas.List.Elements.{Contains-get_or}
use Rattle.dd_model.specs.Symbol.{item}
use Rattle.dd_gram.specs.Shifts.{number_at}
use Rattle.dd_gram.specs.Walks.{sum_along, image_walk}
use Rattle.dd_gram.proofs.WalkLemmas.{sum_along-append}
use Rattle.dd_gram.proofs.basis.sum_of_images.Goals as goal

sum_step : (s x whole : ℤ) (k : ℕ) → s ≡ whole → nat_abs s ≤ k → k ≤ 16384 → nat_abs x ≤ 1 → to_z w64 (of_z w64 (s +ℤ to_z w64 (of_z w64 x))) ≡ whole +ℤ (x +ℤ pos 0)
sum_step s x whole k e small few one = omega (arith, ints)

size_step : (s x : ℤ) (k : ℕ) → nat_abs s ≤ k → k ≤ 16384 → nat_abs x ≤ 1 → nat_abs (to_z w64 (of_z w64 (s +ℤ to_z w64 (of_z w64 x)))) ≤ k + 1
size_step s x k small few one = omega (arith, ints)

fits_step : (s x : ℤ) (k : ℕ) → nat_abs s ≤ k → k ≤ 16384 → nat_abs x ≤ 1 → FitsSigned w64 (s +ℤ to_z w64 (of_z w64 x))
fits_step s x k small few one = omega (arith, ints)

pub image-requires-clause-low : goal.image-requires-clause-low
image-requires-clause-low c = (c.requires.each (get_or c.args.walk.now c.loop-k.k 0) (Contains-get_or c.args.walk.now c.loop-k.k 0 c.loop-k-test.true)).low

pub image-requires-clause-high : goal.image-requires-clause-high
image-requires-clause-high c = (c.requires.each (get_or c.args.walk.now c.loop-k.k 0) (Contains-get_or c.args.walk.now c.loop-k.k 0 c.loop-k-test.true)).high

pub bounds-numbers-image : goal.bounds-numbers-image
bounds-numbers-image c =
    let each = c.requires.each (get_or c.args.walk.now c.loop-k.k 0) (Contains-get_or c.args.walk.now c.loop-k.k 0 c.loop-k-test.true) in
    let low = each.image_low in
    let high = each.image_high in
    let image = c.image.ensures in
    omega arith

pub overflow_add-sum : goal.overflow_add-sum
overflow_add-sum c =
    let each = c.requires.each (get_or c.args.walk.now c.loop-k.k 0) (Contains-get_or c.args.walk.now c.loop-k.k 0 c.loop-k-test.true) in
    let inside = c.loop-k-test.true in
    let few = c.requires.few in
    let small = subst (λ d. nat_abs (number_at c.args.numbers.now d) ≤ 1) (sym c.image.ensures) each.small in
    fits_step _ (number_at c.args.numbers.now c.image.result) c.loop-k.k c.loop-k.invariant.small (omega arith) small

pub loop-k-preserved : goal.loop-k-preserved
loop-k-preserved c =
    let walk = c.args.walk.now in
    let f = c.args.map.now in
    let k = c.loop-k.k in
    let d = get_or walk k 0 in
    let x = number_at c.args.numbers.now in
    let each = c.requires.each d (Contains-get_or walk k 0 c.loop-k-test.true) in
    let inside = c.loop-k-test.true in
    let few = c.requires.few in
    let small = subst (λ e. nat_abs (x e) ≤ 1) (sym c.image.ensures) each.small in
    let more : image_walk f (take (k + 1) walk) ≡ image_walk f (take k walk) ++ item f d ∷ [] = ap (image_walk f) (take_more walk k 0 inside) ∙ map-append (item f) (take k walk) (d ∷ []) in
    record {
      sum =
          sum_step _ (x c.image.result) (sum_along x (image_walk f (take k walk))) k c.loop-k.invariant.sum c.loop-k.invariant.small (omega arith) small
          ∙ ap (λ e. sum_along x (image_walk f (take k walk)) +ℤ (x e +ℤ pos 0)) c.image.ensures
          ∙ sym (sum_along-append x (image_walk f (take k walk)) (item f d ∷ [])) ∙ ap (sum_along x) (sym more);
      small = size_step _ (x c.image.result) k c.loop-k.invariant.small (omega arith) small;
    }
