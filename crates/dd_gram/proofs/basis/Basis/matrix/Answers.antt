use Rattle.std.proofs.Common.{◌≡◌, ◌≤◌, ℕ, List, ℤ, nat_abs, length, w64, to_z, of_z, sym, ap, ◌∙◌, subst, arith}
use Rattle.std.proofs.lemmas.Int.{ints}
use Rattle.std.specs.List.{Contains}
use Rattle.dd_gram.specs.Shifts.{number_at, HasSmallImage}
use Rattle.dd_gram.specs.Walks.{sum_along, image_walk}
use Rattle.dd_gram.proofs.BasisLemmas.{matrix_acts, small_images}
use Rattle.dd_gram.proofs.basis.Basis.matrix.Goals as goal

read : (v z : ℤ) (n : ℕ) → v ≡ z → nat_abs v ≤ n → n ≤ 16384 → to_z w64 (of_z w64 v) ≡ z
read v z n e small few = omega (arith, ints)

pub sum_of_images-requires-clause-each : goal.sum_of_images-requires-clause-each
sum_of_images-requires-clause-each c d here =
    let some = c.requires.some in
    let basis = c.args.self.now in
    subst (λ list. HasSmallImage list c.args.map.now d) (sym c.deref.ensures.value)
    (small_images some.t some.is_net.first basis.numbers.x.items (some.is_basis.x some.is_net) c.args.map.now some.isomorphism basis.first.items (some.is_basis.first some.is_net).closed d (subst (λ ws. Contains ws d) c.deref-2.ensures.value here))

pub sum_of_images-requires-2-clause-each : goal.sum_of_images-requires-2-clause-each
sum_of_images-requires-2-clause-each c d here =
    let some = c.requires.some in
    let basis = c.args.self.now in
    subst (λ list. HasSmallImage list c.args.map.now d) (sym c.deref-3.ensures.value)
    (small_images some.t some.is_net.first basis.numbers.x.items (some.is_basis.x some.is_net) c.args.map.now some.isomorphism basis.second.items (some.is_basis.second some.is_net).closed d (subst (λ ws. Contains ws d) c.deref-4.ensures.value here))

pub sum_of_images-requires-3-clause-each : goal.sum_of_images-requires-3-clause-each
sum_of_images-requires-3-clause-each c d here =
    let some = c.requires.some in
    let basis = c.args.self.now in
    subst (λ list. HasSmallImage list c.args.map.now d) (sym c.deref-5.ensures.value)
    (small_images some.t some.is_net.second basis.numbers.y.items (some.is_basis.y some.is_net) c.args.map.now some.isomorphism basis.first.items (some.is_basis.first some.is_net).closed d (subst (λ ws. Contains ws d) c.deref-6.ensures.value here))

pub sum_of_images-requires-4-clause-each : goal.sum_of_images-requires-4-clause-each
sum_of_images-requires-4-clause-each c d here =
    let some = c.requires.some in
    let basis = c.args.self.now in
    subst (λ list. HasSmallImage list c.args.map.now d) (sym c.deref-7.ensures.value)
    (small_images some.t some.is_net.second basis.numbers.y.items (some.is_basis.y some.is_net) c.args.map.now some.isomorphism basis.second.items (some.is_basis.second some.is_net).closed d (subst (λ ws. Contains ws d) c.deref-8.ensures.value here))

pub returns-clause-action : goal.returns-clause-action
returns-clause-action c t net torus is kept iso =
    let basis = c.args.self.now in
    let f = c.args.map.now in
    let some = c.requires.some in
    matrix_acts t net torus is basis kept f iso _
    (read c.sum_of_images.result (sum_along (number_at basis.numbers.x.items) (image_walk f basis.first.items)) (length c.deref-2.result.now)
    (c.sum_of_images.ensures.sum ∙ (λ i. sum_along (number_at (c.deref.ensures.value i)) (image_walk f (c.deref-2.ensures.value i)))) c.sum_of_images.ensures.small
    (let few = some.is_basis.few_first in let size = ap (λ (xs : List ℕ). length xs) c.deref-2.ensures.value in omega arith))
    (read c.sum_of_images-2.result (sum_along (number_at basis.numbers.x.items) (image_walk f basis.second.items)) (length c.deref-4.result.now)
    (c.sum_of_images-2.ensures.sum ∙ (λ i. sum_along (number_at (c.deref-3.ensures.value i)) (image_walk f (c.deref-4.ensures.value i)))) c.sum_of_images-2.ensures.small
    (let few = some.is_basis.few_second in let size = ap (λ (xs : List ℕ). length xs) c.deref-4.ensures.value in omega arith))
    (read c.sum_of_images-3.result (sum_along (number_at basis.numbers.y.items) (image_walk f basis.first.items)) (length c.deref-6.result.now)
    (c.sum_of_images-3.ensures.sum ∙ (λ i. sum_along (number_at (c.deref-5.ensures.value i)) (image_walk f (c.deref-6.ensures.value i)))) c.sum_of_images-3.ensures.small
    (let few = some.is_basis.few_first in let size = ap (λ (xs : List ℕ). length xs) c.deref-6.ensures.value in omega arith))
    (read c.sum_of_images-4.result (sum_along (number_at basis.numbers.y.items) (image_walk f basis.second.items)) (length c.deref-8.result.now)
    (c.sum_of_images-4.ensures.sum ∙ (λ i. sum_along (number_at (c.deref-7.ensures.value i)) (image_walk f (c.deref-8.ensures.value i)))) c.sum_of_images-4.ensures.small
    (let few = some.is_basis.few_second in let size = ap (λ (xs : List ℕ). length xs) c.deref-8.ensures.value in omega arith))
