use Rattle.std.proofs.Common.{◌≡◌, ℤ, to_z, of_z, ◌+ℤ◌, ◌*ℤ◌, nat_abs, ◌≤◌, FitsSigned, subst, sym, ◌∙◌, arith}
use Rattle.std.specs.Int.{w64, w128}
use Rattle.std.proofs.lemmas.Int.{fits_signed_from_abs, ints}
use Rattle.dd_gram.proofs.Distinct.{same_form}
use Rattle.dd_gram.proofs.SizeLemmas.{product_read, products_read, products_size}
use Rattle.dd_gram.proofs.forms.Gram.of_matrix.Goals as goal

fits : (x y u v x' y' u' v' : ℤ) → x ≡ x' → y ≡ y' → u ≡ u' → v ≡ v' → nat_abs x' ≤ 16384 → nat_abs y' ≤ 16384 → nat_abs u' ≤ 16384 → nat_abs v' ≤ 16384
    → FitsSigned w128 (to_z w128 (of_z w128 (to_z w128 (of_z w128 x) *ℤ to_z w128 (of_z w128 y))) +ℤ to_z w128 (of_z w128 (to_z w128 (of_z w128 u) *ℤ to_z w128 (of_z w128 v))))
fits x y u v x' y' u' v' ex ey eu ev hx hy hu hv =
    let size = products_size x' y' u' v' 16384 hx hy hu hv in
    let whole : to_z w128 (of_z w128 (to_z w128 (of_z w128 x) *ℤ to_z w128 (of_z w128 y))) +ℤ to_z w128 (of_z w128 (to_z w128 (of_z w128 u) *ℤ to_z w128 (of_z w128 v))) ≡ x' *ℤ y' +ℤ u' *ℤ v'
    = λ i. product_read x y x' y' ex ey hx hy i +ℤ product_read u v u' v' eu ev hu hv i in
    subst (FitsSigned w128) (sym whole) (fits_signed_from_abs w128 (x' *ℤ y' +ℤ u' *ℤ v') (omega arith))

own : (z : ℤ) → nat_abs z ≤ 16384 → to_z w64 (of_z w64 z) ≡ z
own z small = omega (arith, ints)

pub overflow_add-result : goal.overflow_add-result
overflow_add-result c =
    let m = c.args.m in
    let r = c.requires in
    fits c.from-xx.result c.from-xx.result c.from-yx.result c.from-yx.result m.xx m.xx m.yx m.yx (c.from-xx.ensures ∙ own m.xx r.xx) (c.from-xx.ensures ∙ own m.xx r.xx) (c.from-yx.ensures ∙ own m.yx r.yx) (c.from-yx.ensures ∙ own m.yx r.yx) r.xx r.xx r.yx r.yx

pub overflow_add-result-2 : goal.overflow_add-result-2
overflow_add-result-2 c =
    let m = c.args.m in
    let r = c.requires in
    fits c.from-xx.result c.from-xy.result c.from-yx.result c.from-yy.result m.xx m.xy m.yx m.yy (c.from-xx.ensures ∙ own m.xx r.xx) (c.from-xy.ensures ∙ own m.xy r.xy) (c.from-yx.ensures ∙ own m.yx r.yx) (c.from-yy.ensures ∙ own m.yy r.yy) r.xx r.xy r.yx r.yy

pub overflow_add-result-3 : goal.overflow_add-result-3
overflow_add-result-3 c =
    let m = c.args.m in
    let r = c.requires in
    fits c.from-xy.result c.from-xy.result c.from-yy.result c.from-yy.result m.xy m.xy m.yy m.yy (c.from-xy.ensures ∙ own m.xy r.xy) (c.from-xy.ensures ∙ own m.xy r.xy) (c.from-yy.ensures ∙ own m.yy r.yy) (c.from-yy.ensures ∙ own m.yy r.yy) r.xy r.xy r.yy r.yy

pub returns : goal.returns
returns c =
    let m = c.args.m in
    let r = c.requires in
    same_form _ _
    (products_read c.from-xx.result c.from-xx.result c.from-yx.result c.from-yx.result m.xx m.xx m.yx m.yx (c.from-xx.ensures ∙ own m.xx r.xx) (c.from-xx.ensures ∙ own m.xx r.xx) (c.from-yx.ensures ∙ own m.yx r.yx) (c.from-yx.ensures ∙ own m.yx r.yx) r.xx r.xx r.yx r.yx)
    (products_read c.from-xx.result c.from-xy.result c.from-yx.result c.from-yy.result m.xx m.xy m.yx m.yy (c.from-xx.ensures ∙ own m.xx r.xx) (c.from-xy.ensures ∙ own m.xy r.xy) (c.from-yx.ensures ∙ own m.yx r.yx) (c.from-yy.ensures ∙ own m.yy r.yy) r.xx r.xy r.yx r.yy)
    (products_read c.from-xy.result c.from-xy.result c.from-yy.result c.from-yy.result m.xy m.xy m.yy m.yy (c.from-xy.ensures ∙ own m.xy r.xy) (c.from-xy.ensures ∙ own m.xy r.xy) (c.from-yy.ensures ∙ own m.yy r.yy) (c.from-yy.ensures ∙ own m.yy r.yy) r.xy r.xy r.yy r.yy)
