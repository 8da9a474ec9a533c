use Rattle.std.proofs.Common.{◌≡◌, ℕ, ◌+◌, ◌<◌, List, [], ◌∷◌, length, get_or, drop, sym, ap, ◌∙◌, arith}
use Rattle.std.proofs.lemmas.List.{drop_more, drop_all}
use Rattle.std.specs.Ordering.{nat_cmp, ordering_then}
use Rattle.std.specs.Cmp.Lexicographic.{slice_cmp}
use Rattle.std.specs.declared.cmp.Ordering.{Ordering}
use Rattle.dd_model.proofs.Orders.{then_first, equal_of}
use Rattle.dd_numbers.proofs.numbers.Numbers.cmp.Goals as goal

-- one place of two lists is compared, and then the rest
one_place : (xs ys : List ℕ) (k x y : ℕ) (o : Ordering) → k < length xs → k < length ys → x ≡ get_or xs k 0 → y ≡ get_or ys k 0 → o ≡ nat_cmp x y
    → slice_cmp nat_cmp (drop k xs) (drop k ys) ≡ ordering_then o (slice_cmp nat_cmp (drop (k + 1) xs) (drop (k + 1) ys))
one_place xs ys k x y o hx hy ex ey is =
    let rest = slice_cmp nat_cmp (drop (k + 1) xs) (drop (k + 1) ys) in
    ap (λ zs. slice_cmp nat_cmp zs (drop k ys)) (drop_more xs k 0 hx)
    ∙ ap (slice_cmp nat_cmp (get_or xs k 0 ∷ drop (k + 1) xs)) (drop_more ys k 0 hy)
    ∙ sym (ap (λ p. ordering_then p rest) (is ∙ ap (λ z. nat_cmp z y) ex ∙ ap (nat_cmp (get_or xs k 0)) ey))

pub returns-then-is_ne : goal.returns-then-is_ne
returns-then-is_ne c =
    let xs = c.args.self.now in
    let ys = c.args.other.now in
    let k = c.loop-place.place in
    let o = c.cmp-order.result in
    then_first o (slice_cmp nat_cmp (drop (k + 1) xs) (drop (k + 1) ys)) (sym c.is_ne.ensures ∙ c.if-is_ne.true)
    ∙ sym (one_place xs ys k c.get.result c.get-in-loop-place.result o (omega arith) (omega arith) c.get.ensures c.get-in-loop-place.ensures c.cmp-order.ensures)
    ∙ sym c.loop-place.invariant

pub loop-place-preserved : goal.loop-place-preserved
loop-place-preserved c =
    let xs = c.args.self.now in
    let ys = c.args.other.now in
    let k = c.loop-place.place in
    let o = c.cmp-order.result in
    c.loop-place.invariant
    ∙ one_place xs ys k c.get.result c.get-in-loop-place.result o (omega arith) (omega arith) c.get.ensures c.get-in-loop-place.ensures c.cmp-order.ensures
    ∙ ap (λ p. ordering_then p (slice_cmp nat_cmp (drop (k + 1) xs) (drop (k + 1) ys))) (equal_of o (sym c.is_ne.ensures ∙ c.if-is_ne.false))

pub returns : goal.returns
returns c =
    let ys = c.args.other.now in
    let k = c.loop-place.place in
    sym (c.loop-place.invariant ∙ ap (λ zs. slice_cmp nat_cmp zs (drop k ys)) (drop_all k c.args.self.now (omega arith)) ∙ ap (slice_cmp nat_cmp []) (drop_all k ys (omega arith)))
