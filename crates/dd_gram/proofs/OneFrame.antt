-- A form gives one frame.
use Rattle.std.proofs.Common.{◌≡◌, ℕ, ◌+◌, ◌*◌, ◌<◌, ◌≤◌, ℤ, pos, negsuc, nat_abs, ◌+ℤ◌, ◌-ℤ◌, ◌*ℤ◌, ◌≤ℤ◌, ◌<ℤ◌, sym, ap, ◌∙◌, subst, ⊎_elim, mul-le-mul, arith}
use Rattle.std.proofs.lemmas.Bool.{cases_lt}
use Rattle.std.proofs.lemmas.Int.{ints}
use borrow.Author.Differences.{up, down}
use Rattle.dd_lattice.proofs.Rings.{at, nat, equal, ◌⊞◌, ◌⊠◌}
use Rattle.dd_model.specs.declared.frame.Frame.{Frame}
use Rattle.dd_model.specs.declared.frame.Frame.TheVariants as frames
use Rattle.dd_gram.specs.declared.forms.Gram.{Gram}
use Rattle.dd_gram.specs.Frames.{IsWholePart, IsWholeRoot, IsOwnFrame}

-- m more times d
more_times : (z : ℤ) (m d : ℕ) → (z +ℤ pos m) *ℤ pos d ≡ z *ℤ pos d +ℤ pos (m * d)
more_times z m d = equal ((at z ⊞ nat m) ⊠ nat d) ((at z ⊠ nat d) ⊞ nat (m * d)) (omega arith)

-- no whole part is less than another
part_not_less : (n d z w : ℤ) → pos 0 <ℤ d → IsWholePart n d z → IsWholePart n d w → z <ℤ w → ⊥
part_not_less n (pos d) z w some x y less =
    let m = nat_abs (w -ℤ z) in
    let e : w ≡ z +ℤ pos m = omega (arith, ints) in
    let one : 1 ≤ m = omega (arith, ints) in
    let far : w *ℤ pos d ≡ z *ℤ pos d +ℤ pos (m * d) = ap (λ v. v *ℤ pos d) e ∙ more_times z m d in
    let near = more_times z 1 d in
    let long : 1 * d ≤ m * d = mul-le-mul one (omega arith) in
    let low = y.low in
    let high = x.high in
    absurd (omega (arith, ints))
part_not_less n (negsuc d) z w some x y less = absurd (omega (arith, ints))

-- two whole numbers neither of which is less are equal
neither_less : (z w : ℤ) → (z <ℤ w → ⊥) → (w <ℤ z → ⊥) → z ≡ w
neither_less z w a b =
    ⊎_elim
    (λ less. absurd (a (omega (arith, ints))))
    (λ more. ⊎_elim (λ greater. absurd (b (omega (arith, ints)))) (λ most. omega (arith, ints)) (cases_lt (up w + down z) (up z + down w)))
    (cases_lt (up z + down w) (up w + down z))

whole_part_once : (n d z w : ℤ) → pos 0 <ℤ d → IsWholePart n d z → IsWholePart n d w → z ≡ w
whole_part_once n d z w some x y = neither_less z w (part_not_less n d z w some x y) (part_not_less n d w z some y x)

root_not_less : (n r s : ℤ) → IsWholeRoot n r → IsWholeRoot n s → r <ℤ s → ⊥
root_not_less n (pos a) (pos b) x y less =
    let more : a + 1 ≤ b = omega (arith, ints) in
    let square : (a + 1) * (a + 1) ≤ b * b = mul-le-mul more more in
    let high = x.high in
    let low = y.low in
    absurd (omega (arith, ints))
root_not_less n (negsuc a) s x y less = let positive = x.positive in absurd (omega (arith, ints))
root_not_less n r (negsuc b) x y less = let positive = y.positive in absurd (omega (arith, ints))

whole_root_once : (n r s : ℤ) → IsWholeRoot n r → IsWholeRoot n s → r ≡ s
whole_root_once n r s x y = neither_less r s (root_not_less n r s x y) (root_not_less n s r y x)

pub own_frame_once : (g : Gram) (f h : Frame) → pos 0 <ℤ g.a → IsOwnFrame g f → IsOwnFrame g h → f ≡ h
own_frame_once g f h positive x y =
    let p = whole_part_once (pos 1000 *ℤ g.b) g.a x.p y.p positive x.is_p y.is_p in
    let root = whole_root_once (pos 1000000 *ℤ (g.a *ℤ g.c -ℤ g.b *ℤ g.b)) x.root y.root x.is_root y.is_root in
    let q = whole_part_once y.root g.a x.q y.q positive (subst (λ r. IsWholePart r g.a x.q) root x.is_q) y.is_q in
    x.is ∙ (λ i. frames.Own (p i) (q i)) ∙ sym y.is
