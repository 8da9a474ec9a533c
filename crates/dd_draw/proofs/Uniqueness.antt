-- A connected net has at most one placement.
use Rattle.std.proofs.Common.{◌≡◌, ◌≢◌, ℕ, suc, ◌-◌, ◌<◌, ◌≤◌, ℤ, pos, ◌+ℤ◌, ◌-ℤ◌, ◌*ℤ◌, Bool, true, false, cond, nat_eq, List, [], ◌∷◌, length, get_or, inr, sym, ap, ◌∙◌, subst, arith}
use Rattle.std.proofs.lemmas.Int.{ints}
use Rattle.std.proofs.lemmas.List.{ext_get_or}
use Rattle.dd_cells.specs.declared.fractions.Fraction.{Fraction}
use Rattle.dd_lattice.specs.Nets.{IsConnectedNet}
use Rattle.dd_lattice.specs.declared.net.Net.{Net}
use Rattle.dd_lattice.specs.declared.net_edge.NetEdge.{NetEdge}
use Rattle.dd_lattice.proofs.Rings.{at, nat, equal, ◌⊞◌, ◌⊟◌, ◌⊠◌}
use Rattle.dd_draw.proofs.Integers.{cancel, product_nonzero, same_fraction}
use Rattle.dd_draw.proofs.NetLemmas.{zero_everywhere}
use Rattle.dd_draw.specs.Placement.{Point, pull, if_same, ArePlaced, IsPlacement, point_of, origin}

-- ## Two solutions, taken from each other

if_combined : (b : Bool) (x a c r q : ℤ) → x ≡ a *ℤ r -ℤ c *ℤ q → cond b x (pos 0) ≡ cond b a (pos 0) *ℤ r -ℤ cond b c (pos 0) *ℤ q
if_combined true x a c r q e = e
if_combined false x a c r q e = equal (nat 0) ((nat 0 ⊠ at r) ⊟ (nat 0 ⊠ at q)) (omega arith)

pub pull_combined : (shift : NetEdge → ℤ) (q r : ℤ) (f g : ℕ → ℤ) (es : List NetEdge) (v : ℕ)
    → pull shift (pos 0) (λ w. f w *ℤ r -ℤ g w *ℤ q) es v ≡ pull shift q f es v *ℤ r -ℤ pull shift r g es v *ℤ q
pull_combined shift q r f g [] v = equal (nat 0) ((nat 0 ⊠ at r) ⊟ (nat 0 ⊠ at q)) (omega arith)
pull_combined shift q r f g (e ∷ es) v =
    let h : ℕ → ℤ = λ w. f w *ℤ r -ℤ g w *ℤ q in
    let s = shift e in
    let forth = if_combined (nat_eq e.from v) ((h e.to +ℤ pos 0 *ℤ s) -ℤ h v) ((f e.to +ℤ q *ℤ s) -ℤ f v) ((g e.to +ℤ r *ℤ s) -ℤ g v) r q
    (equal
    ((((at (f e.to) ⊠ at r) ⊟ (at (g e.to) ⊠ at q)) ⊞ (nat 0 ⊠ at s)) ⊟ ((at (f v) ⊠ at r) ⊟ (at (g v) ⊠ at q)))
    ((((at (f e.to) ⊞ (at q ⊠ at s)) ⊟ at (f v)) ⊠ at r) ⊟ (((at (g e.to) ⊞ (at r ⊠ at s)) ⊟ at (g v)) ⊠ at q)) (omega arith)) in
    let back = if_combined (nat_eq e.to v) ((h e.from -ℤ pos 0 *ℤ s) -ℤ h v) ((f e.from -ℤ q *ℤ s) -ℤ f v) ((g e.from -ℤ r *ℤ s) -ℤ g v) r q
    (equal
    ((((at (f e.from) ⊠ at r) ⊟ (at (g e.from) ⊠ at q)) ⊟ (nat 0 ⊠ at s)) ⊟ ((at (f v) ⊠ at r) ⊟ (at (g v) ⊠ at q)))
    ((((at (f e.from) ⊟ (at q ⊠ at s)) ⊟ at (f v)) ⊠ at r) ⊟ (((at (g e.from) ⊟ (at r ⊠ at s)) ⊟ at (g v)) ⊠ at q)) (omega arith)) in
    let rest = pull_combined shift q r f g es v in
    let a = if_same e.from v ((f e.to +ℤ q *ℤ s) -ℤ f v) in
    let b = if_same e.to v ((f e.from -ℤ q *ℤ s) -ℤ f v) in
    let c = if_same e.from v ((g e.to +ℤ r *ℤ s) -ℤ g v) in
    let d = if_same e.to v ((g e.from -ℤ r *ℤ s) -ℤ g v) in
    let fs = pull shift q f es v in
    let gs = pull shift r g es v in
    three forth back rest
    ∙ equal
    ((((at a ⊠ at r) ⊟ (at c ⊠ at q)) ⊞ ((at b ⊠ at r) ⊟ (at d ⊠ at q))) ⊞ ((at fs ⊠ at r) ⊟ (at gs ⊠ at q)))
    ((((at a ⊞ at b) ⊞ at fs) ⊠ at r) ⊟ (((at c ⊞ at d) ⊞ at gs) ⊠ at q)) (omega arith)
  where
    three : {x y z x' y' z' : ℤ} → x ≡ x' → y ≡ y' → z ≡ z' → (x +ℤ y) +ℤ z ≡ (x' +ℤ y') +ℤ z'
    three e f g = λ i. (e i +ℤ f i) +ℤ g i

same_point : (x y : Fraction) (q r f g : ℤ) → q ≢ pos 0 → r ≢ pos 0 → x.num *ℤ q ≡ f *ℤ x.den → y.num *ℤ r ≡ g *ℤ y.den
    → f *ℤ r -ℤ g *ℤ q ≡ pos 0 → x.num *ℤ y.den ≡ y.num *ℤ x.den
same_point x y q r f g some more ex ey e =
    let u = at x.num in let a = at x.den in let v = at y.num in let b = at y.den in let p = at q in let s = at r in
    let m = at f in let n = at g in
    let same : f *ℤ r ≡ g *ℤ q = omega (arith, ints) in
    cancel (x.num *ℤ y.den) (y.num *ℤ x.den) (q *ℤ r) (product_nonzero q r some more)
    (equal ((u ⊠ b) ⊠ (p ⊠ s)) ((u ⊠ p) ⊠ (b ⊠ s)) (omega arith)
    ∙ ap (λ z. z *ℤ (y.den *ℤ r)) ex
    ∙ equal ((m ⊠ a) ⊠ (b ⊠ s)) ((m ⊠ s) ⊠ (a ⊠ b)) (omega arith)
    ∙ ap (λ z. z *ℤ (x.den *ℤ y.den)) same
    ∙ equal ((n ⊠ p) ⊠ (a ⊠ b)) ((n ⊠ b) ⊠ (a ⊠ p)) (omega arith)
    ∙ ap (λ z. z *ℤ (x.den *ℤ q)) (sym ey)
    ∙ equal ((v ⊠ s) ⊠ (a ⊠ p)) ((v ⊠ a) ⊠ (p ⊠ s)) (omega arith))

pub placed_unique : (net : Net) (shift : NetEdge → ℤ) (one other : ℕ → Fraction) → IsConnectedNet net → ArePlaced net shift one → ArePlaced net shift other
    → (v : ℕ) → 1 ≤ v → v ≤ net.vertices → one v ≡ other v
placed_unique net shift one other c x y v low high =
    let q = x.denominator in
    let r = y.denominator in
    let h : ℕ → ℤ = λ w. x.numerators w *ℤ r -ℤ y.numerators w *ℤ q in
    let start : h 1 ≡ pos 0 = ap (λ z. z *ℤ r -ℤ y.numerators 1 *ℤ q) x.start ∙ ap (λ z. pos 0 *ℤ r -ℤ z *ℤ q) y.start
    ∙ equal ((nat 0 ⊠ at r) ⊟ (nat 0 ⊠ at q)) (nat 0) (omega arith) in
    let level : (k : ℕ) → k < net.vertices → pull shift (pos 0) h net.edges.items (suc k) ≡ pos 0 = λ k l.
    pull_combined shift q r x.numerators y.numerators net.edges.items (suc k)
    ∙ ap (λ z. z *ℤ r -ℤ pull shift r y.numerators net.edges.items (suc k) *ℤ q) (x.balanced (suc k) (omega arith) (omega arith))
    ∙ ap (λ z. pos 0 *ℤ r -ℤ z *ℤ q) (y.balanced (suc k) (omega arith) (omega arith))
    ∙ equal ((nat 0 ⊠ at r) ⊟ (nat 0 ⊠ at q)) (nat 0) (omega arith) in
    let none = zero_everywhere net shift h c start (λ k l. inr (level k l)) v low high in
    same_fraction (one v) (other v) (x.reduced v low high) (y.reduced v low high)
    (same_point (one v) (other v) q r (x.numerators v) (y.numerators v) x.nonzero y.nonzero (x.over v low high) (y.over v low high) none)

pub placement_unique : (net : Net) (one other : List Point) → IsConnectedNet net → IsPlacement net one → IsPlacement net other → one ≡ other
placement_unique net one other c p q = ext_get_or origin one other (p.count ∙ sym q.count) at_place
  where
    point : (k : ℕ) → k < net.vertices → get_or one k origin ≡ get_or other k origin
    point k l =
        let x = placed_unique net (λ e. e.x) (λ v. (point_of one v).x) (λ v. (point_of other v).x) c p.x q.x (suc k) (omega arith) (omega arith) in
        let y = placed_unique net (λ e. e.y) (λ v. (point_of one v).y) (λ v. (point_of other v).y) c p.y q.y (suc k) (omega arith) (omega arith) in
        let both : get_or one (suc k - 1) origin ≡ get_or other (suc k - 1) origin = λ i. record { x = x i; y = y i } in
        let place : suc k - 1 ≡ k = omega arith in
        subst (λ n. get_or one n origin ≡ get_or other n origin) place both

    at_place : (k : ℕ) → k < length one → get_or one k origin ≡ get_or other k origin
    at_place k l = let n = p.count in point k (omega arith)
