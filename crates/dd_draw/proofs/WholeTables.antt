-- The tables in whole numbers over one denominator: what a step of the elimination keeps.
use Rattle.std.proofs.Common.{◌≡◌, ◌≢◌, ℕ, suc, ◌≤◌, ℤ, pos, ◌+ℤ◌, ◌-ℤ◌, ◌*ℤ◌, Bool, true, false, cond, nat_eq, refl, sym, ap, ◌∙◌, ⊎_elim, arith}
use Rattle.std.proofs.lemmas.Bool.{cases_eq, eq-eqb, ne_eqb}
use Rattle.dd_lattice.proofs.Rings.{at, nat, equal, ◌⊞◌, ◌⊟◌, ◌⊠◌}
use Rattle.dd_draw.proofs.Integers.{zero_factor}
use Rattle.dd_draw.proofs.Totals.{total, total_combined, if_same-same, if_same-other}
use Rattle.dd_draw.specs.Placement.{if_same}

-- entries with one denominator
pub record Table : Type 0 where
  pub number : ℕ → ℕ → ℤ
  pub scale : ℤ

-- the table after the step at p
abbrev pub after : ℕ → Table → Table
after p t = record {
  number = λ i j. cond (nat_eq i p) (t.number p j *ℤ t.scale) (t.number i j *ℤ t.number p p -ℤ t.number i p *ℤ t.number p j);
  scale = t.scale *ℤ t.number p p;
}

pub after-own : (p : ℕ) (t : Table) (i j : ℕ) → i ≡ p → (after p t).number i j ≡ t.number p j *ℤ t.scale
after-own p t i j e = ap (λ b. cond b (t.number p j *ℤ t.scale) (t.number i j *ℤ t.number p p -ℤ t.number i p *ℤ t.number p j)) (eq-eqb i p e)

pub after-other : (p : ℕ) (t : Table) (i j : ℕ) → i ≢ p → (after p t).number i j ≡ t.number i j *ℤ t.number p p -ℤ t.number i p *ℤ t.number p j
after-other p t i j n = ap (λ b. cond b (t.number p j *ℤ t.scale) (t.number i j *ℤ t.number p p -ℤ t.number i p *ℤ t.number p j)) (ne_eqb i p n)

-- ## Rows at numbers

-- what row i gives at numbers in units of 1/q, with the right side in column c
abbrev pub value : ℕ → (ℕ → ℤ) → ℤ → ℕ → Table → ℕ → ℤ
value n w q c t i = total (λ z. t.number i z *ℤ w z) n -ℤ q *ℤ t.number i c

value_combined : (n : ℕ) (w : ℕ → ℤ) (q : ℤ) (c : ℕ) (f g h : ℕ → ℤ) (a b : ℤ) → ((j : ℕ) → f j ≡ g j *ℤ a -ℤ b *ℤ h j)
    → total (λ z. f z *ℤ w z) n -ℤ q *ℤ f c ≡ (total (λ z. g z *ℤ w z) n -ℤ q *ℤ g c) *ℤ a -ℤ b *ℤ (total (λ z. h z *ℤ w z) n -ℤ q *ℤ h c)
value_combined n w q c f g h a b e =
    let tf = total (λ z. f z *ℤ w z) n in
    let tg = total (λ z. g z *ℤ w z) n in
    let th = total (λ z. h z *ℤ w z) n in
    let sums : pos 1 *ℤ tf ≡ a *ℤ tg -ℤ b *ℤ th = total_combined (λ z. f z *ℤ w z) (λ z. g z *ℤ w z) (λ z. h z *ℤ w z) (pos 1) a b n
    (λ z l. ap (λ y. pos 1 *ℤ (y *ℤ w z)) (e z)
    ∙ equal (nat 1 ⊠ (((at (g z) ⊠ at a) ⊟ (at b ⊠ at (h z))) ⊠ at (w z))) ((at a ⊠ (at (g z) ⊠ at (w z))) ⊟ (at b ⊠ (at (h z) ⊠ at (w z)))) (omega arith)) in
    equal (at tf ⊟ (at q ⊠ at (f c))) ((nat 1 ⊠ at tf) ⊟ (at q ⊠ at (f c))) (omega arith)
    ∙ (λ i. sums i -ℤ q *ℤ e c i)
    ∙ equal (((at a ⊠ at tg) ⊟ (at b ⊠ at th)) ⊟ (at q ⊠ ((at (g c) ⊠ at a) ⊟ (at b ⊠ at (h c)))))
    (((at tg ⊟ (at q ⊠ at (g c))) ⊠ at a) ⊟ (at b ⊠ (at th ⊟ (at q ⊠ at (h c))))) (omega arith)

-- Numbers at which the first m rows are 0 after a step make them 0 before it.
pub before_step : (n : ℕ) (w : ℕ → ℤ) (q : ℤ) (c p m : ℕ) (t : Table) → t.scale ≢ pos 0 → t.number p p ≢ pos 0 → 1 ≤ p → p ≤ m
    → ((i : ℕ) → 1 ≤ i → i ≤ m → value n w q c (after p t) i ≡ pos 0) → (i : ℕ) → 1 ≤ i → i ≤ m → value n w q c t i ≡ pos 0
before_step n w q c p m t some pivot low high rows i li hi =
    let zero_row : ℕ → ℤ = λ j. pos 0 in
    let v = value n w q c t p in
    let own : value n w q c (after p t) p ≡ v *ℤ t.scale -ℤ pos 0 *ℤ v =
    value_combined n w q c (λ j. (after p t).number p j) (λ j. t.number p j) (λ j. t.number p j) t.scale (pos 0)
    (λ j. after-own p t p j refl ∙ equal (at (t.number p j) ⊠ at t.scale) ((at (t.number p j) ⊠ at t.scale) ⊟ (nat 0 ⊠ at (t.number p j))) (omega arith)) in
    let top : v ≡ pos 0 = zero_factor v t.scale
    (equal (at v ⊠ at t.scale) ((at v ⊠ at t.scale) ⊟ (nat 0 ⊠ at v)) (omega arith) ∙ sym own ∙ rows p low high) some in
    ⊎_elim
    (λ same. ap (λ k. value n w q c t k) same ∙ top)
    (λ other.
    let u = value n w q c t i in
    let b = t.number i p in
    let step : value n w q c (after p t) i ≡ u *ℤ t.number p p -ℤ b *ℤ v =
    value_combined n w q c (λ j. (after p t).number i j) (λ j. t.number i j) (λ j. t.number p j) (t.number p p) b (λ j. after-other p t i j other) in
    zero_factor u (t.number p p)
    (equal (at u ⊠ at (t.number p p)) (((at u ⊠ at (t.number p p)) ⊟ (at b ⊠ at v)) ⊞ (at b ⊠ at v)) (omega arith)
    ∙ ap (λ z. z +ℤ b *ℤ v) (sym step ∙ rows i li hi) ∙ ap (λ z. pos 0 +ℤ b *ℤ z) top ∙ equal (nat 0 ⊞ (at b ⊠ nat 0)) (nat 0) (omega arith)) pivot)
    (cases_eq i p)

-- ## The columns that are done

-- in the first k columns row i has 1 in column i alone
abbrev pub IsUnit : Table → ℕ → Type 0
IsUnit t k = (i j : ℕ) → 1 ≤ i → 1 ≤ j → j ≤ k → t.number i j ≡ if_same i j t.scale

pub unit_after : (t : Table) (k : ℕ) → IsUnit t k → IsUnit (after (suc k) t) (suc k)
unit_after t k unit i j li lj hj =
    let p = suc k in
    let a = at (t.number p j) in
    ⊎_elim
    (λ own. after-own p t i j own ∙ ⊎_elim
    (λ last. ap (λ m. t.number p m *ℤ t.scale) last
    ∙ equal (at (t.number p p) ⊠ at t.scale) (at t.scale ⊠ at (t.number p p)) (omega arith)
    ∙ sym (if_same-same i j (t.scale *ℤ t.number p p) (own ∙ sym last)))
    (λ early. ap (λ z. z *ℤ t.scale) (unit p j (omega arith) lj (omega arith) ∙ if_same-other p j t.scale (λ e. early (sym e)))
    ∙ equal (nat 0 ⊠ at t.scale) (nat 0) (omega arith)
    ∙ sym (if_same-other i j (t.scale *ℤ t.number p p) (λ e. early (sym e ∙ own))))
    (cases_eq j p))
    (λ other. after-other p t i j other ∙ ⊎_elim
    (λ last. ap (λ m. t.number i m *ℤ t.number p p -ℤ t.number i p *ℤ t.number p m) last
    ∙ equal ((at (t.number i p) ⊠ at (t.number p p)) ⊟ (at (t.number i p) ⊠ at (t.number p p))) (nat 0) (omega arith)
    ∙ sym (if_same-other i j (t.scale *ℤ t.number p p) (λ e. other (e ∙ last))))
    (λ early.
    ap (λ z. t.number i j *ℤ t.number p p -ℤ t.number i p *ℤ z) (unit p j (omega arith) lj (omega arith) ∙ if_same-other p j t.scale (λ e. early (sym e)))
    ∙ equal ((at (t.number i j) ⊠ at (t.number p p)) ⊟ (at (t.number i p) ⊠ nat 0)) (at (t.number i j) ⊠ at (t.number p p)) (omega arith)
    ∙ ap (λ z. z *ℤ t.number p p) (unit i j li lj (omega arith))
    ∙ scaled (nat_eq i j) t.scale (t.number p p))
    (cases_eq j p))
    (cases_eq i p)
  where
    scaled : (b : Bool) (x y : ℤ) → cond b x (pos 0) *ℤ y ≡ cond b (x *ℤ y) (pos 0)
    scaled true x y = refl
    scaled false x y = equal (nat 0 ⊠ at y) (nat 0) (omega arith)
