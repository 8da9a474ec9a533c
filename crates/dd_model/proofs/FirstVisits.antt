-- A numbering by first visits has the least code among all numberings with its start.
use Rattle.std.proofs.Common.{◌≡◌, ℕ, zero, suc, ◌+◌, ◌<◌, ◌≤◌, ◌⊎◌, inl, inr, List, [], ◌∷◌, ◌++◌, max, refl, sym, ap, ◌∙◌, subst, ⊎_elim, arith}
use Rattle.std.proofs.lemmas.Bool.{cases_lt, cases_eq}
use Rattle.std.proofs.lemmas.List.{append_assoc}
use Rattle.std.specs.Cmp.{nat_cmp_is}
use Rattle.std.specs.Cmp.Lexicographic.{slice_cmp}
use Rattle.std.specs.Ordering.{nat_cmp}
use Rattle.std.specs.declared.cmp.Ordering.TheVariants.{Less, Equal}
use Rattle.dd_model.specs.declared.index.Index.{Index}
use Rattle.dd_model.specs.declared.index.Index.TheVariants.{Zero, One, Two}
use Rattle.dd_model.specs.Symbol.{Symbol, IsTable, AreInvolutions, IsChamber, Word, act, item, op}
use Rattle.dd_model.specs.Connected.{Connected}
use Rattle.dd_model.specs.Isomorphic.{IsIsomorphism}
use Rattle.dd_model.specs.Code.{code, code_cmp}
use Rattle.dd_model.specs.FirstVisit.{Grows, IsFirstVisit, rows}
use Rattle.dd_model.proofs.FixedMaps.{same_by_fixed_map}

-- f fixes the chambers 1 to m
pub record Fixes (m : ℕ) (f : List ℕ) : Type 0 where
  pub fixed : (d : ℕ) → 1 ≤ d → d ≤ m → item f d ≡ d

-- the involutions take the chambers before k to chambers up to m
pub record IsMet (s : Symbol) (k m : ℕ) : Type 0 where
  pub met : (i : Index) (d : ℕ) → 1 ≤ d → d < k → op s i d ≤ m

pub injective : (s t : Symbol) (f : List ℕ) → IsIsomorphism s t f → (d e : ℕ) → IsChamber s d → IsChamber s e → item f d ≡ item f e → d ≡ e
injective s t f iso d e hd he same =
    let left = iso.bijection.left in
    sym (left.undone d hd.0 hd.1) ∙ ap (item iso.bijection.inverse) same ∙ left.undone e he.0 he.1

-- words stay among chambers that the involutions do not leave
act_met : (s : Symbol) (m : ℕ) → AreInvolutions s → IsMet s (m + 1) m → (w : Word) (d : ℕ) → IsChamber s d → d ≤ m → act s w d ≤ m
act_met s m inv met [] d h low = low
act_met s m inv met (i ∷ w) d h low =
    act_met s m inv met w (op s i d) ((inv i).within d h) (met.met i d h.0 (omega arith))

-- in a connected symbol no chamber is left out
pub met_all : (s : Symbol) (m : ℕ) → IsTable s → Connected s → 1 ≤ m → IsMet s (m + 1) m → (d : ℕ) → IsChamber s d → d ≤ m
met_all s m is con pos met d h =
    let r = con d h in
    subst (λ x. x ≤ m) r.leads (act_met s m is.involutions met r.word 1 (omega arith, is.chambers) pos)

-- One image more: the numbering with first visits is smaller there, or the map fixes one chamber more.
step : (s t : Symbol) (f : List ℕ) → AreInvolutions s → IsIsomorphism s t f → (m d : ℕ) (i : Index) → IsChamber s d → d ≤ m → Fixes m f → op s i d ≤ m + 1
    → (op s i d < op t i d) ⊎ ((op s i d ≡ op t i d) × Fixes (max m (op s i d)) f)
step s t f inv iso m d i h low fix next =
    let x = op s i d in
    let hx = (inv i).within d h in
    let e : item f x ≡ op t i d = iso.morphism.op i d h ∙ ap (op t i) (fix.fixed d h.0 low) in
    let hy = iso.bijection.left.within x hx.0 hx.1 in
    ⊎_elim
    (λ old.
    let same : item f x ≡ x = fix.fixed x hx.0 (omega arith) in
    inr (sym same ∙ e, record { fixed = λ c a b. fix.fixed c a (omega arith) }))
    (λ new.
    ⊎_elim
    (λ met.
    let again : item f (item f x) ≡ item f x = fix.fixed (item f x) hy.0 (omega arith) in
    let same : item f x ≡ x = injective s t f iso (item f x) x hy hx again in
    absurd (omega arith))
    (λ far.
    ⊎_elim
    (λ same. inr (
      sym same ∙ e,
      record {
        fixed = λ c a b.
            ⊎_elim (λ early. fix.fixed c a (omega arith)) (λ late. let here : c ≡ x = omega arith in subst (λ z. item f z ≡ z) (sym here) same) (cases_lt c (m + 1));
      },
    ))
    (λ other. inl (subst (λ z. x < z) e (omega arith)))
    (cases_eq (item f x) x))
    (cases_lt (item f x) (m + 1)))
    (cases_lt x (m + 1))

pub less_here : (x y : ℕ) (xs ys : List ℕ) → x < y → slice_cmp nat_cmp (x ∷ xs) (y ∷ ys) ≡ Less
less_here x y xs ys h = let e : nat_cmp x y ≡ Less = sym (nat_cmp_is x y Less h) in rw e refl

pub less_later : (x y : ℕ) (xs ys : List ℕ) → x ≡ y → slice_cmp nat_cmp xs ys ≡ Less → slice_cmp nat_cmp (x ∷ xs) (y ∷ ys) ≡ Less
less_later x y xs ys same later = let e : nat_cmp x y ≡ Equal = sym (nat_cmp_is x y Equal same) in rw e later

-- From chamber k on, m chambers being met and fixed by the map.
walk : (s t : Symbol) (f us vs : List ℕ) → IsTable s → Connected s → IsIsomorphism s t f → (n k m : ℕ) → 1 ≤ k → 1 ≤ m → k ≤ m + 1 → k + n ≡ s.size + 1
    → Fixes m f → IsMet s k m → Grows m (rows s k n) → (slice_cmp nat_cmp (rows s k n ++ us) (rows t k n ++ vs) ≡ Less) ⊎ Fixes s.size f
walk s t f us vs is con iso zero k m low pos up count fix met grows = inr (record { fixed = λ d a b. fix.fixed d a (omega arith) })
walk s t f us vs is con iso (suc n) k m low pos up count fix met grows =
    let inv = is.involutions in
    let hk : IsChamber s k = (low, omega arith) in
    let here : k ≤ m = ⊎_elim
    (λ out. let e : k ≡ m + 1 = omega arith in met_all s m is con pos (subst (λ j. IsMet s j m) e met) k hk)
    (λ inside. inside)
    (cases_lt m k) in
    let x0 = op s Zero k in
    let x1 = op s One k in
    let x2 = op s Two k in
    let y0 = op t Zero k in
    let y1 = op t One k in
    let y2 = op t Two k in
    let rs = rows s (k + 1) n ++ us in
    let rt = rows t (k + 1) n ++ vs in
    ⊎_elim
    (λ less. inl (less_here x0 y0 (x1 ∷ x2 ∷ rs) (y1 ∷ y2 ∷ rt) less))
    (λ one. ⊎_elim
    (λ less. inl (less_later x0 y0 (x1 ∷ x2 ∷ rs) (y1 ∷ y2 ∷ rt) one.0 (less_here x1 y1 (x2 ∷ rs) (y2 ∷ rt) less)))
    (λ two. ⊎_elim
    (λ less. inl (less_later x0 y0 (x1 ∷ x2 ∷ rs) (y1 ∷ y2 ∷ rt) one.0 (less_later x1 y1 (x2 ∷ rs) (y2 ∷ rt) two.0 (less_here x2 y2 rs rt less))))
    (λ three. ⊎_elim
    (λ less. inl (less_later x0 y0 (x1 ∷ x2 ∷ rs) (y1 ∷ y2 ∷ rt) one.0 (less_later x1 y1 (x2 ∷ rs) (y2 ∷ rt) two.0 (less_later x2 y2 rs rt three.0 less))))
    (λ all. inr all)
    (walk s t f us vs is con iso n (k + 1) (max (max (max m x0) x1) x2) (omega arith) (omega arith) (omega arith) (omega arith) three.1
    (record {
      met = λ i d a b. ⊎_elim
          (λ early. let old = met.met i d a early in omega arith)
          (λ late. let same : d ≡ k = omega arith in subst (λ z. op s i z ≤ max (max (max m x0) x1) x2) (sym same)
          (elim i as (λ j. op s j k ≤ max (max (max m x0) x1) x2) [ Zero ↦ omega arith | One ↦ omega arith | Two ↦ omega arith ]))
          (cases_lt d k);
    })
    grows.1.1.1))
    (step s t f inv iso (max (max m x0) x1) k Two hk (omega arith) two.1 grows.1.1.0))
    (step s t f inv iso (max m x0) k One hk (omega arith) one.1 grows.1.0))
    (step s t f inv iso m k Zero hk here fix grows.0)

-- A numbering by first visits is below each other numbering with the same start.
pub first_visit_wins : (s t : Symbol) (f : List ℕ) → IsTable s → IsTable t → Connected s → IsFirstVisit s → IsIsomorphism s t f → item f 1 ≡ 1
    → (code_cmp s t ≡ Less) ⊎ (s ≡ t)
first_visit_wins s t f is it con first iso start =
    ⊎_elim
    (λ less.
    let sizes : nat_cmp s.size t.size ≡ Equal = sym (nat_cmp_is s.size t.size Equal (sym iso.size)) in
    let cs : code s ≡ rows s 1 s.size ++ (s.m01 ++ s.m12) = append_assoc (rows s 1 s.size) s.m01 s.m12 in
    let ct : code t ≡ rows t 1 s.size ++ (t.m01 ++ t.m12) =
    append_assoc (rows t 1 t.size) t.m01 t.m12 ∙ ap (λ n. rows t 1 n ++ (t.m01 ++ t.m12)) iso.size in
    let codes : slice_cmp nat_cmp (code s) (code t) ≡ Less = rw (cs, ct) less in
    inl (rw sizes codes))
    (λ all. inr (same_by_fixed_map s t f is it iso (λ d h. all.fixed d h.0 h.1)))
    (walk s t f (s.m01 ++ s.m12) (t.m01 ++ t.m12) is con iso s.size 1 1 (omega arith) (omega arith) (omega arith) (omega arith)
    (record { fixed = λ d a b. let e : d ≡ 1 = omega arith in subst (λ z. item f z ≡ z) (sym e) start })
    (record { met = λ i d a b. absurd (omega arith) })
    first)
