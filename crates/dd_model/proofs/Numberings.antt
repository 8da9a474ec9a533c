-- From each start a connected symbol has a numbering by first visits: where an image is too great, two numbers are exchanged.
use Rattle.std.proofs.Common.{◌≡◌, ℕ, zero, suc, ◌+◌, ◌*◌, ◌<◌, ◌≤◌, ◌⊎◌, inl, inr, List, ◌∷◌, max, refl, sym, ap, ◌∙◌, subst, ⊎_elim, arith}
use Rattle.std.proofs.lemmas.Bool.{cases_lt}
use Rattle.dd_model.specs.declared.index.Index.{Index}
use Rattle.dd_model.specs.declared.index.Index.TheVariants.{Zero, One, Two}
use Rattle.dd_model.specs.Symbol.{Symbol, IsTable, IsChamber, item, op}
use Rattle.dd_model.specs.Connected.{Connected}
use Rattle.dd_model.specs.Isomorphic.{IsIsomorphism}
use Rattle.dd_model.specs.FirstVisit.{Grows, IsNumberedFrom, rows}
use Rattle.dd_model.proofs.Bijections.{after, item-after}
use Rattle.dd_model.proofs.Isomorphisms.{IsIsomorphism-after}
use Rattle.dd_model.proofs.Exchanges.{renumbered, renumbered_table, renumbered_isomorphism, swapped, swapped_first, swapped_other, swap, swap_bijection, item-table}
use Rattle.dd_model.proofs.Transport.{Connected-along}
use Rattle.dd_model.proofs.FirstVisits.{met_all}
use Rattle.dd_model.specs.Indices.{index_number}
use Rattle.dd_model.proofs.AllIndices.{index_low, index_same}

-- s in numbers that begin with a start chamber
pub record IsStarted (s : Symbol) (start : ℕ) (t : Symbol) : Type 0 where
  pub table : IsTable t
  pub map : List ℕ
  pub isomorphism : IsIsomorphism s t map
  pub start_first : item map start ≡ 1

-- u has the images of t before place p, chamber d's image under i being at 3 d + index_number i
pub record IsSameBefore (p : ℕ) (t u : Symbol) : Type 0 where
  pub same : (i : Index) (d : ℕ) → 1 ≤ d → 3 * d + index_number i < p → op t i d ≡ op u i d

-- The images before place p are first visits of the chambers to m. What comes from p on decides.
pub record IsBegun (n p : ℕ) (rest : Symbol → List ℕ) (m : ℕ) (t : Symbol) : Type 0 where
  pub met : (i : Index) (d : ℕ) → 1 ≤ d → 3 * d + index_number i < p → op t i d ≤ m
  pub decides : (u : Symbol) → IsSameBefore p t u → Grows m (rest u) → Grows 1 (rows u 1 n)

-- A next image is at most one more than m, after an exchange of it with m + 1 if need be.
pub record IsNext (s : Symbol) (start p k : ℕ) (i : Index) (m : ℕ) (t u : Symbol) : Type 0 where
  pub started : IsStarted s start u
  pub same : IsSameBefore p t u
  pub next : op u i k ≤ m + 1

started_along : (s t u : Symbol) (start : ℕ) (g : List ℕ) → IsTable s → IsChamber s start → (a : IsStarted s start t) → IsTable u → IsIsomorphism t u g → item g 1 ≡ 1 → IsStarted s start u
started_along s t u start g is h a iu iso one = record {
  table = iu;
  map = after g a.map;
  isomorphism = IsIsomorphism-after s t u a.map g is a.isomorphism iso;
  start_first = item-after g a.map s.size start a.isomorphism.morphism.images h.0 h.1 ∙ ap (item g) a.start_first ∙ one;
}

next_image : (s t : Symbol) (start n p : ℕ) (rest : Symbol → List ℕ) (k : ℕ) (i : Index) (m : ℕ) → IsTable s → IsChamber s start → IsStarted s start t → IsBegun n p rest m t
    → p ≡ 3 * k + index_number i → IsChamber t k → k ≤ m → (u : Symbol) × IsNext s start p k i m t u
next_image s t start n p rest k i m is h a begun place hk low =
    ⊎_elim
    (λ small. (t, record { started = a; same = record { same = λ j d _ _. refl }; next = omega arith }))
    (λ great.
    let it = a.table in
    let x = op t i k in
    let hx = (it.involutions i).within k hk in
    let y = m + 1 in
    let b = swap_bijection x y t.size hx.0 hx.1 (omega arith) (omega arith) in
    let f = swap x y t.size in
    let u = renumbered t f b.inverse in
    let iso : IsIsomorphism t u f = renumbered_isomorphism t f b in
    let iu : IsTable u = renumbered_table t f it b in
    let kept : (d : ℕ) → 1 ≤ d → d ≤ m → item f d ≡ d =
    λ d ld hd. item-table (swapped x y) t.size d ld (omega arith) ∙ swapped_other x y d (λ e. omega arith) (λ e. omega arith) in
    let moved : item f x ≡ y = item-table (swapped x y) t.size x hx.0 hx.1 ∙ swapped_first x y in
    let hi = index_low i in (
      u,
      record {
        started = started_along s t u start f is h a iu iso (kept 1 (omega arith) (omega arith));
        same = record {
          same = λ j d ld before.
              let hd : IsChamber t d = (ld, omega arith) in
              let met = begun.met j d ld before in
              let w = (it.involutions j).within d hd in
              sym (kept (op t j d) w.0 met) ∙ iso.morphism.op j d hd ∙ ap (op u j) (kept d ld (omega arith));
        };
        next = let e : op u i k ≡ y = ap (op u i) (sym (kept k hk.0 low)) ∙ sym (iso.morphism.op i k hk) ∙ moved in omega arith;
      },
    ))
    (cases_lt (op t i k) (m + 2))

before_or_here : (p k d : ℕ) (i j : Index) → p ≡ 3 * k + index_number i → 3 * d + index_number j < p + 1 → (3 * d + index_number j < p) ⊎ ((d ≡ k) × (j ≡ i))
before_or_here p k d i j place h =
    let a = index_low i in
    let b = index_low j in
    ⊎_elim (λ before. inl before) (λ here. inr (omega arith, index_same j i (omega arith))) (cases_lt (3 * d + index_number j) p)

more_begun : (n p : ℕ) (rest : Symbol → List ℕ) (k : ℕ) (i : Index) (m : ℕ) (t u : Symbol) → IsBegun n p (λ v. op v i k ∷ rest v) m t → p ≡ 3 * k + index_number i → 1 ≤ k
    → IsSameBefore p t u → op u i k ≤ m + 1 → IsBegun n (p + 1) rest (max m (op u i k)) u
more_begun n p rest k i m t u begun place low same next = record {
  met = λ j d ld h. ⊎_elim
      (λ before. let old = begun.met j d ld before in let e = same.same j d ld before in omega arith)
      (λ here. let e : op u j d ≡ op u i k = ap (op u j) here.0 ∙ ap (λ z. op u z k) here.1 in omega arith)
      (before_or_here p k d i j place h);
  decides = λ v as_u grows.
      let e : op u i k ≡ op v i k = as_u.same i k low (omega arith) in
      begun.decides v
      (record { same = λ j d ld h. same.same j d ld h ∙ as_u.same j d ld (omega arith) })
      (subst (λ x. x ≤ m + 1) e next, subst (λ x. Grows (max m x) (rest v)) e grows);
}

-- as far as place p
pub record IsState (s : Symbol) (start n p : ℕ) (rest : Symbol → List ℕ) (low : ℕ) : Type 0 where
  pub symbol : Symbol
  pub m : ℕ
  pub started : IsStarted s start symbol
  pub begun : IsBegun n p rest m symbol
  pub enough : low ≤ m

advance : (s : Symbol) (start n p : ℕ) (rest : Symbol → List ℕ) (k : ℕ) (i : Index) (low : ℕ) → IsTable s → IsChamber s start → IsState s start n p (λ v. op v i k ∷ rest v) low
    → p ≡ 3 * k + index_number i → IsChamber s k → k ≤ low → IsState s start n (p + 1) rest low
advance s start n p rest k i low is h st place hk met =
    let t = st.symbol in
    let size = st.started.isomorphism.size in
    let enough = st.enough in
    let next = next_image s t start n p (λ v. op v i k ∷ rest v) k i st.m is h st.started st.begun place (hk.0, omega (arith, hk.1)) (omega arith) in
    record {
      symbol = next.0;
      m = max st.m (op next.0 i k);
      started = next.1.started;
      begun = more_begun n p rest k i st.m t next.0 st.begun place hk.0 next.1.same next.1.next;
      enough = omega arith;
    }

-- the chambers to k are met before the row of chamber k, since the symbol is connected
row_met : (s t : Symbol) (start n k m : ℕ) (rest : Symbol → List ℕ) → IsTable s → Connected s → IsStarted s start t → IsBegun n (3 * k) rest m t → 1 ≤ m → k ≤ m + 1 → 1 ≤ k → k ≤ s.size → k ≤ m
row_met s t start n k m rest is con a begun pos up lk hk =
    ⊎_elim
    (λ out.
    let e : k ≡ m + 1 = omega arith in
    let size = a.isomorphism.size in
    met_all t m a.table (Connected-along s t a.map is a.isomorphism con) pos
    (record { met = λ i d ld hd. let r = index_low i in begun.met i d ld (omega arith) }) k (lk, omega arith))
    (λ inside. inside)
    (cases_lt m k)

all_rows : (s : Symbol) (start n k low : ℕ) → IsTable s → Connected s → IsChamber s start → 1 ≤ k → k + n ≡ s.size + 1 → 1 ≤ low → k ≤ low + 1
    → IsState s start s.size (3 * k) (λ v. rows v k n) low → (t : Symbol) × IsNumberedFrom s start t
all_rows s start zero k low is con h lk count pos up st =
    let a = st.started in
    let t = st.symbol in (
      t,
      record {
        table = a.table;
        map = a.map;
        isomorphism = a.isomorphism;
        start_first = a.start_first;
        first_visit = subst (λ n. Grows 1 (rows t 1 n)) (sym a.isomorphism.size) (st.begun.decides t (record { same = λ i d _ _. refl }) tt);
      },
    )
all_rows s start (suc n) k low is con h lk count pos up st =
    let hk : IsChamber s k = (lk, omega arith) in
    let enough = st.enough in
    let met : k ≤ st.m = row_met s st.symbol start s.size k st.m (λ v. rows v k (suc n)) is con st.started st.begun (omega arith) (omega arith) lk hk.1 in
    let st0 : IsState s start s.size (3 * k) (λ v. rows v k (suc n)) k =
    record { symbol = st.symbol; m = st.m; started = st.started; begun = st.begun; enough = met } in
    let st1 = advance s start s.size (3 * k) (λ v. op v One k ∷ op v Two k ∷ rows v (k + 1) n) k Zero k is h st0 (omega arith) hk (omega arith) in
    let st2 = advance s start s.size (3 * k + 1) (λ v. op v Two k ∷ rows v (k + 1) n) k One k is h st1 (omega arith) hk (omega arith) in
    let st3 = advance s start s.size (3 * k + 1 + 1) (λ v. rows v (k + 1) n) k Two k is h st2 (omega arith) hk (omega arith) in
    let e : 3 * k + 1 + 1 + 1 ≡ 3 * (k + 1) = omega arith in
    all_rows s start n (k + 1) k is con h (omega arith) (omega arith) lk (omega arith) (subst (λ p. IsState s start s.size p (λ v. rows v (k + 1) n) k) e st3)

-- s with its first chamber and the start exchanged
started : (s : Symbol) (start : ℕ) → IsTable s → IsChamber s start → (t : Symbol) × IsStarted s start t
started s start is h =
    let one = is.chambers in
    let f = swap start 1 s.size in
    let b = swap_bijection start 1 s.size h.0 h.1 (omega arith) one in (
      renumbered s f b.inverse,
      record {
        table = renumbered_table s f is b;
        map = f;
        isomorphism = renumbered_isomorphism s f b;
        start_first = item-table (swapped start 1) s.size start h.0 h.1 ∙ swapped_first start 1;
      },
    )

pub numbered_from : (s : Symbol) (start : ℕ) → IsTable s → Connected s → IsChamber s start → (t : Symbol) × IsNumberedFrom s start t
numbered_from s start is con h =
    let a = started s start is h in
    let one = is.chambers in
    all_rows s start s.size 1 1 is con h (omega arith) (omega arith) (omega arith) (omega arith) (record {
      symbol = a.0;
      m = 1;
      started = a.1;
      begun = record { met = λ i d ld before. absurd (omega arith); decides = λ u _ grows. grows };
      enough = omega arith;
    })
