-- The cell of a chamber is what its turns and their first neighbors reach.
use Rattle.std.proofs.Common.{◌≡◌, ℕ, zero, suc, ◌+◌, ◌-◌, ◌<◌, ◌≤◌, ◌⊎◌, [], ◌∷◌, ◌++◌, refl, sym, ap, ◌∙◌, subst, inl, inr, ⊎_elim, arith}
use Rattle.std.proofs.lemmas.Bool.{cases_eq, cases_lt}
use Rattle.dd_model.specs.declared.index.Index.{Index}
use Rattle.dd_model.specs.declared.pair.Pair.{Pair}
use Rattle.dd_model.specs.Symbol.{Symbol, AreInvolutions, IsChamber, Word, first, second, turn, op, act, power}
use Rattle.dd_model.specs.Cell.{IsWordOf, InCell, turned, IsPeriod}
use Rattle.dd_model.proofs.Words.{act-append, act-backwards, backwards}
use Rattle.dd_model.proofs.Turns.{turned_within, turned-last, period_exists, period_bound}

-- ## Words of a pair

pub letters-append : (p : Pair) (v w : Word) → IsWordOf p v → IsWordOf p w → IsWordOf p (v ++ w)
letters-append p [] w a b = b
letters-append p (i ∷ v) w a b = (a.0, letters-append p v w a.1 b)

pub letters-backwards : (p : Pair) (w : Word) → IsWordOf p w → IsWordOf p (backwards w)
letters-backwards p [] a = tt
letters-backwards p (i ∷ w) a = letters-append p (backwards w) (i ∷ []) (letters-backwards p w a.1) (a.0, tt)

pub letters-turns : (p : Pair) (k : ℕ) → IsWordOf p (power (turn p) k)
letters-turns p zero = tt
letters-turns p (suc k) = letters-append p (turn p) (power (turn p) k) (inl refl, (inr refl, tt)) (letters-turns p k)

-- the next place is a turn further
pub next_place : (s : Symbol) (p : Pair) (d k place : ℕ) → place ≡ turned s p k d → op s (second p) (op s (first p) place) ≡ turned s p (k + 1) d
next_place s p d k place is =
    let e : suc k ≡ k + 1 = omega arith in
    ap (act s (turn p)) is ∙ sym (turned-last s p k d) ∙ ap (λ j. turned s p j d) e

-- ## To lie in one cell is an equivalence of chambers

pub in_cell-refl : (s : Symbol) (p : Pair) (d : ℕ) → InCell s p d d
in_cell-refl s p d = record { word = []; letters = tt; leads = refl }

pub in_cell-trans : (s : Symbol) (p : Pair) (c d e : ℕ) → InCell s p c d → InCell s p d e → InCell s p c e
in_cell-trans s p c d e a b = record {
  word = a.word ++ b.word;
  letters = letters-append p a.word b.word a.letters b.letters;
  leads = act-append s a.word b.word c ∙ ap (act s b.word) a.leads ∙ b.leads;
}

pub in_cell-sym : (s : Symbol) → AreInvolutions s → (p : Pair) (d e : ℕ) → IsChamber s d → InCell s p d e → InCell s p e d
in_cell-sym s inv p d e h there = record {
  word = backwards there.word;
  letters = letters-backwards p there.word there.letters;
  leads = ap (act s (backwards there.word)) (sym there.leads) ∙ act-backwards s inv there.word d h;
}

-- the neighbor by an involution of the pair
pub in_cell-letter : (s : Symbol) (p : Pair) (d e : ℕ) (i : Index) → (i ≡ first p) ⊎ (i ≡ second p) → InCell s p d e → InCell s p d (op s i e)
in_cell-letter s p d e i letter there =
    in_cell-trans s p d e (op s i e) there (record { word = i ∷ []; letters = (letter, tt); leads = refl })

pub in_cell-first : (s : Symbol) (p : Pair) (d e : ℕ) → InCell s p d e → InCell s p d (op s (first p) e)
in_cell-first s p d e there = in_cell-letter s p d e (first p) (inl refl) there

pub in_cell-second : (s : Symbol) (p : Pair) (d e : ℕ) → InCell s p d e → InCell s p d (op s (second p) e)
in_cell-second s p d e there = in_cell-letter s p d e (second p) (inr refl) there

pub in_cell-turned : (s : Symbol) (p : Pair) (d k : ℕ) → InCell s p d (turned s p k d)
in_cell-turned s p d k = record { word = power (turn p) k; letters = letters-turns p k; leads = refl }

-- ## Periods

-- the least positive number of turns that fixes d, which is at most the number of chambers
pub record HasPeriod (s : Symbol) (p : Pair) (d : ℕ) : Type 0 where
  pub r : ℕ
  pub period : IsPeriod s p d r
  pub bound : r ≤ s.size

search_fixed : (s : Symbol) (p : Pair) (d j : ℕ)
    → ((r : ℕ) × (1 ≤ r) × (r ≤ j) × (turned s p r d ≡ d)) ⊎ ((k : ℕ) → 1 ≤ k → k < 1 + j → turned s p k d ≡ d → ⊥)
search_fixed s p d zero = inr (λ k low high fixed. absurd (omega arith))
search_fixed s p d (suc j) =
    ⊎_elim
    (λ found. inl (found.0, found.1, omega (arith, found.2), found.3))
    (λ none. ⊎_elim
    (λ here. inl (suc j, omega arith, omega arith, here))
    (λ moved. inr (λ k low high fixed. ⊎_elim
    (λ early. none k low early fixed)
    (λ late. let e : k ≡ suc j = omega arith in moved (subst (λ n. turned s p n d ≡ d) e fixed))
    (cases_lt k (1 + j))))
    (cases_eq (turned s p (suc j) d) d))
    (search_fixed s p d j)

-- Each chamber has a period.
pub has_period : (s : Symbol) → AreInvolutions s → (p : Pair) (d : ℕ) → IsChamber s d → HasPeriod s p d
has_period s inv p d h =
    ⊎_elim
    (λ found.
    let low : 1 ≤ found.0 = found.1 in
    let high : found.0 ≤ s.size = found.2 in
    let r = period_exists s p d found.0 found.1 found.3 in
    let least = r.1.least found.0 found.1 found.3 in
    record { r = r.0; period = r.1; bound = omega arith })
    (λ none. let bound = period_bound s inv p d (1 + s.size) h none in absurd (omega arith))
    (search_fixed s p d s.size)

-- ## What a walk by turns meets

-- e is met after so many turns from d, or is then the first neighbor of what is met
pub record IsMet (s : Symbol) (p : Pair) (d r e : ℕ) : Type 0 where
  pub turns : ℕ
  pub below : turns < r
  pub place : (turned s p turns d ≡ e) ⊎ (op s (first p) (turned s p turns d) ≡ e)

-- what is met lies in the cell
pub in_cell_from_met : (s : Symbol) (p : Pair) (d r e : ℕ) → IsMet s p d r e → InCell s p d e
in_cell_from_met s p d r e met =
    let there = in_cell-turned s p d met.turns in
    ⊎_elim
    (λ here. subst (InCell s p d) here there)
    (λ beside. subst (InCell s p d) beside (in_cell-first s p d (turned s p met.turns d) there))
    met.place

-- the second neighbor of what is met after k turns is the first neighbor of what is met a turn before
second_neighbor : (s : Symbol) → AreInvolutions s → (p : Pair) (d k : ℕ) → IsChamber s d
    → op s (first p) (turned s p k d) ≡ op s (second p) (turned s p (suc k) d)
second_neighbor s inv p d k h =
    let x = turned s p k d in
    let w = (inv (first p)).within x (turned_within s inv p k d h) in
    sym ((inv (second p)).involutive (op s (first p) x) w) ∙ ap (op s (second p)) (sym (turned-last s p k d))

met-first : (s : Symbol) → AreInvolutions s → (p : Pair) (d r e : ℕ) → IsChamber s d → IsMet s p d r e → IsMet s p d r (op s (first p) e)
met-first s inv p d r e h met = record {
  turns = met.turns;
  below = met.below;
  place = ⊎_elim
      (λ here. inr (ap (op s (first p)) here))
      (λ beside. inl (sym ((inv (first p)).involutive (turned s p met.turns d) (turned_within s inv p met.turns d h)) ∙ ap (op s (first p)) beside))
      met.place;
}

-- the second neighbor of what k turns meet
second_of_turned : (s : Symbol) → AreInvolutions s → (p : Pair) (d r : ℕ) → IsChamber s d → IsPeriod s p d r → (k : ℕ) → k < r → IsMet s p d r (op s (second p) (turned s p k d))
second_of_turned s inv p d r h period zero below =
    let round : suc (r - 1) ≡ r = let pos = period.positive in omega arith in
    record {
      turns = r - 1;
      below = let pos = period.positive in omega arith;
      place = inr (second_neighbor s inv p d (r - 1) h ∙ ap (λ k. op s (second p) (turned s p k d)) round ∙ ap (op s (second p)) period.fixed);
    }
second_of_turned s inv p d r h period (suc k) below = record {
  turns = k;
  below = omega arith;
  place = inr (second_neighbor s inv p d k h);
}

-- a turn more
next_turned : (s : Symbol) (p : Pair) (d r : ℕ) → IsPeriod s p d r → (k : ℕ) → k < r → IsMet s p d r (turned s p (suc k) d)
next_turned s p d r period k below =
    let pos = period.positive in
    ⊎_elim
    (λ last. let e : r ≡ suc k = omega arith in record { turns = 0; below = omega arith; place = inl (sym period.fixed ∙ ap (λ n. turned s p n d) e) })
    (λ early. record { turns = suc k; below = omega arith; place = inl refl })
    (cases_eq (suc k) r)

met-second : (s : Symbol) → AreInvolutions s → (p : Pair) (d r e : ℕ) → IsChamber s d → IsPeriod s p d r → IsMet s p d r e → IsMet s p d r (op s (second p) e)
met-second s inv p d r e h period met =
    ⊎_elim
    (λ here. subst (λ x. IsMet s p d r (op s (second p) x)) here (second_of_turned s inv p d r h period met.turns met.below))
    (λ beside. subst (IsMet s p d r) (turned-last s p met.turns d ∙ ap (op s (second p)) beside) (next_turned s p d r period met.turns met.below))
    met.place

met-word : (s : Symbol) → AreInvolutions s → (p : Pair) (d r : ℕ) → IsChamber s d → IsPeriod s p d r
    → (w : Word) (e : ℕ) → IsWordOf p w → IsMet s p d r e → IsMet s p d r (act s w e)
met-word s inv p d r h period [] e letters met = met
met-word s inv p d r h period (i ∷ w) e letters met =
    met-word s inv p d r h period w (op s i e) letters.1
    (⊎_elim
    (λ is. subst (λ j. IsMet s p d r (op s j e)) (sym is) (met-first s inv p d r e h met))
    (λ is. subst (λ j. IsMet s p d r (op s j e)) (sym is) (met-second s inv p d r e h period met))
    letters.0)

-- Each chamber of the cell is met within one period.
pub met_from_in_cell : (s : Symbol) → AreInvolutions s → (p : Pair) (d r e : ℕ) → IsChamber s d → IsPeriod s p d r → InCell s p d e → IsMet s p d r e
met_from_in_cell s inv p d r e h period there =
    let start : IsMet s p d r d = record { turns = 0; below = let pos = period.positive in omega arith; place = inl refl } in
    subst (IsMet s p d r) there.leads (met-word s inv p d r h period there.word d there.letters start)

-- ## What the first turns meet

-- what k turns meet, k + 1 turns meet
pub met_later : (s : Symbol) (p : Pair) (d k e : ℕ) → IsMet s p d k e → IsMet s p d (k + 1) e
met_later s p d k e met = record { turns = met.turns; below = let below = met.below in omega arith; place = met.place }

-- turn k meets what it leads to and the first neighbor of that, and k + 1 turns meet no more beside them
pub met_cases : (s : Symbol) (p : Pair) (d k e : ℕ) → IsMet s p d (k + 1) e
    → IsMet s p d k e ⊎ (turned s p k d ≡ e) ⊎ (op s (first p) (turned s p k d) ≡ e)
met_cases s p d k e met =
    ⊎_elim
    (λ early. inl (record { turns = met.turns; below = early; place = met.place }))
    (λ late.
    let below = met.below in
    let same : met.turns ≡ k = omega arith in
    inr (subst (λ n. (turned s p n d ≡ e) ⊎ (op s (first p) (turned s p n d) ≡ e)) same met.place))
    (cases_lt met.turns k)

-- the first return is the period
pub period_from_first_return : (s : Symbol) (p : Pair) (d r : ℕ) → 1 ≤ r → turned s p r d ≡ d
    → ((k : ℕ) → 1 ≤ k → k < r → turned s p k d ≡ d → ⊥) → IsPeriod s p d r
period_from_first_return s p d r pos fixed before = record {
  positive = pos;
  fixed = fixed;
  least = λ k low there. ⊎_elim (λ early. absurd (before k low early there)) (λ late. late) (cases_lt k r);
}
