-- A step of the elimination, row by row, and the first wide place.
use Rattle.std.proofs.Common.{◌≡◌, ◌≢◌, ◌⊎◌, ℕ, zero, suc, ◌+◌, ◌<◌, ◌≤◌, List, [], ◌∷◌, ◌++◌, length, set, inl, inr, refl, sym, ap, ◌∙◌, subst, ⊎_elim, below_more, add-one, arith}
use Rattle.std.proofs.lemmas.Bool.{cases_eq, cases_lt}
use Rattle.std.proofs.lemmas.List.{length-set, length-append, get_or-set_same, get_or-set_other, get_or_append_left, get_or_push}
use Rattle.dd_cells.specs.declared.fractions.Fraction.{Fraction}
use Rattle.dd_lattice.specs.Nets.{IsConnectedNet}
use Rattle.dd_lattice.specs.declared.net.Net.{Net}
use Rattle.dd_draw.proofs.RatioTables.{entry-first}
use Rattle.dd_draw.proofs.TableLemmas.{own_wide, own_not_wide, own_quotient_not_wide, other_wide, other_not_wide, row_not_wide, AreWideRemainders}
use Rattle.dd_draw.specs.Elimination.{entry, whole, first_entry}
use Rattle.dd_draw.specs.Limit.{IsWide, IsNarrow}
use Rattle.dd_draw.specs.Rows.{AreMade, IsFirstColumn, number_at, quotients}
use Rattle.dd_draw.specs.Tables.{IsRowOf, IsTable, IsMidway, row_at, place_at}
use Rattle.dd_draw.specs.Width.{Place, IsPlaceOf, IsWideAt, IsFirstWide}

-- ## Places

-- A place of a net by its row and column, counted from 0.
by_place : (net : Net) (k : ℕ) (P : ℕ → ℕ → Type 0) (p : Place) → IsPlaceOf net p → p.step ≡ k
    → ((i j : ℕ) → suc i ≡ p.row → suc j ≡ p.column → suc i < net.vertices → j < net.vertices + 1 → ¬ IsWideAt net (place_at k (suc i) (suc j))) → ¬ IsWideAt net p
by_place net k P p is step h = parts p.step p.row p.column step is.some_row is.row is.some_column is.column h
  where
    parts : (s r c : ℕ) → s ≡ k → 1 ≤ r → r < net.vertices → 1 ≤ c → c ≤ net.vertices + 1
        → ((i j : ℕ) → suc i ≡ r → suc j ≡ c → suc i < net.vertices → j < net.vertices + 1 → ¬ IsWideAt net (place_at k (suc i) (suc j))) → ¬ IsWideAt net (place_at s r c)
    parts s zero c e lr hr lc hc h = absurd (omega arith)
    parts s (suc i) zero e lr hr lc hc h = absurd (omega arith)
    parts s (suc i) (suc j) e lr hr lc hc h = subst (λ t. ¬ IsWideAt net (place_at t (suc i) (suc j))) (sym e) (h i j refl refl hr (omega arith))

-- ## The first table

-- the first n rows of the first table
pub record IsBegun (net : Net) (n : ℕ) (rows : List (List Fraction)) : Type 0 where
  pub many : length rows ≡ n
  pub each : (i : ℕ) → i < n → IsRowOf net zero (suc i) (row_at rows i)

pub first_row_of : (net : Net) (i : ℕ) (new : List Fraction) → AreMade (λ j. whole (first_entry net i (suc j))) (λ j. IsWide (whole (first_entry net i (suc j)))) (net.vertices + 1) new
    → IsRowOf net zero i new
first_row_of net i new made = record {
  many = made.many;
  each = λ j l. subst (IsNarrow (number_at new j)) (sym (entry-first net i (suc j))) (made.each j l);
}

pub begun_more : (net : Net) (n : ℕ) (rows rows' : List (List Fraction)) (new : List Fraction) → rows' ≡ rows ++ new ∷ [] → IsBegun net n rows
    → IsRowOf net zero (suc n) new → IsBegun net (n + 1) rows'
begun_more net n rows rows' new e begun here = subst (IsBegun net (n + 1)) (sym e) (record {
  many = let m = begun.many in omega (arith, length-append rows (new ∷ []));
  each = below_more (λ i. IsRowOf net zero (suc i) (row_at (rows ++ new ∷ []) i)) n
      (λ i l. let m = begun.many in subst (IsRowOf net zero (suc i)) (sym (get_or_append_left rows (new ∷ []) [] i (omega arith))) (begun.each i l))
      (subst (IsRowOf net zero (suc n)) (sym (get_or_push rows new [] n begun.many)) here);
})

first_not_wide : (net : Net) (i j : ℕ) (row : List Fraction) → IsConnectedNet net → IsRowOf net zero i row → j < net.vertices + 1 → ¬ IsWideAt net (place_at zero i (suc j))
first_not_wide net i j row connected is inside (inl w) = let n = connected.some in row_not_wide net zero i j row connected (omega arith) is inside w
first_not_wide net i j row connected is inside (inr w) = absurd (let low = w.0 in omega arith)

pub begun_all : (net : Net) (n : ℕ) (rows : List (List Fraction)) → IsConnectedNet net → suc n ≡ net.vertices → IsBegun net n rows → IsTable net zero rows
begun_all net n rows connected all begun = record {
  many = let m = begun.many in omega arith;
  each = λ i l. let m = begun.many in begun.each i (omega arith);
  narrow = λ p is low. by_place net zero (λ i j. Unit {0}) p is (omega arith)
      (λ i j er ec hr hc. first_not_wide net (suc i) j (row_at rows i) connected (begun.each i (omega arith)) hc);
}

pub first_fault : (net : Net) (n c : ℕ) (rows : List (List Fraction)) → IsConnectedNet net → suc n < net.vertices → IsBegun net n rows
    → IsFirstColumn (net.vertices + 1) (λ j. IsWide (whole (first_entry net (suc n) (suc j)))) c → IsFirstWide net (place_at zero (suc n) c)
first_fault net n c rows connected low begun at = record {
  place = record { step = omega arith; some_row = omega arith; row = low; some_column = let e = at.column in omega arith; column = let e = at.column in let i = at.inside in omega arith };
  wide = inl (subst (λ m. IsWide (entry net zero (suc n) m)) (sym (at.column ∙ add-one at.place)) (subst IsWide (sym (entry-first net (suc n) (suc at.place))) at.wide));
  first = λ q is before. ⊎_elim
      (λ early. absurd (omega arith))
      (λ here. by_place net zero (λ i j. Unit {0}) q is here.0
      (λ i j er ec hr hc. ⊎_elim
      (λ rows_before. ⊎_elim
      (λ own. absurd (let o = own.0 in let s = here.0 in omega arith))
      (λ other. first_not_wide net (suc i) j (row_at rows i) connected (begun.each i (let o = other.2 in omega arith)) hc)
      rows_before)
      (λ same. in_row i j (let s = same.0 in omega arith) (let s = same.1 in let e = at.column in omega arith))
      here.1))
      before;
}
  where
    in_row : (i j : ℕ) → i ≡ n → j < at.place → ¬ IsWideAt net (place_at zero (suc i) (suc j))
    in_row i j e l (inl w) = at.first j l (subst IsWide (entry-first net (suc n) (suc j)) (subst (λ m. IsWide (entry net zero (suc m) (suc j))) e w))
    in_row i j e l (inr w) = absurd (let b = w.0 in omega arith)

-- ## A step

pub midway_first : (net : Net) (k : ℕ) (rows : List (List Fraction)) (new : List Fraction) → IsConnectedNet net → suc k < net.vertices → IsTable net k rows
    → IsRowOf net (suc k) (suc k) new → IsMidway net k 0 (set rows k new)
midway_first net k rows new connected low t here = record {
  many = ap suc (length-set rows k new) ∙ t.many;
  done = λ i l which. ⊎_elim (λ none. absurd (omega arith)) (λ own. own_row_at i own) which;
  left = λ i l above other. let m = length-set rows k new in subst (IsRowOf net k (suc i)) (sym (get_or-set_other rows k i new [] other)) (t.each i (omega arith));
  narrow = t.narrow;
  narrow_here = λ i j l which inside. ⊎_elim (λ none. absurd (omega arith))
      (λ own. subst (λ n. ¬ IsWideAt net (place_at (suc k) (suc n) (suc j))) (sym own) (own_not_wide net k j new connected low here inside)) which;
}
  where
    own_row_at : (i : ℕ) → i ≡ k → IsRowOf net (suc k) (suc i) (row_at (set rows k new) i)
    own_row_at i e = let m = t.many in subst (λ n. IsRowOf net (suc k) (suc n) (row_at (set rows k new) n)) (sym e)
        (subst (IsRowOf net (suc k) (suc k)) (sym (get_or-set_same rows k new [] (omega arith))) here)

pub midway_skip : (net : Net) (k m : ℕ) (rows : List (List Fraction)) → m ≡ k → IsMidway net k m rows → IsMidway net k (m + 1) rows
midway_skip net k m rows e h = record {
  many = h.many;
  done = λ i l which. h.done i l (which_of i which);
  left = λ i l above other. h.left i l (omega arith) other;
  narrow = h.narrow;
  narrow_here = λ i j l which inside. h.narrow_here i j l (which_of i which) inside;
}
  where
    which_of : (i : ℕ) → (i < m + 1) ⊎ (i ≡ k) → (i < m) ⊎ (i ≡ k)
    which_of i w = ⊎_elim (λ low. inl low) (λ high. inr (⊎_elim (λ l. omega arith) (λ s. s) w)) (cases_lt i m)

pub midway_more : (net : Net) (k m : ℕ) (rows : List (List Fraction)) (new : List Fraction) → m ≢ k → m < length rows → IsMidway net k m rows
    → IsRowOf net (suc k) (suc m) new → ((j : ℕ) → j < net.vertices + 1 → ¬ IsWideAt net (place_at (suc k) (suc m) (suc j)))
    → IsMidway net k (m + 1) (set rows m new)
midway_more net k m rows new other low h here slim = record {
  many = ap suc (length-set rows m new) ∙ h.many;
  done = λ i l which. let n = length-set rows m new in ⊎_elim
      (λ own. subst (λ a. IsRowOf net (suc k) (suc a) (row_at (set rows m new) a)) (sym own)
      (subst (IsRowOf net (suc k) (suc m)) (sym (get_or-set_same rows m new [] low)) here))
      (λ away. subst (IsRowOf net (suc k) (suc i)) (sym (get_or-set_other rows m i new [] away)) (h.done i (omega arith) (which_of i away which)))
      (cases_eq i m);
  left = λ i l above away. let n = length-set rows m new in
      subst (IsRowOf net k (suc i)) (sym (get_or-set_other rows m i new [] (λ e. absurd (omega arith)))) (h.left i (omega arith) (omega arith) away);
  narrow = h.narrow;
  narrow_here = λ i j l which inside. let n = length-set rows m new in ⊎_elim
      (λ own. subst (λ a. ¬ IsWideAt net (place_at (suc k) (suc a) (suc j))) (sym own) (slim j inside))
      (λ away. h.narrow_here i j (omega arith) (which_of i away which) inside)
      (cases_eq i m);
}
  where
    which_of : (i : ℕ) → i ≢ m → (i < m + 1) ⊎ (i ≡ k) → (i < m) ⊎ (i ≡ k)
    which_of i away w = ⊎_elim (λ l. inl (omega arith)) (λ s. inr s) w

pub midway_all : (net : Net) (k m : ℕ) (rows : List (List Fraction)) → length rows ≤ m → IsMidway net k m rows → IsTable net (suc k) rows
midway_all net k m rows all h = record {
  many = h.many;
  each = λ i l. h.done i l (inl (omega arith));
  narrow = λ p is low. ⊎_elim
      (λ early. h.narrow p is (omega arith))
      (λ late. by_place net (suc k) (λ i j. Unit {0}) p is (omega arith)
      (λ i j er ec hr hc. let n = h.many in h.narrow_here i j (omega arith) (inl (omega arith)) hc))
      (cases_lt p.step (suc k));
}

-- ## Where a step stops

pub own_fault : (net : Net) (k c : ℕ) (rows : List (List Fraction)) → IsConnectedNet net → suc k < net.vertices → IsTable net k rows
    → IsFirstColumn (length (row_at rows k)) (λ j. IsWide (quotients (row_at rows k) (number_at (row_at rows k) k) j)) c → IsFirstWide net (place_at (suc k) (suc k) c)
own_fault net k c rows connected low t at = record {
  place = record {
    step = low;
    some_row = omega arith;
    row = low;
    some_column = let e = at.column in omega arith;
    column = let e = at.column in let i = at.inside in let m = is.many in omega arith;
  };
  wide = subst (λ m. IsWideAt net (place_at (suc k) (suc k) m)) (sym (at.column ∙ add-one at.place))
      (own_wide net k at.place (row_at rows k) connected low is (let i = at.inside in let m = is.many in omega arith) at.wide);
  first = λ q qis before. ⊎_elim
      (λ early. t.narrow q qis (omega arith))
      (λ here. by_place net (suc k) (λ i j. Unit {0}) q qis here.0
      (λ i j er ec hr hc. ⊎_elim
      (λ rows_before. ⊎_elim
      (λ own. absurd (own.1 (sym here.0)))
      (λ other. absurd (other.1 (sym here.0)))
      rows_before)
      (λ same. in_row i j (let s = same.0 in omega arith) (let s = same.1 in let e = at.column in omega arith) hc)
      here.1))
      before;
}
  where
    is : IsRowOf net k (suc k) (row_at rows k)
    is = let m = t.many in t.each k (omega arith)

    in_row : (i j : ℕ) → i ≡ k → j < at.place → j < net.vertices + 1 → ¬ IsWideAt net (place_at (suc k) (suc i) (suc j))
    in_row i j e l inside = subst (λ n. ¬ IsWideAt net (place_at (suc k) (suc n) (suc j))) (sym e)
        (own_quotient_not_wide net k j (row_at rows k) connected low (let m = t.many in t.each k (omega arith)) inside (at.first j l))

pub other_fault : (net : Net) (k m c : ℕ) (rows : List (List Fraction)) → IsConnectedNet net → suc k < net.vertices → m ≢ k → m < length rows → IsMidway net k m rows
    → IsFirstColumn (length (row_at rows m)) (AreWideRemainders (row_at rows m) (number_at (row_at rows m) k) (row_at rows k)) c
    → IsFirstWide net (place_at (suc k) (suc m) c)
other_fault net k m c rows connected low other inside h at = record {
  place = record {
    step = low;
    some_row = omega arith;
    row = let n = h.many in omega arith;
    some_column = let e = at.column in omega arith;
    column = let e = at.column in let i = at.inside in let n = here.many in omega arith;
  };
  wide = subst (λ n. IsWideAt net (place_at (suc k) (suc m) n)) (sym (at.column ∙ add-one at.place))
      (other_wide net k (suc m) at.place (row_at rows m) (row_at rows k) connected low (λ e. other (omega arith)) here top
      (let i = at.inside in let n = here.many in omega arith) at.wide);
  first = λ q qis before. ⊎_elim
      (λ early. h.narrow q qis (omega arith))
      (λ at_step. by_place net (suc k) (λ i j. Unit {0}) q qis at_step.0
      (λ i j er ec hr hc. let n = h.many in ⊎_elim
      (λ rows_before. ⊎_elim
      (λ own. h.narrow_here i j (omega arith) (inr (let o = own.0 in let s = at_step.0 in omega arith)) hc)
      (λ away. h.narrow_here i j (omega arith) (inl (let o = away.2 in omega arith)) hc)
      rows_before)
      (λ same. in_row i j (let s = same.0 in omega arith) (let s = same.1 in let e = at.column in omega arith) hc)
      at_step.1))
      before;
}
  where
    here : IsRowOf net k (suc m) (row_at rows m)
    here = h.left m inside (omega arith) other

    top : IsRowOf net (suc k) (suc k) (row_at rows k)
    top = let n = h.many in h.done k (omega arith) (inr refl)

    in_row : (i j : ℕ) → i ≡ m → j < at.place → j < net.vertices + 1 → ¬ IsWideAt net (place_at (suc k) (suc i) (suc j))
    in_row i j e l bound = subst (λ n. ¬ IsWideAt net (place_at (suc k) (suc n) (suc j))) (sym e)
        (other_not_wide net k (suc m) j (row_at rows m) (row_at rows k) connected low (λ s. other (omega arith)) (h.left m inside (omega arith) other)
        (let n = h.many in h.done k (omega arith) (inr refl)) bound (at.first j l))
