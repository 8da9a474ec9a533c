-- The shifts round a cell are a sum over its white chambers.
use Rattle.std.proofs.Common.{◌≡◌, ℕ, zero, suc, ◌+◌, ◌<◌, ◌≤◌, Bool, true, false, not, cond, List, [], ◌∷◌, length, map, refl, sym, ap, ◌∙◌, subst, ⊎_elim, arith}
use Rattle.std.proofs.lemmas.Bool.{cases_Bool}
use Rattle.std.proofs.lemmas.List.{length-map}
use Rattle.std.proofs.lemmas.List.Kept.{IsStrictlyIncreasing-filter}
use Rattle.std.specs.List.{Contains, filter, sum_by}
use Rattle.dd_model.specs.declared.index.Index.{Index}
use Rattle.dd_model.specs.declared.pair.Pair.{Pair}
use Rattle.dd_model.specs.Symbol.{Symbol, AreInvolutions, IsChamber, op, first, second}
use Rattle.dd_model.specs.Code.{count_from}
use Rattle.dd_model.specs.Cell.{InCell, IsPeriod, turned}
use Rattle.dd_model.proofs.CellWalks.{met_from_in_cell, in_cell-turned, in_cell-trans, in_cell-sym}
use Rattle.dd_model.proofs.CountFrom.{length-count_from, get_or-map-count_from, increasing-count_from, count_contains, within_count}
use Rattle.dd_model.proofs.Counts.{AreApart, length-le_from_partners, same_totals}
use Rattle.dd_covers.proofs.Mapped.{Contains-from_map}
use Rattle.dd_model.proofs.Turns.{turned_within, turned-last}
use Rattle.dd_cells.specs.Cells.{AreMembers}
use Rattle.dd_cells.proofs.CellSums.{AreRoots, Contains-filter, Contains-from_filter}
use Rattle.dd_cells.proofs.ChainLemmas.{turns_unique}
use Rattle.dd_covers.specs.Ends.{Holds}
use Rattle.dd_covers.proofs.Nodes.{root_beside}

map_id : (xs : List ℕ) → map (λ z. z) xs ≡ xs
map_id [] = refl
map_id (x ∷ xs) = ap (λ ys. x ∷ ys) (map_id xs)

-- the chambers of the turns from d
abbrev pub turned_list : Symbol → Pair → ℕ → ℕ → List ℕ
turned_list s p d r = map (λ j. turned s p j d) (count_from 0 r)

-- the white ones among some chambers
abbrev pub whites : (ℕ → Bool) → List ℕ → List ℕ
whites white members = filter white members

-- the white chamber of a side
abbrev pub white_end : Symbol → (ℕ → Bool) → Index → ℕ → ℕ
white_end s white i c = cond (white c) c (op s i c)

module _ (s : Symbol) (inv : AreInvolutions s) (white : ℕ → Bool) (exchanged : (i : Index) (d : ℕ) → IsChamber s d → white (op s i d) ≡ not (white d)) where
  pub white_end_is : (p : Pair) (root : ℕ → ℕ) → AreRoots s p root → (i : Index) → Holds p i → (c : ℕ) → IsChamber s c
      → IsChamber s (white_end s white i c) × (white (white_end s white i c) ≡ true) × (root (white_end s white i c) ≡ root c)
  white_end_is p root roots i holds c h =
      ⊎_elim
      (λ yes.
      let e : white_end s white i c ≡ c = ap (λ t. cond t c (op s i c)) yes in
      (subst (IsChamber s) (sym e) h, ap white e ∙ yes, ap root e))
      (λ b.
      let e : white_end s white i c ≡ op s i c = ap (λ t. cond t c (op s i c)) b in
      (subst (IsChamber s) (sym e) ((inv i).within c h), ap white e ∙ exchanged i c h ∙ ap not b, ap root e ∙ root_beside s inv p root roots i c h holds))
      (cases_Bool (white c))

  -- turns keep the color
  pub turned_white : (p : Pair) (d : ℕ) → IsChamber s d → white d ≡ true → (j : ℕ) → white (turned s p j d) ≡ true
  turned_white p d h is_white zero = is_white
  turned_white p d h is_white (suc j) =
      let at = turned s p j d in
      let ht = turned_within s inv p j d h in
      let beside = (inv (first p)).within at ht in
      ap white (turned-last s p j d) ∙ exchanged (second p) (op s (first p) at) beside ∙ ap not (exchanged (first p) at ht ∙ ap not (turned_white p d h is_white j))

  -- a white chamber of the cell of a white one is met by turns
  pub white_met : (p : Pair) (d r e : ℕ) → IsChamber s d → white d ≡ true → IsPeriod s p d r → InCell s p d e → white e ≡ true
      → (j : ℕ) × (j < r) × (turned s p j d ≡ e)
  white_met p d r e h is_white period there w =
      let met = met_from_in_cell s inv p d r e h period there in
      ⊎_elim
      (λ at. (met.turns, met.below, at))
      (λ beside.
      let black : white e ≡ false =
      ap white (sym beside) ∙ exchanged (first p) (turned s p met.turns d) (turned_within s inv p met.turns d h) ∙ ap not (turned_white p d h is_white met.turns) in
      absurd (cc))
      met.place

  module _ (p : Pair) (l d r : ℕ) (h : IsChamber s d) (is_white : white d ≡ true) (period : IsPeriod s p d r)
      (hl : IsChamber s l) (near : InCell s p l d) (members : List ℕ) (are : AreMembers s p l members) where
    turned_listed : (j : ℕ) → Contains (whites white members) (turned s p j d)
    turned_listed j =
        Contains-filter white members (turned s p j d) ((are.each (turned s p j d)).1 (in_cell-trans s p l d (turned s p j d) near (in_cell-turned s p d j))) (turned_white p d h is_white j)

    -- a white chamber of the cell is met by turns
    white_turned : (e : ℕ) → Contains (whites white members) e → (j : ℕ) × (j < r) × (turned s p j d ≡ e)
    white_turned e here =
        let from = Contains-from_filter white members e here in
        white_met p d r e h is_white period (in_cell-trans s p d l e (in_cell-sym s inv p l d hl near) ((are.each e).0 from.0)) from.1

    turned_apart_list : AreApart (turned_list s p d r)
    turned_apart_list i j low high same =
        let size = length-map (count_from 0 r) (λ n. turned s p n d) in
        let count = length-count_from 0 r in
        let a = get_or-map-count_from (λ n. turned s p n d) 0 r i (omega arith) in
        let b = get_or-map-count_from (λ n. turned s p n d) 0 r j (omega arith) in
        let ea : 0 + i ≡ i = omega arith in
        let eb : 0 + j ≡ j = omega arith in
        let e = turns_unique s inv p d r i j h period (omega arith) (omega arith)
        (ap (λ n. turned s p n d) (sym ea) ∙ sym a ∙ same ∙ b ∙ ap (λ n. turned s p n d) eb) in
        omega arith

    as_many : length (turned_list s p d r) ≡ length (whites white members)
    as_many =
        let size = length-map (count_from 0 r) (λ n. turned s p n d) in
        let count = length-count_from 0 r in
        let up : length (count_from 0 r) ≤ length (whites white members) =
        length-le_from_partners (λ j w. turned s p j d ≡ w) (count_from 0 r) (whites white members) (increasing-count_from 0 r)
        (λ j here. (turned s p j d, turned_listed j, refl))
        (λ i j w hi hj ei ej.
        let bi = within_count 0 r i hi in
        let bj = within_count 0 r j hj in
        turns_unique s inv p d r i j h period (omega (arith, bi.1)) (omega (arith, bj.1)) (ei ∙ sym ej)) in
        let down : length (whites white members) ≤ length (count_from 0 r) =
        length-le_from_partners (λ w j. turned s p j d ≡ w) (whites white members) (count_from 0 r) (IsStrictlyIncreasing-filter white members are.ascending)
        (λ w here. let t = white_turned w here in (t.0, count_contains 0 r t.0 (omega arith) (let b = t.1 in omega arith), t.2))
        (λ v w j hv hw ev ew. sym ev ∙ ew) in
        omega arith

    -- a sum over the turns is one over the white chambers
    pub sum_over_turns : (f : ℕ → ℕ) → sum_by f (turned_list s p d r) ≡ sum_by f (whites white members)
    sum_over_turns f =
        let same = (same_totals f (λ z. z) (turned_list s p d r) (whites white members) turned_apart_list
        (λ z here. let from = Contains-from_map (λ n. turned s p n d) (count_from 0 r) z here in subst (Contains (whites white members)) from.2 (turned_listed from.0))
        as_many).sum in
        ap (sum_by f) (sym (map_id (turned_list s p d r))) ∙ same ∙ ap (sum_by f) (map_id (whites white members))
