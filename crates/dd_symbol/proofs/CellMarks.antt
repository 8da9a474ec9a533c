-- How a cell is marked, how the least chamber of each is written at all of its chambers, and how the least ones are listed.
use Rattle.std.proofs.Common.{◌≡◌, ℕ, ◌+◌, ◌-◌, ◌<◌, ◌≤◌, ◌⊎◌, ◌↔◌, Bool, false, List, [], ◌∷◌, ◌++◌, length, get_or, set, sym, ap, ◌∙◌, subst, inl, inr, ⊎_elim, arith}
use Rattle.std.proofs.lemmas.Bool.{cases_eq, cases_lt}
use Rattle.std.proofs.lemmas.List.{get_or-set_same, get_or-set_other, length-set, get_or_append_left, get_or_push, length_push}
use Rattle.std.proofs.lemmas.List.Elements.{Contains-push, Contains-push_cases, Contains-get_or, Contains-append_left}
use Rattle.std.specs.List.{Contains}
use Rattle.std.specs.List.Sorted.{IsStrictlyIncreasing}
use Rattle.dd_model.specs.declared.index.Index.{Index}
use Rattle.dd_model.specs.declared.pair.Pair.{Pair}
use Rattle.dd_model.specs.Symbol.{Symbol, AreInvolutions, IsChamber, item, op, first, second}
use Rattle.dd_model.specs.Cell.{InCell, turned, IsLeastOfCell, AreCells}
use Rattle.dd_model.proofs.Turns.{turned_within}
use Rattle.dd_model.proofs.Transport.{in_cell_within}
use Rattle.dd_model.proofs.CellWalks.{IsMet, in_cell-refl, in_cell-sym, in_cell-trans, in_cell-first, in_cell-turned, next_place, met_cases, met_from_in_cell, period_from_first_return}
use Rattle.dd_model.proofs.CellSearch.{decide_in_cell, least_of_cell_unique}
use Rattle.dd_symbol.specs.Cells.{IsLeastFor}
use Rattle.dd_symbol.specs.Walk.{IsMarked}

-- ## Marking one cell

-- What k turns from d have met bears the mark, and what is not in the cell keeps what it had.
pub record IsMarking {M : Type 0} (s : Symbol) (p : Pair) (d k : ℕ) (mark : M) (old new : List M) : Type 0 where
  pub whole : length new ≡ s.size
  pub met : (e : ℕ) → IsMet s p d k e → (other : M) → get_or new (e - 1) other ≡ mark
  pub kept : (e : ℕ) → IsChamber s e → (InCell s p d e → ⊥) → (other : M) → get_or new (e - 1) other ≡ get_or old (e - 1) other

set_keeps : {M : Type 0} → (xs : List M) (j i : ℕ) (mark other : M) → j < length xs → get_or xs i other ≡ mark → get_or (set xs j mark) i other ≡ mark
set_keeps xs j i mark other h is =
    ⊎_elim
    (λ here. ap (λ k. get_or (set xs j mark) k other) here ∙ get_or-set_same xs j mark other h)
    (λ apart. get_or-set_other xs j i mark other apart ∙ is)
    (cases_eq i j)

pub marked_more : {M : Type 0} → (s : Symbol) → AreInvolutions s → (p : Pair) (d k place beside : ℕ) (mark : M) (old new : List M) → IsChamber s d → place ≡ turned s p k d
    → beside ≡ op s (first p) place → IsMarking s p d k mark old new → IsMarking s p d (k + 1) mark old (set (set new (place - 1) mark) (beside - 1) mark)
marked_more s inv p d k place beside mark old new h at is_beside m =
    let one = set new (place - 1) mark in
    let both = set one (beside - 1) mark in
    let here : IsChamber s place = subst (IsChamber s) (sym at) (turned_within s inv p k d h) in
    let there : IsChamber s beside = subst (IsChamber s) (sym is_beside) ((inv (first p)).within place here) in
    let lp : place - 1 < length new = let l = m.whole in let low = here.0 in let high = here.1 in omega arith in
    let l1 = length-set new (place - 1) mark in
    let lb : beside - 1 < length one = let l = m.whole in let low = there.0 in let high = there.1 in omega arith in
    let cell_here : InCell s p d place = subst (InCell s p d) (sym at) (in_cell-turned s p d k) in
    let cell_there : InCell s p d beside = subst (InCell s p d) (sym is_beside) (in_cell-first s p d place cell_here) in
    let apart : (x e : ℕ) → IsChamber s x → InCell s p d x → IsChamber s e → (InCell s p d e → ⊥) → e - 1 ≡ x - 1 → ⊥ = λ x e hx cx he out same.
    let lx = hx.0 in let le = he.0 in
    let equal : x ≡ e = omega arith in out (subst (InCell s p d) equal cx) in
    record {
      whole = length-set one (beside - 1) mark ∙ l1 ∙ m.whole;
      met = λ e met other.
          ⊎_elim
          (λ early. set_keeps one (beside - 1) (e - 1) mark other lb (set_keeps new (place - 1) (e - 1) mark other lp (m.met e early other)))
          (λ late.
          ⊎_elim
          (λ is. subst (λ x. get_or both (x - 1) other ≡ mark) (at ∙ is) (set_keeps one (beside - 1) (place - 1) mark other lb (get_or-set_same new (place - 1) mark other lp)))
          (λ is. subst (λ x. get_or both (x - 1) other ≡ mark) (is_beside ∙ ap (op s (first p)) at ∙ is) (get_or-set_same one (beside - 1) mark other lb))
          late)
          (met_cases s p d k e met);
      kept = λ e he out other.
          get_or-set_other one (beside - 1) (e - 1) mark other (apart beside e there cell_there he out)
          ∙ get_or-set_other new (place - 1) (e - 1) mark other (apart place e here cell_here he out)
          ∙ m.kept e he out other;
    }

-- the first neighbor of a place, and the place a turn further
pub record IsTurn (s : Symbol) (p : Pair) (place neighbor next : ℕ) : Type 0 where
  pub beside : neighbor ≡ op s (first p) place
  pub further : next ≡ op s (second p) (op s (first p) place)

pub turn_by : (s : Symbol) (p : Pair) (place neighbor next : ℕ) (i j : Index) → i ≡ first p → j ≡ second p → neighbor ≡ op s i place → next ≡ op s j neighbor
    → IsTurn s p place neighbor next
turn_by s p place neighbor next i j one two is_neighbor is_next =
    let beside = is_neighbor ∙ ap (λ l. op s l place) one in
    record { beside = beside; further = is_next ∙ ap (λ l. op s l neighbor) two ∙ ap (op s (second p)) beside }

-- a walk that is back for the first time has met the whole cell
pub all_met : (s : Symbol) → AreInvolutions s → (p : Pair) (d k place : ℕ) → IsChamber s d → place ≡ turned s p k d
    → ((j : ℕ) → 1 ≤ j → j < k + 1 → turned s p j d ≡ d → ⊥) → op s (second p) (op s (first p) place) ≡ d
    → (e : ℕ) → InCell s p d e → IsMet s p d (k + 1) e
all_met s inv p d k place h at unfixed back e there =
    met_from_in_cell s inv p d (k + 1) e h (period_from_first_return s p d (k + 1) (omega arith) (sym (next_place s p d k place at) ∙ back) unfixed) there

-- ## Marking all cells

-- The cells of the chambers 1 to k bear the numbers of their least chambers, and the others none.
pub record IsFilled (s : Symbol) (p : Pair) (k : ℕ) (least : List ℕ) : Type 0 where
  pub whole : length least ≡ s.size
  pub same : (d e : ℕ) → IsChamber s d → InCell s p d e → item least d ≡ item least e
  pub each : (e : ℕ) → IsChamber s e → (item least e ≡ 0) ⊎ IsLeastFor s p e (item least e)
  pub done : (e : ℕ) → IsChamber s e → e ≤ k → IsLeastFor s p e (item least e)

-- no cell has chamber 0 for its least
no_zero : (s : Symbol) (p : Pair) (e l : ℕ) → IsLeastFor s p e l → l ≡ 0 → ⊥
no_zero s p e l is zero = let low = is.is_least.0.0 in omega arith

pub filled_already : (s : Symbol) (p : Pair) (k : ℕ) (least : List ℕ) → IsFilled s p k least → k < s.size → (item least (k + 1) ≡ 0 → ⊥) → IsFilled s p (k + 1) least
filled_already s p k least f below some = record {
  whole = f.whole;
  same = f.same;
  each = f.each;
  done = λ e h high.
      ⊎_elim
      (λ before. f.done e h (omega arith))
      (λ last.
      let here : k + 1 ≡ e = omega arith in
      ⊎_elim (λ none. absurd (some (ap (item least) here ∙ none))) (λ is. is) (f.each e h))
      (cases_lt e (k + 1));
}

-- a chamber without number is the least of its cell
least_of_new : (s : Symbol) → AreInvolutions s → (p : Pair) (k : ℕ) (least : List ℕ) → IsFilled s p k least → IsChamber s (k + 1) → item least (k + 1) ≡ 0 → IsLeastOfCell s p (k + 1)
least_of_new s inv p k least f h none = (
  h,
  λ e there.
      ⊎_elim
      (λ before.
      let he = in_cell_within s inv p (k + 1) e h there in
      absurd (no_zero s p e (item least e) (f.done e he (omega arith)) (sym (f.same (k + 1) e h there) ∙ none)))
      (λ after. after)
      (cases_lt e (k + 1)),
)

pub filled_more : (s : Symbol) → AreInvolutions s → (p : Pair) (k : ℕ) (least new : List ℕ) → IsFilled s p k least → IsChamber s (k + 1) → item least (k + 1) ≡ 0
    → length new ≡ s.size
    → ((e : ℕ) → InCell s p (k + 1) e → item new e ≡ k + 1)
    → ((e : ℕ) → IsChamber s e → (InCell s p (k + 1) e → ⊥) → item new e ≡ item least e)
    → IsFilled s p (k + 1) new
filled_more s inv p k least new f h none l cell others =
    let c = k + 1 in
    let is_least = least_of_new s inv p k least f h none in
    let inside : (e : ℕ) → InCell s p c e → IsLeastFor s p e (item new e) = λ e there.
    subst (IsLeastFor s p e) (sym (cell e there)) (record { in_cell = in_cell-sym s inv p c e h there; is_least = is_least }) in
    let back : (d e : ℕ) → IsChamber s d → InCell s p d e → InCell s p c e → InCell s p c d = λ d e hd there from.
    in_cell-trans s p c e d from (in_cell-sym s inv p d e hd there) in
    record {
      whole = l;
      same = λ d e hd there.
          ⊎_elim
          (λ yes. cell d yes ∙ sym (cell e (in_cell-trans s p c d e yes there)))
          (λ out. others d hd out ∙ f.same d e hd there ∙ sym (others e (in_cell_within s inv p d e hd there) (λ yes. out (back d e hd there yes))))
          (decide_in_cell s inv p c d h);
      each = λ e he.
          ⊎_elim
          (λ yes. inr (inside e yes))
          (λ out. subst (λ x. (x ≡ 0) ⊎ IsLeastFor s p e x) (sym (others e he out)) (f.each e he))
          (decide_in_cell s inv p c e h);
      done = λ e he high.
          ⊎_elim
          (λ yes. inside e yes)
          (λ out.
          ⊎_elim
          (λ before. subst (IsLeastFor s p e) (sym (others e he out)) (f.done e he (omega arith)))
          (λ last. let here : c ≡ e = omega arith in absurd (out (subst (InCell s p c) here (in_cell-refl s p c))))
          (cases_lt e c))
          (decide_in_cell s inv p c e h);
    }

-- ## Listing the least chambers

-- the least chambers of cells among 1 to k, ascending
pub record AreCellsTo (s : Symbol) (p : Pair) (k : ℕ) (ds : List ℕ) : Type 0 where
  pub ascending : IsStrictlyIncreasing ds
  pub least : (d : ℕ) → Contains ds d → IsLeastOfCell s p d × (d ≤ k)
  pub all : (d : ℕ) → IsLeastOfCell s p d → d ≤ k → Contains ds d

-- the least chamber of a cell is its own least
pub own_least : (s : Symbol) → AreInvolutions s → (p : Pair) (d l : ℕ) → IsLeastFor s p d l → IsLeastOfCell s p d → l ≡ d
own_least s inv p d l is least = sym (least_of_cell_unique s inv p d l least is.is_least is.in_cell)

-- no chamber has two
pub least_for_unique : (s : Symbol) → AreInvolutions s → (p : Pair) (d l m : ℕ) → IsChamber s d → IsLeastFor s p d l → IsLeastFor s p d m → l ≡ m
least_for_unique s inv p d l m h a b =
    least_of_cell_unique s inv p l m a.is_least b.is_least (in_cell-trans s p l d m (in_cell-sym s inv p d l h a.in_cell) b.in_cell)

increasing-push : (xs : List ℕ) (x : ℕ) → IsStrictlyIncreasing xs → ((y : ℕ) → Contains xs y → y < x) → IsStrictlyIncreasing (xs ++ x ∷ [])
increasing-push xs x up below k h =
    let l = length_push xs x in
    ⊎_elim
    (λ early. rw (get_or_append_left xs (x ∷ []) 0 k (omega arith)) (rw (get_or_append_left xs (x ∷ []) 0 (k + 1) early) (up k early)))
    (λ late.
    rw (get_or_append_left xs (x ∷ []) 0 k (omega arith))
    (rw (get_or_push xs x 0 (k + 1) (omega arith)) (below (get_or xs k 0) (Contains-get_or xs k 0 (omega arith)))))
    (cases_lt (k + 1) (length xs))

pub one_cell_more : (s : Symbol) (p : Pair) (k : ℕ) (ds : List ℕ) → AreCellsTo s p k ds → IsLeastOfCell s p (k + 1) → AreCellsTo s p (k + 1) (ds ++ (k + 1) ∷ [])
one_cell_more s p k ds c is = record {
  ascending = increasing-push ds (k + 1) c.ascending (λ y here. let high = (c.least y here).1 in omega arith);
  least = λ d here.
      ⊎_elim
      (λ old. let l = c.least d old in (l.0, let high = l.1 in omega arith))
      (λ new. (subst (IsLeastOfCell s p) new is, omega arith))
      (Contains-push_cases ds (k + 1) d here);
  all = λ d least high.
      ⊎_elim
      (λ before. pushed d (c.all d least (omega arith)))
      (λ last. let here : k + 1 ≡ d = omega arith in subst (λ x. Contains (ds ++ (k + 1) ∷ []) x) here (Contains-push ds (k + 1)))
      (cases_lt d (k + 1));
} where
  pushed : (d : ℕ) → Contains ds d → Contains (ds ++ (k + 1) ∷ []) d
  pushed d here = Contains-append_left ds ((k + 1) ∷ []) d here

pub no_cell_more : (s : Symbol) (p : Pair) (k : ℕ) (ds : List ℕ) → AreCellsTo s p k ds → (IsLeastOfCell s p (k + 1) → ⊥) → AreCellsTo s p (k + 1) ds
no_cell_more s p k ds c other = record {
  ascending = c.ascending;
  least = λ d here. let l = c.least d here in (l.0, let high = l.1 in omega arith);
  all = λ d least high.
      ⊎_elim
      (λ before. c.all d least (omega arith))
      (λ last. let here : d ≡ k + 1 = omega arith in absurd (other (subst (IsLeastOfCell s p) here least)))
      (cases_lt d (k + 1));
}

pub all_cells : (s : Symbol) (p : Pair) (k : ℕ) (ds : List ℕ) → AreCellsTo s p k ds → s.size ≤ k → AreCells s p ds
all_cells s p k ds c whole = record {
  ascending = c.ascending;
  members = λ d. (λ here. (c.least d here).0, λ is. let high = is.0.1 in c.all d is (omega arith));
}

-- ## Marking all cells, and listing the least chambers

-- the cell of e has a chamber among 1 to k
pub record HasEarlier (s : Symbol) (p : Pair) (k e : ℕ) : Type 0 where
  pub chamber : ℕ
  pub is : IsChamber s chamber
  pub low : chamber ≤ k
  pub in_cell : InCell s p e chamber

-- The cells of the chambers 1 to k are marked, and no others, and their least chambers are listed.
pub record AreSwept (s : Symbol) (p : Pair) (k : ℕ) (marked : List Bool) (ds : List ℕ) : Type 0 where
  pub whole : length marked ≡ s.size
  pub marks : (e : ℕ) → IsChamber s e → IsMarked marked e ↔ HasEarlier s p k e
  pub cells : AreCellsTo s p k ds

earlier_more : (s : Symbol) (p : Pair) (k e : ℕ) → HasEarlier s p k e → HasEarlier s p (k + 1) e
earlier_more s p k e has = record { chamber = has.chamber; is = has.is; low = let low = has.low in omega arith; in_cell = has.in_cell }

-- the chamber among 1 to k + 1 is k + 1, or is one among 1 to k
earlier_cases : (s : Symbol) (p : Pair) (k e : ℕ) → HasEarlier s p (k + 1) e → HasEarlier s p k e ⊎ InCell s p e (k + 1)
earlier_cases s p k e has =
    ⊎_elim
    (λ before. inl (record { chamber = has.chamber; is = has.is; low = omega arith; in_cell = has.in_cell }))
    (λ last. let low = has.low in let here : has.chamber ≡ k + 1 = omega arith in inr (subst (InCell s p e) here has.in_cell))
    (cases_lt has.chamber (k + 1))

-- a marked chamber is not the least of its cell
pub swept_already : (s : Symbol) (p : Pair) (k : ℕ) (marked : List Bool) (ds : List ℕ) → AreSwept s p k marked ds → IsChamber s (k + 1) → IsMarked marked (k + 1)
    → AreSwept s p (k + 1) marked ds
swept_already s p k marked ds a h is =
    let has = (a.marks (k + 1) h).0 is in
    record {
      whole = a.whole;
      marks = λ e he. (
        λ m. earlier_more s p k e ((a.marks e he).0 m),
        λ earlier.
            ⊎_elim
            (λ old. (a.marks e he).1 old)
            (λ there. (a.marks e he).1 (record { chamber = has.chamber; is = has.is; low = has.low; in_cell = in_cell-trans s p e (k + 1) has.chamber there has.in_cell }))
            (earlier_cases s p k e earlier),
      );
      cells = no_cell_more s p k ds a.cells (λ least. let low = has.low in let high = least.1 has.chamber has.in_cell in absurd (omega arith));
    }

-- a chamber that is not marked is the least of its cell, which is marked then
pub swept_more : (s : Symbol) → AreInvolutions s → (p : Pair) (k : ℕ) (marked new : List Bool) (ds : List ℕ) → AreSwept s p k marked ds → IsChamber s (k + 1)
    → (IsMarked marked (k + 1) → ⊥) → length new ≡ s.size
    → ((e : ℕ) → InCell s p (k + 1) e → IsMarked new e)
    → ((e : ℕ) → IsChamber s e → (InCell s p (k + 1) e → ⊥) → get_or new (e - 1) false ≡ get_or marked (e - 1) false)
    → AreSwept s p (k + 1) new (ds ++ (k + 1) ∷ [])
swept_more s inv p k marked new ds a h none l cell others =
    let c = k + 1 in
    let least : IsLeastOfCell s p c = (
      h,
      λ e there.
          ⊎_elim
          (λ before. absurd (none ((a.marks c h).1 (record { chamber = e; is = in_cell_within s inv p c e h there; low = omega arith; in_cell = there }))))
          (λ after. after)
          (cases_lt e c),
    ) in
    let same : (e : ℕ) → IsChamber s e → (InCell s p c e → ⊥) → IsMarked new e ↔ HasEarlier s p c e = λ e he out. (
      λ m. earlier_more s p k e ((a.marks e he).0 (sym (others e he out) ∙ m)),
      λ earlier.
          ⊎_elim
          (λ old. others e he out ∙ (a.marks e he).1 old)
          (λ there. absurd (out (in_cell-sym s inv p e c he there)))
          (earlier_cases s p k e earlier),
    ) in
    record {
      whole = l;
      marks = λ e he.
          ⊎_elim
          (λ yes. (λ m. record { chamber = c; is = h; low = omega arith; in_cell = in_cell-sym s inv p c e h yes }, λ earlier. cell e yes))
          (λ out. same e he out)
          (decide_in_cell s inv p c e h);
      cells = one_cell_more s p k ds a.cells least;
    }
