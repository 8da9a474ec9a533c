-- What a census tells of a table after paths of it were changed.
use Rattle.std.proofs.Common.{◌≡◌, ℕ, ◌+◌, ◌*◌, ◌/◌, ◌%◌, ◌<◌, ◌≤◌, ◌⊎◌, ◌↔◌, IsTrue, List, length, refl, sym, ap, ◌∙◌, subst, inl, inr, ⊎_elim, arith}
use Rattle.std.proofs.lemmas.Bool.{cases_lt}
use Rattle.std.specs.List.{sum_by}
use Rattle.dd_model.specs.declared.pair.Pair.{Pair}
use Rattle.dd_model.specs.declared.requests.Request.{Request}
use Rattle.dd_model.specs.Symbol.{Symbol, IsChamber, degree}
use Rattle.dd_model.specs.Cell.{InCell}
use Rattle.dd_model.specs.Flat.{all_degrees}
use Rattle.dd_model.specs.Wanted.{Wanted}
use Rattle.dd_model.proofs.CellWalks.{in_cell-refl}
use Rattle.dd_cells.specs.Cells.{AreMembers}
use Rattle.dd_branch_bounds.specs.Census.{HasCell, HasFixedEnd, HasJoined}
use Rattle.dd_branch_bounds.specs.Changes.{IsFixedEnd, IsLink}
use Rattle.dd_branch_bounds.specs.Classes.{joined_class}
use Rattle.dd_branch_bounds.specs.Closed.{fixed_flags}
use Rattle.dd_branch_bounds.specs.Counted.{AreCounted, IsAtEnd, IsCounted, IsFixedFlag, IsLoose}
use Rattle.dd_branch_bounds.specs.Ends.{AreTables, ArePathEnds}
use Rattle.dd_branch_bounds.specs.PathEnd.{PathEnd}
use Rattle.dd_branch_bounds.specs.Units.{share_unit}
use Rattle.dd_branch_bounds.specs.declared.census.Census.{Census}
use Rattle.dd_branch_bounds.proofs.ClosingLemmas.{DoMeet, met_size, met_no_chain}
use Rattle.dd_branch_bounds.proofs.CountBound.{flags_at_most, flags_of_cell}
use Rattle.dd_branch_bounds.proofs.CountedLemmas.{IsNear, IsWholeAt, whole_total, counted_stays, counted_cell, counted_flag}
use Rattle.dd_branch_bounds.proofs.EndLemmas.{inside_whole}
use Rattle.dd_branch_bounds.proofs.JoinLemmas.{both_size}

-- What is left of the ends: a chamber of R is in one cell with an end that was, and K holds of loose flags that were, but not of x.
pub record IsChange (s : Symbol) (p : Pair) (old : ℕ → PathEnd) (x : ℕ) (R K : ℕ → Type 0) : Type 0 where
  pub near : (e : ℕ) → R e → IsNear s p (IsAtEnd old) e
  pub fewer : (z : ℕ) → K z → IsLoose old z × (z ≡ x → ⊥)

-- no chamber of R is in the cell of x
abbrev pub IsApart : Symbol → Pair → ℕ → (ℕ → Type 0) → Type 0
IsApart s p x R = (e : ℕ) → R e → InCell s p (x / 2) e → ⊥

-- nothing is left
pub none_left : (s : Symbol) (p : Pair) (old : ℕ → PathEnd) (x : ℕ) → IsChange s p old x (λ _. ⊥) (λ _. ⊥)
none_left s p old x = record { near = λ e no. absurd no; fewer = λ z no. absurd no }

-- ## A cell that is counted

module _ (q : Request) (C : Symbol → Type 0) (n : ℕ) (p : Pair) (full : AreTables C n) (old : ℕ → PathEnd) (total : ℕ) (are : ArePathEnds q C n p old total)
    (s : Symbol) (c : C s) (wanted : Wanted q s) (R K : ℕ → Type 0) (first : Census) (told : AreCounted s p old first) where
  -- ## The ends of a path meet

  module _ (x y : ℕ) (meet : DoMeet C p old x y) where
    here : IsAtEnd old (x / 2)
    here = record { end = x; live = meet.is_end; at = refl }

    chamber : IsChamber s (x / 2)
    chamber = inside_whole n s (full s c).1 (x / 2) (are.each x meet.is_end).inside

    whole_met : (chains v : ℕ) → share_unit ≤ v * degree s p (x / 2) → ((members : List ℕ) → AreMembers s p (x / 2) members → sum_by (fixed_flags s p) members ≤ 2 * chains)
        → IsWholeAt s p (x / 2) (old x).chambers chains ((old x).chambers * v)
    whole_met chains v right flags =
        let few : (members : List ℕ) → AreMembers s p (x / 2) members → length members ≤ (old x).chambers =
        λ members of_cell. let e = met_size q C n p full old total x y are meet s c members of_cell in omega (arith, e) in
        record {
          chamber = chamber;
          size = few;
          fixed = flags;
          total = whole_total s wanted.symbol p (x / 2) (old x).chambers v chamber few right;
        }

    pub met_counted : (class v own : ℕ) → class % 64 ≡ (old x).chambers → own ≡ class % 64 * v → share_unit ≤ v * degree s p (x / 2) → IsTrue (old x).is_capped ↔ (64 ≤ class)
        → (Q : ℕ → Type 0) (before : Census) → IsCounted s p (IsAtEnd old) Q before → ((e : ℕ) → R e → IsNear s p (IsAtEnd old) e) → ((z : ℕ) → K z → Q z) → IsApart s p x R
        → (after : Census) → HasCell before class own after → IsCounted s p R K after
    met_counted class v own count all right kind Q before known near fewer apart after more =
        ⊎_elim
        (λ low.
        cell 0 (λ members of_cell. ⊎_elim
        (λ none. omega (arith, none))
        (λ chain. absurd (met_no_chain q C n p full old total x y are meet (λ yes. let high = kind.0 yes in absurd (omega (arith, low, high))) s c chain.0))
        (flags_of_cell s wanted.symbol p (x / 2) members chamber of_cell))
        (λ high. omega arith) (λ _. refl))
        (λ high.
        cell 1 (λ members of_cell. let e = flags_at_most s wanted.symbol p (x / 2) members chamber of_cell in omega (arith, e))
        (λ _. omega arith) (λ low. absurd (omega (arith, low, high))))
        (cases_lt class 64)
      where
        cell : (k : ℕ) → ((members : List ℕ) → AreMembers s p (x / 2) members → sum_by (fixed_flags s p) members ≤ 2 * k) → (64 ≤ class → k ≤ 1) → (class < 64 → k ≡ 0) → IsCounted s p R K after
        cell k flags chain cycle =
            let own_weight : (old x).chambers * v ≡ own = ap (λ m. m * v) (sym count) ∙ sym all in
            let whole = subst (λ m. IsWholeAt s p (x / 2) m k own) (sym count) (subst (IsWholeAt s p (x / 2) (old x).chambers k) own_weight (whole_met k v right flags)) in
            counted_cell s p (IsAtEnd old) R Q K before known near fewer (x / 2) class k own here whole chain cycle apart after more

  -- ## An involution fixes the end of a path

  pub end_counted : (x class v own : ℕ) → IsFixedEnd C p old x → class % 64 ≡ (old x).chambers → own ≡ class % 64 * v → share_unit ≤ v * degree s p (x / 2) → IsTrue (old x).is_capped ↔ (64 ≤ class)
      → IsChange s p old x R K → (64 ≤ class → IsApart s p x R) → (after : Census) → HasFixedEnd first class own after → IsCounted s p R K after
  end_counted x class v own end count all right kind change apart after more =
      let flag : IsFixedFlag s p x = record { chamber = inside_whole n s (full s c).1 (x / 2) (are.each x end.is_end).inside; fixed = end.fixed s c } in
      let loose : IsLoose old x = record { end = x; live = end.is_end; loose = inl refl } in
      ⊎_elim
      (λ low.
      subst (IsCounted s p R K) (sym (more.goes_on low))
      (counted_flag s p (IsAtEnd old) R (IsLoose old) K first told change.near x loose flag change.fewer more.flagged more.flag))
      (λ high.
      let flagged : IsCounted s p (IsAtEnd old) (λ z. IsLoose old z × (z ≡ x → ⊥)) more.flagged =
      counted_flag s p (IsAtEnd old) (IsAtEnd old) (IsLoose old) (λ z. IsLoose old z × (z ≡ x → ⊥)) first told (λ e at. record { near = e; holds = at; in_cell = in_cell-refl s p e })
      x loose flag (λ z both. both) more.flagged more.flag in
      met_counted x x (record { is_end = end.is_end; side = λ _ _. refl; leads = end.fixed; which = inl (refl, kind.1 high) }) class v own count all right kind
      (λ z. IsLoose old z × (z ≡ x → ⊥)) more.flagged flagged change.near change.fewer (apart high) after (more.closed high))
      (cases_lt class 64)

  -- ## An involution joins two paths

  pub joined_counted : (x y one other v own : ℕ) → IsLink C p old x y → joined_class one other % 64 ≡ (old x).chambers + (old y).chambers → own ≡ joined_class one other % 64 * v
      → (64 ≤ one → 64 ≤ other → 64 ≤ joined_class one other) → share_unit ≤ v * degree s p (x / 2)
      → (64 ≤ one → IsTrue (old x).is_capped) → (64 ≤ other → IsTrue (old y).is_capped)
      → ((e : ℕ) → R e → IsNear s p (IsAtEnd old) e) → ((z : ℕ) → K z → IsLoose old z) → (64 ≤ one → 64 ≤ other → IsApart s p x R)
      → (after : Census) → HasJoined first one other own after → IsCounted s p R K after
  joined_counted x y one other v own link count all stays right capped also near fewer apart after more =
      ⊎_elim
      (λ low. kept (inl low))
      (λ high. ⊎_elim
      (λ low. kept (inr low))
      (λ above.
      let h : IsChamber s (x / 2) = inside_whole n s (full s c).1 (x / 2) (are.each x link.first_end).inside in
      let sized : (members : List ℕ) → AreMembers s p (x / 2) members → length members ≤ joined_class one other % 64 =
      λ members of_cell.
      let e = both_size q C n p full old old total x y are link.first_end link.second_end link.apart link.no_other link.side link.leads (capped high) (also above) s c members of_cell in
      omega (arith, e, count) in
      counted_cell s p (IsAtEnd old) R (IsLoose old) K first told near fewer (x / 2) (joined_class one other) 1 own (record { end = x; live = link.first_end; at = refl })
      (record {
        chamber = h;
        size = sized;
        fixed = λ members of_cell. let e = flags_at_most s wanted.symbol p (x / 2) members h of_cell in omega (arith, e);
        total = subst (λ m. (members : List ℕ) → AreMembers s p (x / 2) members → sum_by (λ z. all_degrees s / degree s p z) members * share_unit ≤ all_degrees s * m) (sym all)
            (whole_total s wanted.symbol p (x / 2) (joined_class one other % 64) v h sized right);
      })
      (λ _. omega arith) (λ low. let up = stays high above in absurd (omega (arith, low, up))) (apart high above) after (more.closed high above))
      (cases_lt other 64))
      (cases_lt one 64)
    where
      kept : (one < 64) ⊎ (other < 64) → IsCounted s p R K after
      kept low = subst (IsCounted s p R K) (sym (more.goes_on low)) (counted_stays s p (IsAtEnd old) R (IsLoose old) K first told near fewer)
