-- A path of which the ends meet is a whole cell.
use Rattle.std.proofs.Common.{◌≡◌, ℕ, ◌*◌, ◌/◌, ◌%◌, ◌≤◌, ◌⊎◌, ◌↔◌, IsTrue, List, length, sym, ap, ◌∙◌, ⊎_elim, arith}
use Rattle.dd_model.specs.declared.pair.Pair.{Pair}
use Rattle.dd_model.specs.declared.pair.Pair.TheVariants.{Tile, Vertex}
use Rattle.dd_model.specs.declared.requests.Request.{Request}
use Rattle.dd_model.specs.Symbol.{Symbol, IsChamber, degree}
use Rattle.dd_model.specs.Cell.{InCell, IsChain}
use Rattle.dd_model.specs.Code.{count_from}
use Rattle.dd_cells.specs.Cells.{AreMembers}
use Rattle.dd_branch_bounds.specs.Units.{share_unit}
use Rattle.dd_branch_bounds.specs.Classes.{IsClosedShare}
use Rattle.dd_branch_bounds.specs.Ends.{IsInside, AreTables, IsFound, IsWithin, ArePathEnds, led}
use Rattle.dd_branch_bounds.specs.Labels.{count_label}
use Rattle.dd_branch_bounds.specs.PathEnd.{PathEnd}
use Rattle.dd_branch_bounds.proofs.ClosedLabels.{IsClosedLabel, closed_size, label_in_cell, share_of_closed, no_chain}
use Rattle.dd_branch_bounds.proofs.EndLemmas.{inside_whole}
use Rattle.dd_branch_bounds.proofs.WithinLemmas.{within_first, within_second}

-- In all of some tables the end x leads to the other one, y, or is the second end that an involution fixes.
pub record DoMeet (C : Symbol → Type 0) (p : Pair) (ends : ℕ → PathEnd) (x y : ℕ) : Type 0 where
  pub is_end : 1 ≤ (ends x).chambers
  pub side : (s : Symbol) → C s → y % 2 ≡ x % 2
  pub leads : (s : Symbol) → C s → led s p x ≡ y / 2
  pub which : ((y ≡ x) × IsTrue (ends x).is_capped) ⊎ ((y ≡ x → ⊥) × (y ≡ (ends x).other))

module _ (q : Request) (C : Symbol → Type 0) (n : ℕ) (p : Pair) (full : AreTables C n) (ends : ℕ → PathEnd) (total x y : ℕ) (are : ArePathEnds q C n p ends total)
    (meet : DoMeet C p ends x y) where
  -- the two flags have one label
  met : are.label (y / 2) ≡ are.label (x / 2)
  met = ⊎_elim
      (λ same. ap (λ z. are.label (z / 2)) same.0)
      (λ other. ap (λ z. are.label (z / 2)) other.1 ∙ (are.each x meet.is_end).other.1)
      meet.which

  apart : (IsTrue (ends x).is_capped → ⊥) → y ≡ x → ⊥
  apart loose same = ⊎_elim (λ is. loose is.1) (λ is. is.0 same) meet.which

  -- each flag leads to a chamber of the path
  within : (z : ℕ) → IsInside n (z / 2) → are.label (z / 2) ≡ are.label (x / 2) → IsWithin C p are.label (ends x).is_capped z
  within z h same =
      let own = are.each x meet.is_end in
      let inside = own.inside in
      ⊎_elim
      (λ loose. ⊎_elim
      (λ at. within_first C n p full are.label (ends x).is_capped x y inside meet.side meet.leads met apart z at)
      (λ at. ⊎_elim
      (λ is. absurd (at.1 is.1))
      (λ is. within_second C n p full are.label (ends x).is_capped x y inside meet.side meet.leads met apart z (at.0 ∙ sym is.1))
      meet.which)
      loose)
      (λ on. on)
      (own.closed z h same)

  inside_table : (s : Symbol) → C s → (e : ℕ) → IsChamber s e → IsInside n e
  inside_table s c e h = (h.0, let high = h.1 in let size = (full s c).1 in omega (arith, high, size))

  closed_label : (s : Symbol) → C s → IsClosedLabel s p are.label (x / 2)
  closed_label s c =
      let inside = (are.each x meet.is_end).inside in record {
        chamber = inside_whole n s (full s c).1 (x / 2) inside;
        near = λ e h same. are.joined (x / 2) e inside (inside_table s c e h) (sym same) s c;
        flags = λ z h same. (within z (inside_table s c (z / 2) h) same).same s c ∙ same;
      }

  -- the cell has the chambers of the path, and no others
  pub met_size : (s : Symbol) → C s → (members : List ℕ) → AreMembers s p (x / 2) members → length members ≡ (ends x).chambers
  met_size s c members of_cell =
      closed_size s (full s c).0.involutions p are.label (x / 2) (closed_label s c) members of_cell
      ∙ ap (λ m. count_label are.label (are.label (x / 2)) (count_from 1 m)) (full s c).1 ∙ sym (are.each x meet.is_end).count

  pub met_label : (s : Symbol) → C s → (e : ℕ) → InCell s p (x / 2) e → are.label e ≡ are.label (x / 2)
  met_label s c e there = label_in_cell s (full s c).0.involutions p are.label (x / 2) (closed_label s c) e there

  -- it is no chain where no involution is told to fix a chamber of it
  pub met_no_chain : (IsTrue (ends x).is_capped → ⊥) → (s : Symbol) → C s → IsChain s p (x / 2) → ⊥
  met_no_chain loose s c =
      no_chain s (full s c).0.involutions p are.label (x / 2) (closed_label s c)
      (λ z h same. (within z (inside_table s c (z / 2) h) same).moved loose s c)

  -- a share that is right for the cell
  pub closed_path_share : (c v : ℕ) → (p ≡ Tile) ⊎ (p ≡ Vertex) → IsClosedShare q p c v → c % 64 ≡ (ends x).chambers → c % 64 ≤ 36 → IsTrue (ends x).is_capped ↔ (64 ≤ c)
      → (s : Symbol) → IsFound q C s → share_unit ≤ v * degree s p (x / 2)
  closed_path_share c v which share chambers few kind s sought =
      let own = are.each x meet.is_end in
      let label = closed_label s sought.1 in
      share_of_closed q s p are.label (x / 2) c v which sought.0 label share
      (chambers ∙ own.count ∙ ap (λ m. count_label are.label (are.label (x / 2)) (count_from 1 m)) (sym (full s sought.1).1))
      few
      (λ high. own.capped (kind.1 high) s sought.1)
      (λ low. met_no_chain (λ yes. let high = kind.0 yes in absurd (omega (arith, low, high))) s sought.1)
