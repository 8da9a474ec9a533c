-- How the cells and the orbits are counted.
use Rattle.std.proofs.Common.{◌≡◌, ℕ, ◌+◌, ◌<◌, ◌≤◌, true, false, List, [], ◌∷◌, ◌++◌, length, take, get_or, nat_le, sym, ap, ◌∙◌, subst, arith}
use Rattle.std.specs.List.{count_by}
use Rattle.std.proofs.lemmas.List.Sums.{count_by_more_yes, count_by_more_no}
use Rattle.std.proofs.lemmas.List.{length_push, take_all}
use Rattle.dd_model.specs.declared.index.Index.{Index}
use Rattle.dd_model.specs.declared.pair.Pair.{Pair}
use Rattle.dd_model.specs.Symbol.{Symbol, op}
use Rattle.dd_model.specs.Code.{chambers}
use Rattle.dd_model.specs.Cell.{IsLeastOfCell, AreCells}
use Rattle.dd_cells.specs.Euler.{orbits}
use Rattle.dd_model.proofs.CellLists.{AreCellsBelow, cells_below-push, cells_below-skip, cells_below-end, cells_unique}
use Rattle.dd_model.proofs.CountFrom.{length-count_from, get_or-count_from}

-- c is the number of cells of which the least chamber is at most k
pub record IsCount (s : Symbol) (p : Pair) (k c : ℕ) : Type 0 where
  pub chambers : List ℕ
  pub cells : AreCellsBelow s p (k + 1) chambers
  pub number : c ≡ length chambers
  pub small : c ≤ k

pub one_more : (s : Symbol) (p : Pair) (k c : ℕ) → IsCount s p k c → IsLeastOfCell s p (k + 1) → IsCount s p (k + 1) (c + 1)
one_more s p k c is least = record {
  chambers = is.chambers ++ (k + 1) ∷ [];
  cells = cells_below-push s p (k + 1) is.chambers least is.cells;
  number = let e = is.number in let l = length_push is.chambers (k + 1) in omega arith;
  small = let low = is.small in omega arith;
}

pub none_more : (s : Symbol) (p : Pair) (k c : ℕ) → IsCount s p k c → (IsLeastOfCell s p (k + 1) → ⊥) → IsCount s p (k + 1) c
none_more s p k c is other = record {
  chambers = is.chambers;
  cells = cells_below-skip s p (k + 1) is.chambers other is.cells;
  number = is.number;
  small = let low = is.small in omega arith;
}

pub whole_count : (s : Symbol) (p : Pair) (c : ℕ) → IsCount s p s.size c → (ds : List ℕ) → AreCells s p ds → c ≡ length ds
whole_count s p c is ds cells =
    is.number ∙ ap length (cells_unique s p is.chambers ds (cells_below-end s p (s.size + 1) is.chambers (omega arith) is.cells) cells)

-- c is the number of orbits of which the smaller chamber is at most k
abbrev pub IsOrbitCount : Symbol → Index → ℕ → ℕ → Type 0
IsOrbitCount s i k c = c ≡ count_by (λ d. nat_le d (op s i d)) (take k (chambers s))

chamber_at : (s : Symbol) (k : ℕ) → k < s.size → get_or (chambers s) k 0 ≡ k + 1
chamber_at s k h = get_or-count_from 1 s.size k h ∙ omega arith

in_chambers : (s : Symbol) (k : ℕ) → k < s.size → k < length (chambers s)
in_chambers s k h = let l = length-count_from 1 s.size in omega arith

pub orbit_more : (s : Symbol) (i : Index) (k c : ℕ) → k < s.size → IsOrbitCount s i k c → k + 1 ≤ op s i (k + 1) → IsOrbitCount s i (k + 1) (c + 1)
orbit_more s i k c h is low =
    ap (λ n. n + 1) is
    ∙ sym (count_by_more_yes (λ d. nat_le d (op s i d)) (chambers s) k 0 (in_chambers s k h)
    (subst (λ d. nat_le d (op s i d) ≡ true) (sym (chamber_at s k h)) (grind arith)))

pub orbit_same : (s : Symbol) (i : Index) (k c : ℕ) → k < s.size → IsOrbitCount s i k c → op s i (k + 1) < k + 1 → IsOrbitCount s i (k + 1) c
orbit_same s i k c h is high =
    is
    ∙ sym (count_by_more_no (λ d. nat_le d (op s i d)) (chambers s) k 0 (in_chambers s k h)
    (subst (λ d. nat_le d (op s i d) ≡ false) (sym (chamber_at s k h)) (grind arith)))

pub whole_orbit_count : (s : Symbol) (i : Index) (k c : ℕ) → s.size ≤ k → IsOrbitCount s i k c → c ≡ orbits s i
unfolding orbits
whole_orbit_count s i k c h is =
    let l = length-count_from 1 s.size in
    is ∙ ap (count_by (λ d. nat_le d (op s i d))) (take_all k (chambers s) (omega arith))
