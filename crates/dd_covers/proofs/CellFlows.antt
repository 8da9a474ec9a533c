-- Values of free sides, as they count at the white chambers of a cell.
use Rattle.std.proofs.Common.{◌≡◌, ℕ, ◌+◌, ◌<◌, ◌≤◌, ◌⊎◌, Bool, true, false, not, cond, ◌&&◌, eqb, leb, List, [], ◌∷◌, refl, sym, ap, ◌∙◌, subst, inl, inr, ⊎_elim, arith}
use Rattle.std.proofs.lemmas.Bool.{cases_lt, cases_eq, cases_Bool, eq-eqb, ne_eqb, le-leb, lt-leb}
use Rattle.std.specs.List.{Contains, sum_by}
use Rattle.std.proofs.lemmas.List.Kept.{IsStrictlyIncreasing-filter}
use Rattle.dd_model.specs.declared.index.Index.{Index}
use Rattle.dd_model.specs.declared.pair.Pair.{Pair}
use Rattle.dd_model.specs.declared.pair.Pair.TheVariants.{Tile, Vertex, Edge}
use Rattle.dd_model.specs.Symbol.{Symbol, AreInvolutions, IsChamber, op}
use Rattle.dd_model.specs.Cell.{IsLeastOfCell, InCell}
use Rattle.dd_model.proofs.CellSearch.{least_of_cell_unique}
use Rattle.dd_model.proofs.CellWalks.{in_cell-trans, in_cell-sym}
use Rattle.dd_model.proofs.Lists.{Contains-head, Contains-later}
use Rattle.dd_model.proofs.Transport.{in_cell_within}
use Rattle.dd_cells.specs.Cells.{AreMembers}
use Rattle.dd_cells.proofs.CellSums.{AreRoots, sum_by_listed, sum_by_both, sum_by_none, Contains-filter, Contains-from_filter}
use Rattle.dd_covers.specs.Ends.{Holds}
use Rattle.dd_covers.specs.CellNumbers.{numbered}
use Rattle.dd_covers.proofs.OrderedSides.{is_step, value_for}
use Rattle.dd_covers.proofs.Sides.{same_index, index_same, same_index-refl}
use Rattle.dd_covers.proofs.Solving.{one_hit}
use Rattle.dd_covers.proofs.Trees.{Step}
use Rattle.dd_covers.proofs.WhiteSums.{whites, white_end, white_end_is}

-- the least chamber of a side
abbrev pub least_side : Symbol → Index → ℕ → ℕ
least_side s i d = cond (leb d (op s i d)) d (op s i d)

-- the values at one end, by a number for the cell at that end
abbrev pub flow : Symbol → (Pair → ℕ → ℕ) → (Index → Pair) → List Step → List ℕ → ℕ → ℕ
flow s root pick [] zs v = 0
flow s root pick (e ∷ es) [] v = 0
flow s root pick (e ∷ es) (z ∷ zs) v = cond (eqb (numbered s (pick e.index) (root (pick e.index) e.chamber)) v) z 0 + flow s root pick es zs v

-- a side, told by the least of its chambers
pub record IsSide (s : Symbol) (e : Step) : Type 0 where
  pub chamber : IsChamber s e.chamber
  pub least : e.chamber ≤ op s e.index e.chamber

pub numbered_apart : (s : Symbol) (q p : Pair) (r l : ℕ) → IsChamber s r → IsChamber s l → (q ≡ p → ⊥) → numbered s q r ≡ numbered s p l → ⊥
numbered_apart s Tile Tile r l hr hl differ e = differ refl
numbered_apart s Tile Vertex r l hr hl differ e = omega (arith, hr.0, hr.1, hl.0, hl.1, e)
numbered_apart s Tile Edge r l hr hl differ e = omega (arith, hr.0, hr.1, hl.0, hl.1, e)
numbered_apart s Vertex Tile r l hr hl differ e = omega (arith, hr.0, hr.1, hl.0, hl.1, e)
numbered_apart s Vertex Vertex r l hr hl differ e = differ refl
numbered_apart s Vertex Edge r l hr hl differ e = omega (arith, hr.0, hr.1, hl.0, hl.1, e)
numbered_apart s Edge Tile r l hr hl differ e = omega (arith, hr.0, hr.1, hl.0, hl.1, e)
numbered_apart s Edge Vertex r l hr hl differ e = omega (arith, hr.0, hr.1, hl.0, hl.1, e)
numbered_apart s Edge Edge r l hr hl differ e = differ refl

module _ (s : Symbol) (inv : AreInvolutions s) (root : Pair → ℕ → ℕ) (roots : (p : Pair) → AreRoots s p (root p))
    (white : ℕ → Bool) (exchanged : (i : Index) (d : ℕ) → IsChamber s d → white (op s i d) ≡ not (white d))
    (pick : Index → Pair) (p : Pair) (i : Index) (own : pick i ≡ p) (apart : (j : Index) → (j ≡ i → ⊥) → pick j ≡ p → ⊥) (holds : Holds p i)
    (l : ℕ) (least : IsLeastOfCell s p l) (members : List ℕ) (are : AreMembers s p l members) where
  abbrev ws : List ℕ
  ws = whites white members

  -- the white chamber of a side
  abbrev white_of : ℕ → ℕ
  white_of c = white_end s white i c

  white_is : (c : ℕ) → IsChamber s c → IsChamber s (white_of c) × (white (white_of c) ≡ true) × (root p (white_of c) ≡ root p c)
  white_is c h = white_end_is s inv white exchanged p (root p) (roots p) i holds c h

  least_cases : (d : ℕ) → ((d ≤ op s i d) × (least_side s i d ≡ d)) ⊎ ((op s i d < d) × (least_side s i d ≡ op s i d))
  least_cases d =
      ⊎_elim
      (λ low. inr (low, ap (λ t. cond t d (op s i d)) (lt-leb d (op s i d) low)))
      (λ high. inl (high, ap (λ t. cond t d (op s i d)) (le-leb d (op s i d) high)))
      (cases_lt (op s i d) d)

  -- a white chamber is that of its side
  white_of_least : (d : ℕ) → IsChamber s d → white d ≡ true → white_of (least_side s i d) ≡ d
  white_of_least d h is_white =
      ⊎_elim
      (λ t. ap white_of t.1 ∙ ap (λ b. cond b d (op s i d)) is_white)
      (λ t.
      let black : white (op s i d) ≡ false = exchanged i d h ∙ ap not is_white in
      ap white_of t.1 ∙ ap (λ b. cond b (op s i d) (op s i (op s i d))) black ∙ (inv i).involutive d h)
      (least_cases d)

  least_of_white : (c : ℕ) → IsChamber s c → c ≤ op s i c → least_side s i (white_of c) ≡ c
  least_of_white c h low =
      ⊎_elim
      (λ yes.
      let e : white_of c ≡ c = ap (λ t. cond t c (op s i c)) yes in
      ap (least_side s i) e ∙ ap (λ t. cond t c (op s i c)) (le-leb c (op s i c) low))
      (λ b.
      let e : white_of c ≡ op s i c = ap (λ t. cond t c (op s i c)) b in
      let back = (inv i).involutive c h in
      ap (least_side s i) e
      ∙ ⊎_elim
      (λ more. ap (λ z. cond (leb (op s i c) z) (op s i c) z) back ∙ ap (λ t. cond t (op s i c) c) (lt-leb (op s i c) c more))
      (λ equal. let same : op s i c ≡ c = omega arith in ap (λ z. least_side s i z) same ∙ ap (λ t. cond t c (op s i c)) (le-leb c (op s i c) low))
      (cases_lt c (op s i c)))
      (cases_Bool (white c))

  -- at the white chambers of the cell, a value counts once or not at all
  pub one_value : (e : Step) → IsSide s e → (z : ℕ)
      → sum_by (λ d. cond (is_step e i (least_side s i d)) z 0) ws ≡ cond (eqb (numbered s (pick e.index) (root (pick e.index) e.chamber)) (numbered s p l)) z 0
  one_value e side z =
      ⊎_elim
      (λ yes.
      let at : e.index ≡ i = index_same e.index i yes in
      let c = e.chamber in
      let low : c ≤ op s i c = subst (λ j. c ≤ op s j c) at side.least in
      let w = white_is c side.chamber in
      let test : (d : ℕ) → Contains ws d → cond (is_step e i (least_side s i d)) z 0 ≡ cond (eqb (white_of c) d) z 0 = λ d here.
      let from = Contains-from_filter white members d here in
      let hd = in_cell_within s inv p l d least.0 ((are.each d).0 from.0) in
      ap (λ b. cond (b && eqb c (least_side s i d)) z 0) yes
      ∙ ⊎_elim
      (λ same.
      let far : white_of c ≡ d = ap white_of same ∙ white_of_least d hd from.1 in
      ap (λ b. cond b z 0) (eq-eqb c (least_side s i d) same) ∙ sym (ap (λ b. cond b z 0) (eq-eqb (white_of c) d far)))
      (λ other.
      ap (λ b. cond b z 0) (ne_eqb c (least_side s i d) other)
      ∙ sym (ap (λ b. cond b z 0) (ne_eqb (white_of c) d (λ x. other (sym (least_of_white c side.chamber low) ∙ ap (least_side s i) x)))))
      (cases_eq c (least_side s i d)) in
      let number : numbered s (pick e.index) (root (pick e.index) c) ≡ numbered s p (root p c) = ap (λ q. numbered s q (root q c)) (ap pick at ∙ own) in
      sum_by_listed (λ d. cond (is_step e i (least_side s i d)) z 0) (λ d. cond (eqb (white_of c) d) z 0) ws test
      ∙ ⊎_elim
      (λ same.
      let there : InCell s p l (white_of c) =
      in_cell-sym s inv p (white_of c) l w.0 (subst (InCell s p (white_of c)) (w.2 ∙ same) ((roots p).in_cell (white_of c) w.0)) in
      let here = Contains-filter white members (white_of c) ((are.each (white_of c)).1 there) w.1 in
      one_hit (white_of c) 0 ws (IsStrictlyIncreasing-filter white members are.ascending) here (λ d. z)
      ∙ sym (ap (λ b. cond b z 0) (eq-eqb (numbered s (pick e.index) (root (pick e.index) c)) (numbered s p l) (number ∙ ap (numbered s p) same))))
      (λ other.
      sum_by_none (λ d. cond (eqb (white_of c) d) z 0) ws
      (λ d here.
      let from = Contains-from_filter white members d here in
      ap (λ b. cond b z 0) (ne_eqb (white_of c) d (λ x.
      let near : InCell s p l (white_of c) = subst (InCell s p l) (sym x) ((are.each d).0 from.0) in
      let far = in_cell-trans s p l (white_of c) (root p (white_of c)) near ((roots p).in_cell (white_of c) w.0) in
      other (sym w.2 ∙ sym (least_of_cell_unique s inv p l (root p (white_of c)) least ((roots p).least (white_of c) w.0) far)))))
      ∙ sym (ap (λ b. cond b z 0) (ne_eqb (numbered s (pick e.index) (root (pick e.index) c)) (numbered s p l) (λ x. other (let y = number in omega arith)))))
      (cases_eq (root p c) l))
      (λ out.
      let differ : e.index ≡ i → ⊥ = λ at. let yes = ap (λ j. same_index j i) at ∙ same_index-refl i in absurd (cc) in
      sum_by_none (λ d. cond (is_step e i (least_side s i d)) z 0) ws (λ d here. ap (λ b. cond (b && eqb e.chamber (least_side s i d)) z 0) out)
      ∙ sym (ap (λ b. cond b z 0) (ne_eqb (numbered s (pick e.index) (root (pick e.index) e.chamber)) (numbered s p l)
      (numbered_apart s (pick e.index) p (root (pick e.index) e.chamber) l ((roots (pick e.index)).least e.chamber side.chamber).0 least.0 (apart e.index differ)))))
      (cases_Bool (same_index e.index i))

  pub cell_flow : (es : List Step) (zs : List ℕ) → ((e : Step) → Contains es e → IsSide s e)
      → sum_by (λ d. value_for es zs i (least_side s i d)) ws ≡ flow s root pick es zs (numbered s p l)
  cell_flow [] zs sides = sum_by_none (λ d. 0) ws (λ d here. refl)
  cell_flow (e ∷ es) [] sides = sum_by_none (λ d. 0) ws (λ d here. refl)
  cell_flow (e ∷ es) (z ∷ zs) sides =
      let one = one_value e (sides e (Contains-head e es)) z in
      let rest = cell_flow es zs (λ x later. sides x (Contains-later e x es later)) in
      let both = sum_by_both (λ d. cond (is_step e i (least_side s i d)) z 0) (λ d. value_for es zs i (least_side s i d)) ws in
      omega arith
