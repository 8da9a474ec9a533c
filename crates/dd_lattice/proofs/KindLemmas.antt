-- Parts of least chambers are what the definition of the kinds of edges asks for.
use Rattle.std.proofs.Common.{◌≡◌, ℕ, ◌+◌, ◌<◌, List, [], ◌∷◌, length, get_or, refl, sym, ap, ◌∙◌, subst, ⊎_elim, arith}
use Rattle.std.proofs.lemmas.Bool.{cases_lt, cases_eq}
use Rattle.std.proofs.lemmas.List.{get_or_default}
use Rattle.std.proofs.lemmas.List.Elements.{Contains-get_or}
use Rattle.std.proofs.lemmas.List.Kept.{AllPairs-from_increasing}
use Rattle.dd_model.specs.declared.index.Index.{Index}
use Rattle.dd_model.specs.declared.pair.Pair.{Pair}
use Rattle.dd_model.specs.declared.pair.Pair.TheVariants.{Edge}
use Rattle.dd_model.specs.Symbol.{Symbol, AreInvolutions, IsChamber, Word, op, act}
use Rattle.dd_model.specs.Cell.{IsWordOf, InCell, IsLeastOfCell, AreCells}
use Rattle.dd_model.proofs.CellSearch.{least_of_cell_unique}
use Rattle.dd_symbol.specs.Cells.{IsLeastFor}
use Rattle.dd_cells.proofs.CellSums.{has_roots}
use Rattle.dd_covers.proofs.Nodes.{root_beside}
use Rattle.dd_symbol.proofs.CellMarks.{least_for_unique}
use Rattle.dd_lattice.specs.Edges.{IsOfCells, AreCellsJoined, IsForestTo}
use Rattle.dd_union_find.specs.Parts.{IsFalling, IsLevel, AreInOnePart, AreJoinedAt}

-- ## Values of cells

along : (t : Symbol) → AreInvolutions t → (p : Pair) (g : ℕ → ℕ) → IsOfCells t p g → (w : Word) (d : ℕ) → IsChamber t d → IsWordOf p w → g (act t w d) ≡ g d
along t inv p g cells [] d h letters = refl
along t inv p g cells (i ∷ w) d h letters = along t inv p g cells w (op t i d) ((inv i).within d h) letters.1 ∙ cells i d h letters.0

pub value_of_cell : (t : Symbol) → AreInvolutions t → (p : Pair) (g : ℕ → ℕ) → IsOfCells t p g → (d e : ℕ) → IsChamber t d → InCell t p d e → g e ≡ g d
value_of_cell t inv p g cells d e h near = ap g (sym near.leads) ∙ along t inv p g cells near.word d h near.letters

-- what holds of the least chambers of two cells that were found holds of any
pub one_pair : (t : Symbol) → AreInvolutions t → (p : Pair) (d e : ℕ) {f : ℕ} → IsChamber t d → f ≡ e → IsChamber t f → (P : ℕ → ℕ → Type 0) (x y a b : ℕ)
    → IsLeastFor t p d x → IsLeastFor t p e y → IsLeastFor t p d a → IsLeastFor t p e b → P x y → P a b
one_pair t inv p d e h is there P x y a b least_x least_y least_a least_b holds =
    subst (P a) (least_for_unique t inv p e y b (subst (IsChamber t) is there) least_y least_b)
    (subst (λ z. P z y) (least_for_unique t inv p d x a h least_x least_a) holds)

-- ## Ascending edges

pub ascending : (xs : List ℕ) (t : Symbol) → AreCells t Edge xs → (q k : ℕ) → q < k → k < length xs → get_or xs q 0 < get_or xs k 0
ascending xs t cells q k less inside = AllPairs-from_increasing xs cells.ascending q k 0 less inside

pub listed_edge : (t : Symbol) (edges : List ℕ) → AreCells t Edge edges → (k : ℕ) → k < length edges → IsLeastOfCell t Edge (get_or edges k 0)
listed_edge t edges cells k inside = (cells.members (get_or edges k 0)).0 (Contains-get_or edges k 0 inside)

pub same_default : (edges : List ℕ) (q e : ℕ) → q < length edges → get_or edges q e ≡ e → get_or edges q 0 ≡ e
same_default edges q e inside at = get_or_default edges q 0 e inside ∙ at

-- a smaller edge stands at a smaller place
pub place_before : (t : Symbol) (edges : List ℕ) → AreCells t Edge edges → (k : ℕ) → k < length edges → (e : ℕ) → IsLeastOfCell t Edge e → e < get_or edges k 0 → (q : ℕ) × (q < k) × (get_or edges q 0 ≡ e)
place_before t edges cells k inside e is less =
    let listed = (cells.members e).1 is in
    let q = listed.0 in
    let own = same_default edges q e listed.1 listed.2 in (
      q,
      ⊎_elim
          (λ yes. yes)
          (λ no. ⊎_elim
          (λ at. let z = ap (λ r. get_or edges r 0) at in absurd (omega arith))
          (λ rest. let far = ascending edges t cells k q (omega arith) listed.1 in absurd (omega arith))
          (cases_eq q k))
          (cases_lt q k),
      own,
    )

pub own_root : (t : Symbol) (inv : AreInvolutions t) (p : Pair) (v : ℕ) → IsLeastOfCell t p v → v ≡ (has_roots t inv p).root v
own_root t inv p v least = least_of_cell_unique t inv p v ((has_roots t inv p).root v) least ((has_roots t inv p).are.least v least.0) ((has_roots t inv p).are.in_cell v least.0)

module _ (t : Symbol) (inv : AreInvolutions t) (p : Pair) (i : Index) (Counts : ℕ → Type 0) (edges : List ℕ) (cells : AreCells t Edge edges) where
  abbrev edge : ℕ → ℕ
  edge k = get_or edges k 0

  edge_is : (k : ℕ) → k < length edges → IsLeastOfCell t Edge (edge k)
  edge_is = listed_edge t edges cells

  module _ (k : ℕ) (inside : k < length edges) (above : List ℕ) (forest : IsForestTo t p i Counts edges k above) (a b : ℕ)
      (least_a : IsLeastFor t p (edge k) a) (least_b : IsLeastFor t p (op t i (edge k)) b) where
    chamber : IsChamber t (edge k)
    chamber = (edge_is k inside).0

    beside : IsChamber t (op t i (edge k))
    beside = (inv i).within (edge k) chamber

    -- nodes of one part are cells that smaller edges join
    pub joined_from_part : AreInOnePart above a b → AreCellsJoined t p i Counts (edge k)
    joined_from_part part g of_cells level =
        let here = value_of_cell t inv p g of_cells (edge k) a chamber least_a.in_cell in
        let there = value_of_cell t inv p g of_cells (op t i (edge k)) b beside least_b.in_cell in
        let same = part g (forest.level g (λ q x y low listed counts least_x least_y.
        let e = edge_is q listed in
        let one = value_of_cell t inv p g of_cells (edge q) x e.0 least_x.in_cell in
        let two = value_of_cell t inv p g of_cells (op t i (edge q)) y ((inv i).within (edge q) e.0) least_y.in_cell in
        one ∙ sym (level (edge q) e counts (ascending edges t cells q k low inside)) ∙ sym two)) in
        sym there ∙ sym same ∙ here

    -- cells that smaller edges join are nodes of one part
    pub part_from_joined : AreCellsJoined t p i Counts (edge k) → AreInOnePart above a b
    part_from_joined joined h level =
        let root = (has_roots t inv p).root in
        let roots = (has_roots t inv p).are in
        let linked = forest.linked h level in
        let same = joined (λ d. h (root d)) (λ j d own holds. ap h (root_beside t inv p root roots j d own holds)) (λ e is counts less.
        let at = place_before t edges cells k inside e is less in
        let q = at.0 in
        let low = at.1 in
        let own = at.2 in
        let listed : q < length edges = omega arith in
        sym (subst (λ z. h (root z) ≡ h (root (op t i z))) own
        (linked q (root (edge q)) (root (op t i (edge q))) low listed (subst Counts (sym own) counts) (least (edge q) (edge_is q listed).0) (least (op t i (edge q)) ((inv i).within (edge q) (edge_is q listed).0))))) in
        ap h (least_for_unique t inv p (edge k) a (root (edge k)) chamber least_a (least (edge k) chamber)) ∙ sym same ∙ ap h (least_for_unique t inv p (op t i (edge k)) (root (op t i (edge k))) b beside (least (op t i (edge k)) beside) least_b)
      where
        least : (d : ℕ) → IsChamber t d → IsLeastFor t p d ((has_roots t inv p).root d)
        least d h = record { in_cell = (has_roots t inv p).are.in_cell d h; is_least = (has_roots t inv p).are.least d h }

    -- an edge that counts is joined
    pub forest_more : (new : List ℕ) → Counts (edge k) → AreJoinedAt above a b new → IsFalling new → IsForestTo t p i Counts edges (k + 1) new
    forest_more new counts joined falls = record {
      nodes = joined.lengths ∙ forest.nodes;
      falls = falls;
      level = λ h links. joined.to h (forest.level h (λ q x y low. links q x y (omega arith))) (links k a b (omega arith) inside counts least_a least_b);
      linked = λ h level q x y low listed is least_x least_y. ⊎_elim
          (λ before. forest.linked h (joined.from h level) q x y before listed is least_x least_y)
          (λ last.
          let e : q ≡ k = omega arith in
          let one = least_for_unique t inv p (edge k) x a chamber (subst (λ z. IsLeastFor t p (edge z) x) e least_x) least_a in
          let two = least_for_unique t inv p (op t i (edge k)) b y beside least_b (subst (λ z. IsLeastFor t p (op t i (edge z)) y) e least_y) in
          ap h one ∙ joined.joined h level ∙ ap h two)
          (cases_lt q k);
    }

  -- ## The same for any least chambers

  module _ (k : ℕ) (inside : k < length edges) (above : List ℕ) (forest : IsForestTo t p i Counts edges k above) where
    abbrev here : ℕ
    here = (has_roots t inv p).root (edge k)

    abbrev there : ℕ
    there = (has_roots t inv p).root (op t i (edge k))

    least_of : (d : ℕ) → IsChamber t d → IsLeastFor t p d ((has_roots t inv p).root d)
    least_of d h = record { in_cell = (has_roots t inv p).are.in_cell d h; is_least = (has_roots t inv p).are.least d h }

    least_here : IsLeastFor t p (edge k) here
    least_here = least_of (edge k) (edge_is k inside).0

    least_there : IsLeastFor t p (op t i (edge k)) there
    least_there = least_of (op t i (edge k)) ((inv i).within (edge k) (edge_is k inside).0)

    pub are_joined_before : ((a b : ℕ) → IsLeastFor t p (edge k) a → IsLeastFor t p (op t i (edge k)) b → AreInOnePart above a b) → AreCellsJoined t p i Counts (edge k)
    are_joined_before part = joined_from_part k inside above forest here there least_here least_there (part here there least_here least_there)

    pub not_joined_before : ((a b : ℕ) → IsLeastFor t p (edge k) a → IsLeastFor t p (op t i (edge k)) b → AreInOnePart above a b → ⊥) → AreCellsJoined t p i Counts (edge k) → ⊥
    not_joined_before two joined = two here there least_here least_there (part_from_joined k inside above forest here there least_here least_there joined)

    pub forest_joined : (new : List ℕ) → Counts (edge k) → ((a b : ℕ) → IsLeastFor t p (edge k) a → IsLeastFor t p (op t i (edge k)) b → AreJoinedAt above a b new) → IsFalling new
        → IsForestTo t p i Counts edges (k + 1) new
    forest_joined new counts joined falls = forest_more k inside above forest here there least_here least_there new counts (joined here there least_here least_there) falls

  -- one that does not count is passed over
  pub forest_same : (k : ℕ) (above : List ℕ) → (Counts (edge k) → ⊥) → IsForestTo t p i Counts edges k above → IsForestTo t p i Counts edges (k + 1) above
  forest_same k above out forest = record {
    nodes = forest.nodes;
    falls = forest.falls;
    level = λ h links. forest.level h (λ q x y low. links q x y (omega arith));
    linked = λ h level q x y low listed is least_x least_y. ⊎_elim
        (λ before. forest.linked h level q x y before listed is least_x least_y)
        (λ last. absurd (out (subst (λ z. Counts (edge z)) (let e : q ≡ k = omega arith in e) is)))
        (cases_lt q k);
  }

  pub forest_first : (above : List ℕ) → length above ≡ t.size + 1 → IsFalling above → ((h : ℕ → ℕ) → IsLevel above h) → IsForestTo t p i Counts edges 0 above
  forest_first above nodes falls level = record {
    nodes = nodes;
    falls = falls;
    level = λ h links. level h;
    linked = λ h yes q x y low. absurd (omega arith);
  }
