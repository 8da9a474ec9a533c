-- Tree edges are one fewer than the vertices.
use Rattle.std.proofs.Common.{◌≡◌, ℕ, zero, suc, ◌+◌, ◌<◌, ◌≤◌, Bool, true, false, cond, List, length, get_or, take, refl, ap, ◌∙◌, ⊎_elim, arith}
use Rattle.std.proofs.lemmas.Bool.{cases_Bool, cases_eq}
use Rattle.std.proofs.lemmas.List.{take_all}
use Rattle.std.proofs.lemmas.List.Sums.{count_by_more_yes, count_by_more_no}
use Rattle.std.specs.List.{count_by}
use Rattle.dd_model.specs.declared.index.Index.{Index}
use Rattle.dd_model.specs.declared.pair.Pair.{Pair}
use Rattle.dd_model.specs.declared.index.Index.TheVariants.{Zero, Two}
use Rattle.dd_model.specs.declared.pair.Pair.TheVariants.{Tile, Vertex, Edge}
use Rattle.dd_model.specs.Symbol.{Symbol, AreInvolutions, IsChamber, IsSymbol, op}
use Rattle.dd_model.specs.Cell.{IsLeastOfCell, AreCells}
use Rattle.dd_model.specs.Connected.{Connected}
use Rattle.dd_lattice.specs.Edges.{IsOfCells, IsTreeEdge, AreTilesJoined, AreCellsJoined, IsKindOf, AreKindsOf, is_tree, is_crossing}
use Rattle.dd_lattice.specs.declared.kinds.EdgeKind.{EdgeKind}
use Rattle.dd_lattice.specs.declared.kinds.EdgeKind.TheVariants.{Tree, Crossing, Left}
use Rattle.dd_lattice.proofs.Around.{vertices_joined}
use Rattle.dd_lattice.proofs.KindCounts.{count, exactly_chosen}

-- ## Counts by place

module _ (t : Symbol) (inv : AreInvolutions t) (edges : List ℕ) (cells : AreCells t Edge edges) (kinds : List EdgeKind) (are : AreKindsOf t edges kinds) where
  abbrev kind : ℕ → EdgeKind
  kind k = get_or kinds k Left

  is_kind : (k : ℕ) → k < length edges → IsKindOf t (get_or edges k 0) (kind k)
  is_kind k inside = are.each k Left inside

  tree_yes : (k : EdgeKind) (d : ℕ) → IsKindOf t d k → is_tree k ≡ true → IsTreeEdge t d
  tree_yes Tree d is yes_ = is
  tree_yes Crossing d is yes_ = cc
  tree_yes Left d is yes_ = cc

  crossing_yes : (k : EdgeKind) (d : ℕ) → IsKindOf t d k → is_crossing k ≡ true → (IsTreeEdge t d → ⊥) × (AreTilesJoined t d → ⊥)
  crossing_yes Tree d is yes_ = cc
  crossing_yes Crossing d is yes_ = is
  crossing_yes Left d is yes_ = cc

  -- what no refutation refutes, since numbers are equal or not
  stable : (i : Index) (p : Pair) (Counts : ℕ → Type 0) (d : ℕ) → ((AreCellsJoined t p i Counts d → ⊥) → ⊥) → AreCellsJoined t p i Counts d
  stable i p Counts d twice g of_cells level =
      ⊎_elim
      (λ same. same)
      (λ differ. absurd (twice (λ joined. differ (joined g of_cells level))))
      (cases_eq (g (op t i d)) (g d))

  tree_no : (k : EdgeKind) (d : ℕ) → IsKindOf t d k → is_tree k ≡ false → AreCellsJoined t Vertex Zero (λ e. Unit {0}) d
  tree_no Tree d is no_ = cc
  tree_no Crossing d is no_ = stable Zero Vertex (λ e. Unit {0}) d is.0
  tree_no Left d is no_ = stable Zero Vertex (λ e. Unit {0}) d is.0

  crossing_no : (k : EdgeKind) (d : ℕ) → IsKindOf t d k → is_crossing k ≡ false → (IsTreeEdge t d → ⊥) → AreTilesJoined t d
  crossing_no Tree d is no_ none = absurd (none is)
  crossing_no Crossing d is no_ none = cc
  crossing_no Left d is no_ none = is.1

  -- a count of places is one of kinds
  pub by_place : (p : Pair) (i : Index) (Counts : ℕ → Type 0) (f : EdgeKind → Bool) (n : ℕ) → n ≤ length kinds → count t inv p i Counts edges cells (λ k. f (kind k)) n ≡ count_by f (take n kinds)
  by_place p i Counts f zero low = refl
  by_place p i Counts f (suc n) low =
      let rest = by_place p i Counts f n (omega arith) in
      let next : n + 1 ≡ suc n = omega arith in
      let here = ap (λ k. count_by f (take k kinds)) next in
      ⊎_elim
      (λ is.
      let more = count_by_more_yes f kinds n Left (omega arith) is in
      let own : count t inv p i Counts edges cells (λ k. f (kind k)) (suc n) ≡ suc (count t inv p i Counts edges cells (λ k. f (kind k)) n) =
      ap (λ b. cond b (suc (count t inv p i Counts edges cells (λ k. f (kind k)) n)) (count t inv p i Counts edges cells (λ k. f (kind k)) n)) is in
      omega arith)
      (λ out.
      let more = count_by_more_no f kinds n Left (omega arith) out in
      let own : count t inv p i Counts edges cells (λ k. f (kind k)) (suc n) ≡ count t inv p i Counts edges cells (λ k. f (kind k)) n =
      ap (λ b. cond b (suc (count t inv p i Counts edges cells (λ k. f (kind k)) n)) (count t inv p i Counts edges cells (λ k. f (kind k)) n)) out in
      omega arith)
      (cases_Bool (f (kind n)))

  pub all_places : (p : Pair) (i : Index) (Counts : ℕ → Type 0) (f : EdgeKind → Bool) → count t inv p i Counts edges cells (λ k. f (kind k)) (length edges) ≡ count_by f kinds
  all_places p i Counts f =
      let many = are.many in
      by_place p i Counts f (length edges) (omega arith) ∙ ap (count_by f) (take_all (length edges) kinds (omega arith))

  -- ## The laws

  pub tree_chosen : (k : ℕ) → k < length edges → is_tree (kind k) ≡ true → Unit {0} × (AreCellsJoined t Vertex Zero (λ e. Unit {0}) (get_or edges k 0) → ⊥)
  tree_chosen k inside yes_ = (tt, tree_yes (kind k) (get_or edges k 0) (is_kind k inside) yes_)

  pub tree_not_chosen : (k : ℕ) → k < length edges → is_tree (kind k) ≡ false → Unit {0} → AreCellsJoined t Vertex Zero (λ e. Unit {0}) (get_or edges k 0)
  tree_not_chosen k inside no_ counts = tree_no (kind k) (get_or edges k 0) (is_kind k inside) no_

  pub tree_edges : IsSymbol t → Connected t → (vertices : List ℕ) → AreCells t Vertex vertices → count_by is_tree kinds + 1 ≡ length vertices
  tree_edges symbol all vertices of_vertices =
      let one : IsChamber t 1 = (omega arith, symbol.table.chambers) in
      let exact = exactly_chosen t inv Vertex Zero (λ e. Unit {0}) edges cells (λ k. is_tree (kind k)) tree_chosen tree_not_chosen vertices of_vertices one
      (λ g of_cells level. vertices_joined t symbol all one g of_cells (λ e is. level e is tt)) in
      let places = all_places Vertex Zero (λ e. Unit {0}) is_tree in
      omega arith

  pub crossing_chosen : (k : ℕ) → k < length edges → is_crossing (kind k) ≡ true → (IsTreeEdge t (get_or edges k 0) → ⊥) × (AreTilesJoined t (get_or edges k 0) → ⊥)
  crossing_chosen k inside yes_ = crossing_yes (kind k) (get_or edges k 0) (is_kind k inside) yes_

  pub crossing_not_chosen : (k : ℕ) → k < length edges → is_crossing (kind k) ≡ false → (IsTreeEdge t (get_or edges k 0) → ⊥) → AreTilesJoined t (get_or edges k 0)
  crossing_not_chosen k inside no_ none = crossing_no (kind k) (get_or edges k 0) (is_kind k inside) no_ none

  -- where values of tiles that are equal across edges that are no tree edges are equal everywhere
  pub crossing_edges : IsChamber t 1 → (tiles : List ℕ) → AreCells t Tile tiles
      → ((g : ℕ → ℕ) → IsOfCells t Tile g → ((e : ℕ) → IsLeastOfCell t Edge e → (IsTreeEdge t e → ⊥) → g (op t Two e) ≡ g e) → (d : ℕ) → IsChamber t d → g d ≡ g 1)
      → count_by is_crossing kinds + 1 ≡ length tiles
  crossing_edges one tiles of_tiles joined =
      let exact = exactly_chosen t inv Tile Two (λ e. IsTreeEdge t e → ⊥) edges cells (λ k. is_crossing (kind k)) crossing_chosen crossing_not_chosen tiles of_tiles one joined in
      let places = all_places Tile Two (λ e. IsTreeEdge t e → ⊥) is_crossing in
      omega arith
