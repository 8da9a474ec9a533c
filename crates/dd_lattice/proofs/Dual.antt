-- Edges that are no tree edges join all tiles.
use Rattle.std.proofs.Common.{◌≡◌, ◌≢◌, ℕ, ◌+◌, ◌*◌, ◌<◌, Bool, true, not, cond, eqb, List, length, get_or, refl, sym, ap, ◌∙◌, subst, ⊎_elim, arith}
use Rattle.std.proofs.lemmas.Bool.{cases_eq, cases_Bool, eq-eqb, ne_eqb}
use Rattle.dd_model.specs.declared.index.Index.{Index}
use Rattle.dd_model.specs.declared.index.Index.TheVariants.{Zero, Two}
use Rattle.dd_model.specs.declared.pair.Pair.TheVariants.{Tile, Vertex, Edge}
use Rattle.dd_model.specs.Symbol.{Symbol, AreInvolutions, IsChamber, IsSymbol, op}
use Rattle.dd_model.specs.Cell.{IsLeastOfCell, AreCells}
use Rattle.dd_model.specs.Connected.{Connected}
use Rattle.dd_model.proofs.CellLists.{cells_exist}
use Rattle.dd_cells.proofs.CellSums.{has_roots}
use Rattle.dd_covers.proofs.Labels.{Link, labels, linked, joined_by_links}
use Rattle.dd_covers.proofs.Nodes.{root_beside}
use Rattle.dd_lattice.specs.Edges.{IsOfCells, IsTreeEdge, AreKindsOf, is_tree}
use Rattle.dd_lattice.specs.declared.kinds.EdgeKind.{EdgeKind}
use Rattle.dd_lattice.specs.declared.kinds.EdgeKind.TheVariants.{Left}
use Rattle.dd_lattice.proofs.Around.{vertices_joined, tiles_joined}
use Rattle.dd_lattice.proofs.Flows.{straight, crossed, same_at}
use Rattle.dd_lattice.proofs.KindCounts.{links, count_links, link_listed, level_by_chosen, all_but, but_other, one_fewer}
use Rattle.dd_lattice.proofs.KindLemmas.{listed_edge, same_default, own_root}
use Rattle.dd_lattice.proofs.TreeCounts.{all_places, tree_chosen, tree_not_chosen, tree_edges}

module _ (t : Symbol) (symbol : IsSymbol t) (all : Connected t) (edges : List ℕ) (cells : AreCells t Edge edges) (kinds : List EdgeKind) (are : AreKindsOf t edges kinds) where
  abbrev inv : AreInvolutions t
  inv = symbol.table.involutions

  one : IsChamber t 1
  one = (omega arith, symbol.table.chambers)

  abbrev edge : ℕ → ℕ
  edge k = get_or edges k 0

  abbrev tree_at : ℕ → Bool
  tree_at k = is_tree (get_or kinds k Left)

  abbrev All : ℕ → Type 0
  All e = Unit {0}

  -- ## All tree edges but one

  module _ (m : ℕ) (inside : m < length edges) (tree : tree_at m ≡ true) where
    abbrev but : ℕ → Bool
    but = all_but t inv Vertex Zero All edges cells tree_at m

    abbrev root : ℕ → ℕ
    root = (has_roots t inv Vertex).root

    abbrev others : List Link
    others = links t inv Vertex Zero All edges cells but (length edges)

    abbrev value : ℕ → ℕ
    value d = labels others (root d)

    of_vertices : IsOfCells t Vertex value
    of_vertices j d h holds = ap (labels others) (root_beside t inv Vertex root (has_roots t inv Vertex).are j d h holds)

    value_at : (q : ℕ) → q < length edges → tree_at q ≡ true → q ≢ m → value (op t Zero (edge q)) ≡ value (edge q)
    value_at q low is off =
        sym (linked others (record { from = root (edge q); to = root (op t Zero (edge q)) }) (link_listed t inv Vertex Zero All edges cells but (length edges) q low (but_other t inv Vertex Zero All edges cells tree_at m q off ∙ is)))

    -- the others do not join its vertices
    parted : value (op t Zero (edge m)) ≡ value (edge m) → ⊥
    parted joined =
        let vertices = (cells_exist t inv Vertex).0 in
        let of = (cells_exist t inv Vertex).1 in
        let level = level_by_chosen t inv Vertex Zero All edges cells tree_at (tree_chosen t inv edges cells kinds are) (tree_not_chosen t inv edges cells kinds are) value of_vertices
        (λ q low is. ⊎_elim (λ at. subst (λ z. value (op t Zero (edge z)) ≡ value (edge z)) (sym at) joined) (λ off. value_at q low is off) (cases_eq q m)) in
        let same = vertices_joined t symbol all one value of_vertices (λ e is. level e is tt) in
        let few = joined_by_links others vertices (value 1) of.ascending (λ v here.
        let least = (of.members v).0 here in
        ap (labels others) (own_root t inv Vertex v least) ∙ same v least.0) in
        let many = count_links t inv Vertex Zero All edges cells but (length edges) in
        let fewer = one_fewer t inv Vertex Zero All edges cells tree_at m tree (length edges) inside in
        let places = all_places t inv edges cells kinds are Vertex Zero All is_tree in
        let exact = tree_edges t inv edges cells kinds are symbol all vertices of in
        omega arith

    -- 1 on its side, and 0 on the other
    abbrev side : ℕ → ℕ
    side d = cond (eqb (value d) (value (edge m))) 1 0

    side_of_vertices : IsOfCells t Vertex side
    side_of_vertices j d h holds = ap (λ v. cond (eqb v (value (edge m))) 1 0) (of_vertices j d h holds)

    module _ (white : ℕ → Bool) (exchanged : (i : Index) (d : ℕ) → IsChamber t d → white (op t i d) ≡ not (white d)) (g : ℕ → ℕ) (of_tiles : IsOfCells t Tile g)
        (level : (e : ℕ) → IsLeastOfCell t Edge e → (IsTreeEdge t e → ⊥) → g (op t Two e) ≡ g e) where
      both_ways : (x : ℕ) → IsLeastOfCell t Edge x → x ≢ edge m → straight t symbol white exchanged side g side_of_vertices of_tiles x ≡ crossed t symbol white exchanged side g side_of_vertices of_tiles x
      both_ways x is off =
          let listed = (cells.members x).1 is in
          let q = listed.0 in
          let own = same_default edges q x listed.1 listed.2 in
          ⊎_elim
          (λ yes_.
          let same : side (op t Zero x) ≡ side x = subst (λ z. side (op t Zero z) ≡ side z) own (ap (λ v. cond (eqb v (value (edge m))) 1 0) (value_at q listed.1 yes_ (λ at. off (sym own ∙ ap edge at)))) in
          ap (λ z. z * g (op t Two x) + side x * g x) same ∙ sym (ap (λ z. side x * g (op t Two x) + z * g x) same))
          (λ no_.
          let none : IsTreeEdge t x → ⊥ = subst (λ z. IsTreeEdge t z → ⊥) own (λ is_tree_edge. is_tree_edge (tree_not_chosen t inv edges cells kinds are q listed.1 no_ tt)) in
          let same = level x is none in
          let turned : side (op t Zero x) * g x + side x * g x ≡ side x * g x + side (op t Zero x) * g x = omega arith in
          ap (λ z. side (op t Zero x) * z + side x * g x) same ∙ turned ∙ sym (ap (λ z. side x * z + side (op t Zero x) * g x) same))
          (cases_Bool (tree_at q))

      tiles_at : g (op t Two (edge m)) ≡ g (edge m)
      tiles_at =
          let e = edge m in
          let own = (listed_edge t edges cells m inside).0 in
          let equal = same_at t symbol white exchanged side g side_of_vertices of_tiles e own both_ways in
          let here : side e ≡ 1 = ap (λ b. cond b 1 0) (eq-eqb (value e) (value e) refl) in
          let there : side (op t Zero e) ≡ 0 = ap (λ b. cond b 1 0) (ne_eqb (value (op t Zero e)) (value e) parted) in
          let left = ap (λ z. z * g (op t Two e) + side e * g e) there ∙ ap (λ z. 0 * g (op t Two e) + z * g e) here in
          let right = ap (λ z. z * g (op t Two e) + side (op t Zero e) * g e) here ∙ ap (λ z. 1 * g (op t Two e) + z * g e) there in
          let both : 0 * g (op t Two e) + 1 * g e ≡ 1 * g (op t Two e) + 0 * g e = sym left ∙ equal ∙ right in
          omega arith

  -- ## All edges

  pub all_tiles : (white : ℕ → Bool) → ((i : Index) (d : ℕ) → IsChamber t d → white (op t i d) ≡ not (white d)) → (g : ℕ → ℕ) → IsOfCells t Tile g
      → ((e : ℕ) → IsLeastOfCell t Edge e → (IsTreeEdge t e → ⊥) → g (op t Two e) ≡ g e) → (d : ℕ) → IsChamber t d → g d ≡ g 1
  all_tiles white exchanged g of_tiles level =
      tiles_joined t symbol all one g of_tiles (λ e is.
      let listed = (cells.members e).1 is in
      let q = listed.0 in
      let own = same_default edges q e listed.1 listed.2 in
      ⊎_elim
      (λ yes_. subst (λ z. g (op t Two z) ≡ g z) own (tiles_at q listed.1 yes_ white exchanged g of_tiles level))
      (λ no_. level e is (subst (λ z. IsTreeEdge t z → ⊥) own (λ is_tree_edge. is_tree_edge (tree_not_chosen t inv edges cells kinds are q listed.1 no_ tt))))
      (cases_Bool (tree_at q)))
