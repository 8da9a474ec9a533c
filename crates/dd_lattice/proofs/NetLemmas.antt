-- What is made of the parts of a net, and that it is connected.
use Rattle.std.proofs.Common.{◌≡◌, ℕ, zero, suc, ◌+◌, ◌-◌, ◌<◌, ◌≤◌, true, cond, eqb, Bool, List, [], ◌∷◌, length, map, get_or, refl, sym, ap, ◌∙◌, subst, inl, inr, ⊎_elim, ℤ, pos, arith}
use Rattle.std.proofs.lemmas.Bool.{cases_eq, eq-eqb, ne_eqb}
use Rattle.std.proofs.lemmas.List.{take_all}
use Rattle.std.proofs.lemmas.List.Elements.{Contains-get_or}
use Rattle.std.specs.List.{count_by}
use Rattle.std.specs.List.Sorted.{IsStrictlyIncreasing}
use Rattle.dd_model.specs.declared.index.Index.TheVariants.{Zero}
use Rattle.dd_model.specs.declared.pair.Pair.TheVariants.{Vertex, Edge}
use Rattle.dd_model.specs.Symbol.{Symbol, AreInvolutions, IsChamber, item, op}
use Rattle.dd_model.specs.Cell.{IsLeastOfCell, AreCells}
use Rattle.dd_model.proofs.CellLists.{increasing-head, increasing-tail}
use Rattle.dd_model.proofs.CellWalks.{in_cell-refl}
use Rattle.dd_cells.specs.Cells.{AreCellsOf}
use Rattle.dd_cells.specs.declared.cell.Cell.{Cell}
use Rattle.dd_cells.proofs.CellSums.{has_roots}
use Rattle.dd_covers.proofs.Nodes.{root_beside}
use Rattle.dd_covers.specs.Torus.{IsTorus}
use Rattle.dd_symbol.proofs.CellMarks.{least_for_unique}
use Rattle.dd_lattice.specs.Edges.{IsKindOf, IsOfCells, AreKindsOf, is_left}
use Rattle.dd_lattice.specs.Lists.{AreLeftOf, AreVertexNumbers}
use Rattle.dd_lattice.specs.Joined.{IsVertexOf, IsEqualAtEnds, AreJoined}
use Rattle.dd_lattice.specs.NetOf.{IsVertexNumber, IsEdgeOf, AreNetParts}
use Rattle.dd_lattice.specs.Paths.{shift_by}
use Rattle.dd_lattice.specs.Shifts.{IsLeftEdge, AreLeft, AreShifts}
use Rattle.dd_lattice.specs.declared.kinds.EdgeKind.{EdgeKind}
use Rattle.dd_lattice.specs.declared.kinds.EdgeKind.TheVariants.{Tree, Crossing, Left}
use Rattle.dd_lattice.specs.declared.net_edge.NetEdge.{NetEdge}
use Rattle.dd_lattice.proofs.Around.{vertices_joined}
use Rattle.dd_lattice.proofs.KindLemmas.{listed_edge, same_default}
use Rattle.dd_lattice.proofs.ListLemmas.{length_map}
use Rattle.dd_lattice.proofs.TorusLaw.{two_left}

-- ## The two edges that are left

module _ (t : Symbol) (torus : IsTorus t) (edges : List ℕ) (cells : AreCells t Edge edges) (kinds : List EdgeKind) (are : AreKindsOf t edges kinds) (left : List ℕ) (list : AreLeftOf edges kinds (length edges) left) where
  pub left_two : length left ≡ 2
  left_two =
      let many = are.many in
      list.many ∙ ap (count_by is_left) (take_all (length edges) kinds (omega arith)) ∙ two_left t torus edges cells kinds are

  kind_left : (k : EdgeKind) (d : ℕ) → IsKindOf t d k → is_left k ≡ true → IsKindOf t d Left
  kind_left Tree d is yes_ = cc
  kind_left Crossing d is yes_ = cc
  kind_left Left d is yes_ = is

  left_kind : (k : EdgeKind) (d : ℕ) → IsKindOf t d k → IsKindOf t d Left → is_left k ≡ true
  left_kind Tree d is left_ = absurd (left_.0 is)
  left_kind Crossing d is left_ = absurd (is.1 left_.1)
  left_kind Left d is left_ = refl

  pub left_at : (q : ℕ) → q < 2 → IsLeftEdge t (get_or left q 0)
  left_at q low =
      let two = left_two in
      let from = list.each q (omega arith) in
      subst (IsLeftEdge t) from.is (record {
        least = listed_edge t edges cells from.place from.early;
        kind = kind_left (get_or kinds from.place Left) (get_or edges from.place 0) (are.each from.place Left from.early) (from.left Left);
      })

  pub are_left : AreLeft t (get_or left 0 0) (get_or left 1 0)
  are_left = record {
    apart = let two = left_two in list.ascending 0 1 (omega arith) (omega arith);
    first = left_at 0 (omega arith);
    second = left_at 1 (omega arith);
    only = λ d is.
        let listed = (cells.members d).1 is.least in
        let q = listed.0 in
        let own = same_default edges q d listed.1 listed.2 in
        let here = list.all d (record {
          place = q;
          early = listed.1;
          is = own;
          left = λ e. left_kind (get_or kinds q e) (get_or edges q 0) (are.each q e listed.1) (subst (λ z. IsKindOf t z Left) (sym own) is.kind);
        }) in
        let at = same_default left here.0 d here.1 here.2 in
        let low = here.1 in
        let two = left_two in
        ⊎_elim
        (λ first. inl (sym at ∙ ap (λ z. get_or left z 0) first))
        (λ off. let second : here.0 ≡ 1 = omega arith in inr (sym at ∙ ap (λ z. get_or left z 0) second))
        (cases_eq here.0 0);
  }

-- ## Places in ascending lists

abbrev pub place_in : List ℕ → ℕ → ℕ
place_in [] x = 0
place_in (y ∷ ys) x = cond (eqb y x) 0 (suc (place_in ys x))

place_at : (xs : List ℕ) → IsStrictlyIncreasing xs → (k : ℕ) → k < length xs → place_in xs (get_or xs k 0) ≡ k
place_at [] up k low = absurd (omega arith)
place_at (y ∷ ys) up zero low = ap (λ b. cond b 0 (suc (place_in ys y))) (eq-eqb y y refl)
place_at (y ∷ ys) up (suc k) low =
    let x = get_or ys k 0 in
    let inside : k < length ys = omega arith in
    let less = increasing-head y x ys up (Contains-get_or ys k 0 inside) in
    ap (λ b. cond b 0 (suc (place_in ys x))) (ne_eqb y x (λ e. absurd (omega arith))) ∙ ap suc (place_at ys (increasing-tail y ys up) k inside)

-- ## Nets of tori are connected

module _ (t : Symbol) (torus : IsTorus t) (count : ℕ) (listed : List NetEdge) (is : AreNetParts t count listed) where
  abbrev inv : AreInvolutions t
  inv = torus.symbol.table.involutions

  abbrev root : ℕ → ℕ
  root = (has_roots t inv Vertex).root

  -- the number of the vertex of a chamber
  abbrev pub number : ℕ → ℕ
  number d = place_in is.vertices (root d) + 1

  pub number_is : (d n : ℕ) → IsChamber t d → IsVertexNumber t is.vertices d n → n ≡ number d
  number_is d n h told =
      let low = told.positive in
      let high = told.within in
      let roots = (has_roots t inv Vertex).are in
      let same = least_for_unique t inv Vertex d (item is.vertices n) (root d) h told.least (record { in_cell = roots.in_cell d h; is_least = roots.least d h }) in
      let at = place_at is.vertices is.are_vertices.ascending (n - 1) (omega arith) in
      let moved = ap (place_in is.vertices) same in
      omega arith

  one : IsChamber t 1
  one = (omega arith, torus.symbol.table.chambers)

  some_vertex : 1 ≤ count
  some_vertex =
      let at_place = (is.are_vertices.members (root 1)).1 ((has_roots t inv Vertex).are.least 1 one) in
      let low = at_place.1 in
      let many = is.many_vertices in
      omega arith

  -- each number is that of the first chamber of a vertex
  pub first_chamber : (v : ℕ) → IsVertexOf count v → IsChamber t (item is.vertices v) × (v ≡ number (item is.vertices v))
  first_chamber v inside =
      let low = inside.0 in
      let high = inside.1 in
      let many = is.many_vertices in
      let d = item is.vertices v in
      let least = (is.are_vertices.members d).0 (Contains-get_or is.vertices (v - 1) 0 (omega arith)) in
      (least.0, number_is d v least.0 (record { positive = low; within = omega arith; least = record { in_cell = in_cell-refl t Vertex d; is_least = least } }))

  module _ (h : ℕ → ℕ) (level : IsEqualAtEnds listed h) where
    abbrev g : ℕ → ℕ
    g d = h (number d)

    of_vertices : IsOfCells t Vertex g
    of_vertices i d hd holds = ap (λ z. h (place_in is.vertices z + 1)) (root_beside t inv Vertex root (has_roots t inv Vertex).are i d hd holds)

    none : NetEdge
    none = record { from = 0; to = 0; x = pos 0; y = pos 0 }

    along : (e : ℕ) → IsLeastOfCell t Edge e → g (op t Zero e) ≡ g e
    along e least =
        let at_place = (is.are_edges.members e).1 least in
        let k = at_place.0 in
        let low = at_place.1 in
        let many = is.many_edges in
        let own = same_default is.edges k e at_place.1 at_place.2 in
        let d = get_or is.edges k 0 in
        let hd = (listed_edge t is.edges is.are_edges k at_place.1).0 in
        let edge = is.each k none at_place.1 in
        let from = number_is d (get_or listed k none).from hd edge.from in
        let to = number_is (op t Zero d) (get_or listed k none).to ((inv Zero).within d hd) edge.to in
        subst (λ z. g (op t Zero z) ≡ g z) own (sym (ap h to) ∙ sym (level k none (omega arith)) ∙ ap h from)

    value : (v : ℕ) → IsVertexOf count v → h v ≡ g 1
    value v inside =
        let first = first_chamber v inside in
        ap h first.1 ∙ vertices_joined t torus.symbol torus.connected one g of_vertices along (item is.vertices v) first.0

    all_joined : (v : ℕ) → IsVertexOf count v → h v ≡ h 1
    all_joined v inside = value v inside ∙ sym (value 1 (omega arith, some_vertex))

  vertex_of : (d n : ℕ) → IsVertexNumber t is.vertices d n → IsVertexOf count n
  vertex_of d n told = let many = is.many_vertices in let high = told.within in (told.positive, omega arith)

  pub are_joined : AreJoined count listed
  are_joined = record {
    some = some_vertex;
    from = λ k e low. let many = is.many_edges in vertex_of (get_or is.edges k 0) (get_or listed k e).from (is.each k e (omega arith)).from;
    to = λ k e low. let many = is.many_edges in vertex_of (op t Zero (get_or is.edges k 0)) (get_or listed k e).to (is.each k e (omega arith)).to;
    joined = all_joined;
  }

-- ## The parts of a net

pub edge_of : (t : Symbol) → AreInvolutions t → (vertices numbers : List ℕ) → AreVertexNumbers t vertices numbers → (first second : ℕ → ℤ) (d : ℕ) → IsChamber t d → (e : NetEdge)
    → e.from ≡ item numbers d → e.to ≡ item numbers (op t Zero d) → e.x ≡ first d → e.y ≡ second d → IsEdgeOf t vertices first second d e
edge_of t inv vertices numbers are first second d h e from to x y = record {
  from = subst (IsVertexNumber t vertices d) (sym from) (are.each d h);
  to = subst (IsVertexNumber t vertices (op t Zero d)) (sym to) (are.each (op t Zero d) ((inv Zero).within d h));
  x = x;
  y = y;
}

-- the edges, their kinds, and those that are left
pub record AreSorted (t : Symbol) (edges : List ℕ) (kinds : List EdgeKind) (left : List ℕ) : Type 0 where
  pub are_edges : AreCells t Edge edges
  pub are_kinds : AreKindsOf t edges kinds
  pub are_left : AreLeftOf edges kinds (length edges) left

pub sorted : (s t : Symbol) (es xs ys : List ℕ) (ks js : List EdgeKind) (ls : List ℕ) → s ≡ t → xs ≡ es → ys ≡ es → js ≡ ks → AreCells s Edge es → AreKindsOf t xs ks → AreLeftOf ys js (length ys) ls → AreSorted t es ks ls
sorted s t es xs ys ks js ls same ex ey ej cells kinds left = record {
  are_edges = subst (λ u. AreCells u Edge es) same cells;
  are_kinds = subst (λ zs. AreKindsOf t zs ks) ex kinds;
  are_left = subst (λ zs. AreLeftOf zs ks (length zs) ls) ey (subst (λ zs. AreLeftOf ys zs (length ys) ls) ej left);
}

module _ (t : Symbol) (torus : IsTorus t) (edges : List ℕ) (kinds : List EdgeKind) (left : List ℕ) (are : AreSorted t edges kinds left) where
  pub two_left_here : length left ≡ 2
  two_left_here = left_two t torus edges are.are_edges kinds are.are_kinds left are.are_left

  pub left_here : (k d : ℕ) → k < 2 → d ≡ get_or left k 0 → IsLeftEdge t d
  left_here k d low e = subst (IsLeftEdge t) (sym e) (left_at t torus edges are.are_edges kinds are.are_kinds left are.are_left k low)

  pub net_parts : (cells : List Cell) → AreCellsOf t Vertex cells → (count : ℕ) → count ≡ length cells → (x y : ℕ) → x ≡ get_or left 0 0 → y ≡ get_or left 1 0 → (p q : List Bool)
      → AreShifts t x (shift_by t p) → AreShifts t y (shift_by t q) → (all : List NetEdge) → length all ≡ length edges
      → ((k : ℕ) (e : NetEdge) → k < length edges → IsEdgeOf t (map (λ (v : Cell). v.least) cells) (shift_by t p) (shift_by t q) (get_or edges k 0) (get_or all k e)) → AreNetParts t count all
  net_parts cells of_cells count many x y ex ey p q first second all listed each = record {
    vertices = map (λ (v : Cell). v.least) cells;
    are_vertices = of_cells.least_chambers;
    many_vertices = many ∙ sym (length_map (λ (v : Cell). v.least) cells);
    one = get_or left 0 0;
    two = get_or left 1 0;
    are_left = are_left t torus edges are.are_edges kinds are.are_kinds left are.are_left;
    first = shift_by t p;
    are_first = subst (λ d. AreShifts t d (shift_by t p)) ex first;
    second = shift_by t q;
    are_second = subst (λ d. AreShifts t d (shift_by t q)) ey second;
    edges = edges;
    are_edges = are.are_edges;
    many_edges = listed;
    each = each;
  }
