-- One coordinate of the shifts is the one choice.
use Rattle.std.proofs.Common.{◌≡◌, ◌≢◌, ℕ, zero, suc, ◌+◌, ◌-◌, ◌*◌, ◌<◌, ◌≤◌, Bool, true, false, cond, eqb, List, length, get_or, ℤ, pos, negsuc, ◌-ℤ◌, refl, sym, ap, ◌∙◌, subst, ⊎_elim, arith}
use Rattle.std.proofs.lemmas.Bool.{cases_lt, cases_eq, cases_Bool, eq-eqb, ne_eqb}
use Rattle.std.proofs.lemmas.Int.{ints}
use Rattle.std.proofs.lemmas.List.{ext_get_or}
use Rattle.std.proofs.lemmas.List.Kept.{AllPairs-from_increasing}
use borrow.Author.Differences.{up, down}
use Rattle.dd_model.specs.declared.index.Index.TheVariants.{Zero, Two}
use Rattle.dd_model.specs.declared.pair.Pair.TheVariants.{Tile, Vertex, Edge}
use Rattle.dd_model.specs.Symbol.{Symbol, AreInvolutions, IsChamber, item, op}
use Rattle.dd_model.specs.Cell.{IsLeastOfCell, IsPeriod, AreCells}
use Rattle.dd_model.proofs.CellLists.{cells_exist, cells_unique}
use Rattle.dd_model.proofs.Turns.{IsLeastTurns-from_period}
use Rattle.dd_cells.proofs.CellSums.{has_roots}
use Rattle.dd_cells.specs.Orientation.{color}
use Rattle.dd_covers.proofs.Labels.{labels, linked}
use Rattle.dd_covers.proofs.Nodes.{root_beside}
use Rattle.dd_covers.specs.Torus.{IsTorus}
use Rattle.dd_symbol.proofs.CellMarks.{least_for_unique}
use Rattle.dd_lattice.specs.Edges.{IsOfCells, IsTreeEdge, IsKindOf, AreKindsOf, is_crossing}
use Rattle.dd_lattice.specs.NetOf.{IsVertexNumber, IsEdgeOf, IsNet}
use Rattle.dd_lattice.specs.Shifts.{IsLeftEdge, AreLeft, AreShifts}
use Rattle.dd_lattice.specs.declared.net.Net.{Net}
use Rattle.dd_lattice.specs.declared.net_edge.NetEdge.{NetEdge}
use Rattle.dd_lattice.specs.declared.kinds.EdgeKind.{EdgeKind}
use Rattle.dd_lattice.specs.declared.kinds.EdgeKind.TheVariants.{Tree, Crossing, Left}
use Rattle.dd_lattice.proofs.Around.{through_edge}
use Rattle.dd_lattice.proofs.KindCounts.{links, link_listed, fresh_at}
use Rattle.dd_lattice.proofs.KindLemmas.{listed_edge, same_default}
use Rattle.dd_lattice.proofs.KindsExist.{kinds_exist}
use Rattle.dd_lattice.proofs.TileFlows.{even_at}
use Rattle.dd_lattice.proofs.TileSums.{total, total_both, sum_as}
use Rattle.dd_lattice.proofs.TreeCounts.{crossing_chosen, crossing_not_chosen}

pub parts : (a b : ℤ) → a ≡ pos 0 -ℤ b → (up a ≡ down b) × (down a ≡ up b)
parts (pos m) (pos n) e = (omega (arith, ints), omega (arith, ints))
parts (pos m) (negsuc n) e = (omega (arith, ints), omega (arith, ints))
parts (negsuc m) (pos n) e = (omega (arith, ints), omega (arith, ints))
parts (negsuc m) (negsuc n) e = (omega (arith, ints), omega (arith, ints))

whole : (a b : ℤ) → up a + down b ≡ down a + up b → a ≡ b
whole a b e = omega (arith, ints)

module _ (t : Symbol) (torus : IsTorus t) (one : ℕ) (x : ℕ → ℤ) (shifts : AreShifts t one x) where
  -- it goes out of a tile as often as into it
  pub round_total : (d r : ℕ) → IsChamber t d → IsPeriod t Tile d r → total t (λ c. up (x c)) d r ≡ total t (λ c. down (x c)) d r
  round_total d r h period =
      let sums = sum_as t x (λ c. up (x c)) (λ c. down (x c)) d r (λ j. omega (arith, ints)) in
      let none = shifts.rounds d r h (IsLeastTurns-from_period t torus.symbol.table.involutions Tile d r h period) in
      omega (arith, ints)

module _ (t : Symbol) (torus : IsTorus t) (edges : List ℕ) (cells : AreCells t Edge edges) (kinds : List EdgeKind) (are : AreKindsOf t edges kinds)
    (one : ℕ) (x y : ℕ → ℤ) (sx : AreShifts t one x) (sy : AreShifts t one y) where
  abbrev inv : AreInvolutions t
  inv = torus.symbol.table.involutions

  abbrev edge : ℕ → ℕ
  edge k = get_or edges k 0

  abbrev crossing_at : ℕ → Bool
  crossing_at k = is_crossing (get_or kinds k Left)

  abbrev out : ℕ → ℕ
  out d = up (x d) + down (y d)

  abbrev back : ℕ → ℕ
  back d = down (x d) + up (y d)

  rounds : (d r : ℕ) → IsChamber t d → IsPeriod t Tile d r → total t out d r ≡ total t back d r
  rounds d r h period =
      let a = total_both t (λ c. up (x c)) (λ c. down (y c)) d r in
      let b = total_both t (λ c. down (x c)) (λ c. up (y c)) d r in
      let p = round_total t torus one x sx d r h period in
      let q = round_total t torus one y sy d r h period in
      omega arith

  out_0 : (d : ℕ) → IsChamber t d → out (op t Zero d) ≡ back d
  out_0 d h = let p = parts (x (op t Zero d)) (x d) (sx.back d h) in let q = parts (y (op t Zero d)) (y d) (sy.back d h) in let a = p.0 in let b = q.1 in omega arith

  back_0 : (d : ℕ) → IsChamber t d → back (op t Zero d) ≡ out d
  back_0 d h = let p = parts (x (op t Zero d)) (x d) (sx.back d h) in let q = parts (y (op t Zero d)) (y d) (sy.back d h) in let a = p.1 in let b = q.0 in omega arith

  out_2 : (d : ℕ) → IsChamber t d → out (op t Two d) ≡ out d
  out_2 d h = let a = ap up (sx.across d h) in let b = ap down (sy.across d h) in omega arith

  back_2 : (d : ℕ) → IsChamber t d → back (op t Two d) ≡ back d
  back_2 d h = let a = ap down (sx.across d h) in let b = ap up (sy.across d h) in omega arith

  -- both are told at edges that do not cross
  told : (k : EdgeKind) (d : ℕ) → IsLeastOfCell t Edge d → IsKindOf t d k → is_crossing k ≡ false → x d ≡ y d
  told Tree d least is no_ = sx.trees d least is ∙ sym (sy.trees d least is)
  told Crossing d least is no_ = cc
  told Left d least is no_ =
      let left : IsLeftEdge t d = record { least = least; kind = is } in
      ⊎_elim
      (λ own. ap x own ∙ sx.unit ∙ sym sy.unit ∙ ap y (sym own))
      (λ off. sx.left d left off ∙ sym (sy.left d left off))
      (cases_eq d one)

  equal_parts : (d : ℕ) → x d ≡ y d → out d ≡ back d
  equal_parts d e = let a = ap up e in let b = ap down e in omega arith

  -- the tiles that smaller crossing edges join to that of an edge
  module _ (m : ℕ) (inside : m < length edges) (yes_ : crossing_at m ≡ true) (later : (q : ℕ) → m < q → q < length edges → x (edge q) ≡ y (edge q)) where
    abbrev root : ℕ → ℕ
    root = (has_roots t inv Tile).root

    abbrev label : ℕ → ℕ
    label d = labels (links t inv Tile Two (λ e. IsTreeEdge t e → ⊥) edges cells crossing_at m) (root d)

    abbrev g : ℕ → ℕ
    g d = cond (eqb (label d) (label (edge m))) 1 0

    of_tiles : IsOfCells t Tile g
    of_tiles i d h holds = ap (λ z. cond (eqb (labels (links t inv Tile Two (λ e. IsTreeEdge t e → ⊥) edges cells crossing_at m) z) (label (edge m))) 1 0) (root_beside t inv Tile root (has_roots t inv Tile).are i d h holds)

    before : (q : ℕ) → q < m → crossing_at q ≡ true → g (op t Two (edge q)) ≡ g (edge q)
    before q low is =
        let same = linked (links t inv Tile Two (λ e. IsTreeEdge t e → ⊥) edges cells crossing_at m) (record { from = root (edge q); to = root (op t Two (edge q)) }) (link_listed t inv Tile Two (λ e. IsTreeEdge t e → ⊥) edges cells crossing_at m q low is) in
        ap (λ v. cond (eqb v (label (edge m))) 1 0) (sym same)

    abbrev forth : ℕ → ℕ
    forth d = g d * out d + g (op t Two d) * back d

    abbrev opposite : ℕ → ℕ
    opposite d = g d * back d + g (op t Two d) * out d

    equal_flow : (d : ℕ) → out d ≡ back d → forth d ≡ opposite d
    equal_flow d e = ap (λ z. g d * z + g (op t Two d) * back d) e ∙ ap (λ z. g d * back d + g (op t Two d) * z) (sym e)

    others : (z : ℕ) → IsLeastOfCell t Edge z → z ≢ edge m → forth z ≡ opposite z
    others z least off =
        let listed = (cells.members z).1 least in
        let q = listed.0 in
        let own = same_default edges q z listed.1 listed.2 in
        subst (λ d. forth d ≡ opposite d) own (
        ⊎_elim
        (λ crosses. ⊎_elim
        (λ low.
        let same = before q low crosses in
        let turned_over : g (edge q) * out (edge q) + g (edge q) * back (edge q) ≡ g (edge q) * back (edge q) + g (edge q) * out (edge q) = omega arith in
        ap (λ v. g (edge q) * out (edge q) + v * back (edge q)) same ∙ turned_over ∙ sym (ap (λ v. g (edge q) * back (edge q) + v * out (edge q)) same))
        (λ rest. ⊎_elim
        (λ at. absurd (off (sym own ∙ ap edge at)))
        (λ differ. equal_flow (edge q) (equal_parts (edge q) (later q (omega arith) listed.1)))
        (cases_eq q m))
        (cases_lt q m))
        (λ none. equal_flow (edge q) (equal_parts (edge q) (told (get_or kinds q Left) (edge q) (listed_edge t edges cells q listed.1) (are.each q Left listed.1) none)))
        (cases_Bool (crossing_at q))
        )

    equal_here : x (edge m) ≡ y (edge m)
    equal_here =
        let e = edge m in
        let h = (listed_edge t edges cells m inside).0 in
        let same = even_at t torus.symbol (color torus.oriented.colors) torus.oriented.exchanged out back rounds g of_tiles out_0 back_0 out_2 back_2 e h others in
        let fresh = fresh_at t inv Tile Two (λ d. IsTreeEdge t d → ⊥) edges cells crossing_at (crossing_chosen t inv edges cells kinds are) (crossing_not_chosen t inv edges cells kinds are) m inside yes_ in
        let here : g e ≡ 1 = ap (λ b. cond b 1 0) (eq-eqb (label e) (label e) refl) in
        let there : g (op t Two e) ≡ 0 = ap (λ b. cond b 1 0) (ne_eqb (label (op t Two e)) (label e) (λ eq. fresh (sym eq))) in
        let left = ap (λ z. z * out e + g (op t Two e) * back e) here ∙ ap (λ z. 1 * out e + z * back e) there in
        let right = ap (λ z. z * back e + g (op t Two e) * out e) here ∙ ap (λ z. 1 * back e + z * out e) there in
        let both : 1 * out e + 0 * back e ≡ 1 * back e + 0 * out e = sym left ∙ same ∙ right in
        let flat : out e ≡ back e = omega arith in
        whole (x e) (y e) flat

  from_last : (k q : ℕ) → length edges ≤ q + k → q < length edges → x (edge q) ≡ y (edge q)
  from_last zero q far inside = absurd (omega arith)
  from_last (suc k) q far inside =
      ⊎_elim
      (λ crosses. equal_here q inside crosses (λ r less low. from_last k r (omega arith) low))
      (λ none. told (get_or kinds q Left) (edge q) (listed_edge t edges cells q inside) (are.each q Left inside) none)
      (cases_Bool (crossing_at q))

  one_choice : (d : ℕ) → IsChamber t d → x d ≡ y d
  one_choice =
      through_edge t torus.symbol (λ d. x d ≡ y d)
      (λ i d h holds same. ⊎_elim
      (λ e. subst (λ j. x (op t j d) ≡ y (op t j d)) (sym e) (sx.back d h ∙ ap (λ z. pos 0 -ℤ z) same ∙ sym (sy.back d h)))
      (λ e. subst (λ j. x (op t j d) ≡ y (op t j d)) (sym e) (sx.across d h ∙ same ∙ sym (sy.across d h)))
      holds)
      (λ e least.
      let listed = (cells.members e).1 least in
      subst (λ z. x z ≡ y z) (same_default edges listed.0 e listed.1 listed.2) (from_last (length edges) listed.0 (omega arith) listed.1))

-- ## One net

pub one_solution : (t : Symbol) → IsTorus t → (one : ℕ) (x y : ℕ → ℤ) → AreShifts t one x → AreShifts t one y → (d : ℕ) → IsChamber t d → x d ≡ y d
one_solution t torus one x y sx sy =
    let inv = torus.symbol.table.involutions in
    let edges = cells_exist t inv Edge in
    let kinds = kinds_exist t inv edges.0 edges.1 in
    one_choice t torus edges.0 edges.1 kinds.0 kinds.1 one x y sx sy

pub one_vertices : (t : Symbol) (net other : Net) → IsNet t net → IsNet t other → net.vertices ≡ other.vertices
one_vertices t net other is are = is.many_vertices ∙ ap (λ (vs : List ℕ). length vs) (cells_unique t Vertex is.vertices are.vertices is.are_vertices are.are_vertices) ∙ sym are.many_vertices

one_number : (t : Symbol) → AreInvolutions t → (vs : List ℕ) → AreCells t Vertex vs → (d m n : ℕ) → IsChamber t d → IsVertexNumber t vs d m → IsVertexNumber t vs d n → m ≡ n
one_number t inv vs cells d m n h a b =
    let same = least_for_unique t inv Vertex d (item vs m) (item vs n) h a.least b.least in
    let ma = a.positive in
    let mb = a.within in
    let na = b.positive in
    let nb = b.within in
    ⊎_elim
    (λ e. e)
    (λ off. ⊎_elim
    (λ less. let far = AllPairs-from_increasing vs cells.ascending (m - 1) (n - 1) 0 (omega arith) (omega arith) in absurd (omega arith))
    (λ rest. let far = AllPairs-from_increasing vs cells.ascending (n - 1) (m - 1) 0 (omega arith) (omega arith) in absurd (omega arith))
    (cases_lt m n))
    (cases_eq m n)

-- the two that are left are the first two of such
pub one_left : (t : Symbol) (a b c d : ℕ) → AreLeft t a b → AreLeft t c d → (a ≡ c) × (b ≡ d)
one_left t a b c d ab cd =
    let low = ab.apart in
    let high = cd.apart in
    let first = cd.only a ab.first in
    let second = cd.only b ab.second in
    let back_ = ab.only c cd.first in
    let over = ab.only d cd.second in (
      ⊎_elim (λ e. e) (λ ad. ⊎_elim (λ bc. absurd (omega arith)) (λ bd. absurd (omega arith)) second) first,
      ⊎_elim (λ bc. ⊎_elim (λ ac. absurd (omega arith)) (λ ad. absurd (omega arith)) first) (λ e. e) second,
    )

same_edge : (e f : NetEdge) → e.from ≡ f.from → e.to ≡ f.to → e.x ≡ f.x → e.y ≡ f.y → e ≡ f
same_edge e f from to x y = λ i. record { from = from i; to = to i; x = x i; y = y i }

pub one_net : (t : Symbol) (net other : Net) → IsTorus t → IsNet t net → IsNet t other → net.edges.items ≡ other.edges.items
one_net t net other torus is are =
    let inv = torus.symbol.table.involutions in
    let edges = cells_unique t Edge is.edges are.edges is.are_edges are.are_edges in
    let vertices = cells_unique t Vertex is.vertices are.vertices is.are_vertices are.are_vertices in
    let left = one_left t is.one is.two are.one are.two is.are_left are.are_left in
    let many = is.many_edges in
    let size = is.many_edges ∙ ap (λ (es : List ℕ). length es) edges ∙ sym are.many_edges in
    ext_get_or none net.edges.items other.edges.items size (λ k low.
    let inside : k < length is.edges = omega arith in
    let there : k < length are.edges = let e = ap (λ (es : List ℕ). length es) edges in omega arith in
    let d = get_or is.edges k 0 in
    let same : get_or are.edges k 0 ≡ d = ap (λ es. get_or es k 0) (sym edges) in
    let h = (listed_edge t is.edges is.are_edges k inside).0 in
    let a = is.each k none inside in
    let b : IsEdgeOf t is.vertices are.first are.second d (get_or other.edges.items k none) =
    subst (λ vs. IsEdgeOf t vs are.first are.second d (get_or other.edges.items k none)) (sym vertices) (subst (λ c. IsEdgeOf t are.vertices are.first are.second c (get_or other.edges.items k none)) same (are.each k none there)) in
    let x = one_solution t torus is.one is.first are.first is.are_first (subst (λ z. AreShifts t z are.first) (sym left.0) are.are_first) d h in
    let y = one_solution t torus is.two is.second are.second is.are_second (subst (λ z. AreShifts t z are.second) (sym left.1) are.are_second) d h in
    same_edge (get_or net.edges.items k none) (get_or other.edges.items k none)
    (one_number t inv is.vertices is.are_vertices d (get_or net.edges.items k none).from (get_or other.edges.items k none).from h a.from b.from)
    (one_number t inv is.vertices is.are_vertices (op t Zero d) (get_or net.edges.items k none).to (get_or other.edges.items k none).to ((inv Zero).within d h) a.to b.to)
    (a.x ∙ x ∙ sym b.x)
    (a.y ∙ y ∙ sym b.y))
  where
    none : NetEdge
    none = record { from = 0; to = 0; x = pos 0; y = pos 0 }
