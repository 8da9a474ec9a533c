-- All of an orbifold is determined.
use Rattle.std.proofs.Common.{◌≡◌, ℕ, List, [], ◌∷◌, ◌++◌, length, refl, ap, ◌∙◌, subst}
use Rattle.std.specs.Ordering.{nat_cmp}
use Rattle.dd_model.specs.declared.pair.Pair.TheVariants.{Tile, Vertex, Edge}
use Rattle.dd_model.specs.Symbol.{Symbol, IsSymbol}
use Rattle.dd_cells.proofs.CellUniqueness.{told_cells_unique}
use Rattle.dd_name.specs.declared.joints.Joint.{Joint}
use Rattle.dd_name.specs.declared.orbifolds.Orbifold.{Orbifold}
use Rattle.dd_name.specs.Rounds.{corners}
use Rattle.dd_name.specs.Arranged.{IsDescending, dictionary}
use Rattle.dd_name.specs.Cones.{AreCones, cone_values}
use Rattle.dd_name.specs.Boundaries.{AreWritten, AreBoundaries}
use Rattle.dd_name.specs.Surface.{AreHandlesAndCrosscaps}
use Rattle.dd_name.specs.Orbifold.{IsOrbifold}
use Rattle.dd_name.proofs.RoundLemmas.{rounds_unique}
use Rattle.dd_name.proofs.DescendingLemmas.{descending_numbers, descending_lists}
use Rattle.dd_name.proofs.RotationLemmas.{turned_unique}
use Rattle.dd_name.proofs.SurfaceLemmas.{surface_unique}

cones_unique : (s : Symbol) (xs ys : List ℕ) → AreCones s xs → AreCones s ys → xs ≡ ys
cones_unique s xs ys a b =
    let tiles = ap cone_values (told_cells_unique s Tile a.tiles b.tiles a.are_tiles b.are_tiles) in
    let vertices = ap cone_values (told_cells_unique s Vertex a.vertices b.vertices a.are_vertices b.are_vertices) in
    let edges = ap cone_values (told_cells_unique s Edge a.edges b.edges a.are_edges b.are_edges) in
    let all : cone_values a.tiles ++ cone_values a.vertices ++ cone_values a.edges ≡ cone_values b.tiles ++ cone_values b.vertices ++ cone_values b.edges =
    ap (λ (vs : List ℕ). vs ++ cone_values a.vertices ++ cone_values a.edges) tiles
    ∙ ap (λ (vs : List ℕ). cone_values b.tiles ++ vs ++ cone_values a.edges) vertices
    ∙ ap (λ (vs : List ℕ). cone_values b.tiles ++ cone_values b.vertices ++ vs) edges in
    descending_numbers (cone_values b.tiles ++ cone_values b.vertices ++ cone_values b.edges) xs ys
    (subst (λ (vs : List ℕ). IsDescending nat_cmp vs xs) all a.descending)
    b.descending

written_unique : (rounds : List (List Joint)) (cs ds : List (List ℕ)) → AreWritten rounds cs → AreWritten rounds ds → cs ≡ ds
written_unique [] [] [] a b = refl
written_unique [] [] (d ∷ ds) a b = absurd b
written_unique [] (c ∷ cs) ds a b = absurd a
written_unique (r ∷ rounds) [] ds a b = absurd a
written_unique (r ∷ rounds) (c ∷ cs) [] a b = absurd b
written_unique (r ∷ rounds) (c ∷ cs) (d ∷ ds) a b =
    ap (λ (x : List ℕ). x ∷ cs) (turned_unique (corners r) c d a.0 b.0)
    ∙ ap (λ (xs : List (List ℕ)). d ∷ xs) (written_unique rounds cs ds a.1 b.1)

boundaries_unique : (rounds : List (List Joint)) (cs ds : List (List ℕ)) → AreBoundaries rounds cs → AreBoundaries rounds ds → cs ≡ ds
boundaries_unique rounds cs ds a b =
    descending_lists b.lists cs ds
    (subst (λ (ls : List (List ℕ)). IsDescending dictionary ls cs) (written_unique rounds a.lists b.lists a.written b.written) a.descending)
    b.descending

abbrev orbifold_of : ℕ → List ℕ → List (List ℕ) → ℕ → Orbifold
orbifold_of h c b x = record { handles = h; cones = c; boundaries = b; crosscaps = x }

pub orbifold_unique : (s : Symbol) (o p : Orbifold) → IsSymbol s → IsOrbifold s o → IsOrbifold s p → o ≡ p
orbifold_unique s o p is a b =
    let rounds = rounds_unique s is.table.involutions a.rounds b.rounds a.are_rounds b.are_rounds in
    let cones = cones_unique s o.cones p.cones a.cones b.cones in
    let boundaries =
    boundaries_unique b.rounds o.boundaries p.boundaries (subst (λ (rs : List (List Joint)). AreBoundaries rs o.boundaries) rounds a.boundaries) b.boundaries in
    let surface =
    surface_unique s (length b.rounds) o.handles o.crosscaps p.handles p.crosscaps
    (subst (λ (rs : List (List Joint)). AreHandlesAndCrosscaps s (length rs) o.handles o.crosscaps) rounds a.surface)
    b.surface in
    ap (λ (h : ℕ). orbifold_of h o.cones o.boundaries o.crosscaps) surface.handles
    ∙ ap (λ (c : List ℕ). orbifold_of p.handles c o.boundaries o.crosscaps) cones
    ∙ ap (λ (c : List (List ℕ)). orbifold_of p.handles p.cones c o.crosscaps) boundaries
    ∙ ap (orbifold_of p.handles p.cones p.boundaries) surface.crosscaps
