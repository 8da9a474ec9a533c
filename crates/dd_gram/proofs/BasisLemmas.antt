-- The matrix of a symmetry, read from the images of two closed walks.
use Rattle.std.proofs.Common.{◌≡◌, ℕ, ◌≤◌, List, [], ◌∷◌, ℤ, pos, nat_abs, sym, ap, ◌∙◌, subst, ⊎_elim, arith}
use Rattle.std.specs.List.{Contains}
use Rattle.dd_model.specs.declared.index.Index.TheVariants.{Zero}
use Rattle.dd_model.specs.declared.pair.Pair.TheVariants.{Vertex}
use Rattle.dd_model.specs.Symbol.{Symbol, AreInvolutions, IsChamber, item, op}
use Rattle.dd_model.specs.Isomorphic.{IsIsomorphism}
use Rattle.dd_model.proofs.Lists.{Contains-none, Contains-cases}
use Rattle.dd_covers.specs.Torus.{IsTorus}
use Rattle.dd_lattice.specs.NetOf.{IsNet}
use Rattle.dd_lattice.specs.declared.net.Net.{Net}
use Rattle.dd_lattice.proofs.ListLemmas.{few_cells}
use Rattle.dd_gram.specs.Action.{IsAction}
use Rattle.dd_gram.specs.Loops.{HasEdgeWith, IsBasis}
use Rattle.dd_gram.specs.Shifts.{number_at, AreNumbers, HasSmallImage}
use Rattle.dd_gram.specs.Walks.{IsWalk, IsClosedWalk, sum_along, image_walk}
use Rattle.dd_gram.specs.declared.basis.Basis.{Basis}
use Rattle.dd_gram.specs.declared.forms.Matrix.{Matrix}
use Rattle.std.proofs.lemmas.List.{get_or_default}
use Rattle.dd_gram.proofs.Actions.{closed_along, read, read_acts, same_matrix}
use Rattle.dd_gram.proofs.WalkLemmas.{sum_along-same}
use Rattle.dd_gram.proofs.Homology.{x_at_two, y_at_one}

-- no more vertices than chambers
pub few_vertices : (t : Symbol) (net : Net) → IsNet t net → net.vertices ≤ t.size
few_vertices t net is =
    let few = few_cells t Vertex is.vertices is.are_vertices in
    let many = is.many_vertices in
    omega arith

walk_chambers : (t : Symbol) (a b : ℕ) (walk : List ℕ) → IsWalk t a walk b → (d : ℕ) → Contains walk d → IsChamber t d
walk_chambers t a b [] goes d here = absurd (Contains-none d here)
walk_chambers t a b (e ∷ ds) goes d here = ⊎_elim (λ same. subst (IsChamber t) same goes.0) (λ later. walk_chambers t (op t Zero e) b ds goes.2 d later) (Contains-cases e d ds here)

-- the chambers of a closed walk have images
pub small_images : (t : Symbol) (z : ℕ → ℤ) (list : List ℤ) → AreNumbers t z list → (f : List ℕ) → IsIsomorphism t t f → (walk : List ℕ) → IsClosedWalk t walk → (d : ℕ) → Contains walk d → HasSmallImage list f d
small_images t z list are f iso walk closed d here =
    let h = walk_chambers t closed.start closed.start walk closed.goes d here in
    let there = iso.morphism.within d h in
    let images = iso.morphism.images in
    let whole = are.whole in
    let high = h.1 in
    let above = there.1 in
    record {
      low = h.0;
      high = omega arith;
      image_low = there.0;
      image_high = omega arith;
      small = subst (λ v. nat_abs v ≤ 1) (sym (are.each (item f d) there)) (are.small (item f d) there);
    }

-- what is kept is what the net says
told : (t : Symbol) → AreInvolutions t → (z : ℕ → ℤ) (list : List ℤ) → AreNumbers t z list → (f : List ℕ) → IsIsomorphism t t f → (walk : List ℕ) → IsClosedWalk t walk
    → sum_along (number_at list) (image_walk f walk) ≡ sum_along z (image_walk f walk)
told t inv z list are f iso walk closed =
    let there = closed_along t f inv iso walk closed in
    sum_along-same t (number_at list) z are.each there.start there.start (image_walk f walk) there.goes

pub matrix_acts : (t : Symbol) (net : Net) (torus : IsTorus t) (is : IsNet t net) (basis : Basis) → IsBasis t net basis → (f : List ℕ) → IsIsomorphism t t f → (m : Matrix)
    → m.xx ≡ sum_along (number_at basis.numbers.x.items) (image_walk f basis.first.items) → m.xy ≡ sum_along (number_at basis.numbers.x.items) (image_walk f basis.second.items)
    → m.yx ≡ sum_along (number_at basis.numbers.y.items) (image_walk f basis.first.items) → m.yy ≡ sum_along (number_at basis.numbers.y.items) (image_walk f basis.second.items) → IsAction t f m
matrix_acts t net torus is basis kept f iso m xx xy yx yy =
    let inv = torus.symbol.table.involutions in
    let one = kept.first is in
    let two = kept.second is in
    let x = kept.x is in
    let y = kept.y is in
    let R = read t torus net is basis.first.items basis.second.items one two f in
    let same = same_matrix R m
    (sym (xx ∙ told t inv is.first basis.numbers.x.items x f iso basis.first.items one.closed))
    (sym (xy ∙ told t inv is.first basis.numbers.x.items x f iso basis.second.items two.closed))
    (sym (yx ∙ told t inv is.second basis.numbers.y.items y f iso basis.first.items one.closed))
    (sym (yy ∙ told t inv is.second basis.numbers.y.items y f iso basis.second.items two.closed)) in
    subst (IsAction t f) same (read_acts t torus net is basis.first.items basis.second.items one two f iso)

-- ## The edges with the shifts (1, 0) and (0, 1)

module _ (t : Symbol) (torus : IsTorus t) (net : Net) (is : IsNet t net) where
  edge_at : (d : ℕ) → Contains is.edges d → (m n : ℤ) → is.first d ≡ m → is.second d ≡ n → HasEdgeWith net.edges.items m n
  edge_at d here m n x y =
      let many = is.many_edges in
      let low = here.1 in
      let k = here.0 in
      let at = get_or_default is.edges k 0 d low ∙ here.2 in
      record {
        place = k;
        inside = omega arith;
        x = λ e. (is.each k e low).x ∙ ap is.first at ∙ x;
        y = λ e. (is.each k e low).y ∙ ap is.second at ∙ y;
      }

  pub first_edge : HasEdgeWith net.edges.items (pos 1) (pos 0)
  first_edge = edge_at is.one ((is.are_edges.members is.one).1 is.are_left.first.least) (pos 1) (pos 0) is.are_first.unit (y_at_one t torus net is)

  pub second_edge : HasEdgeWith net.edges.items (pos 0) (pos 1)
  second_edge = edge_at is.two ((is.are_edges.members is.two).1 is.are_left.second.least) (pos 0) (pos 1) (x_at_two t torus net is) is.are_second.unit
