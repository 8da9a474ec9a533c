-- Each balanced number of edges adds, along closed walks, to a whole combination of the two coordinates of the shifts.
use Rattle.std.proofs.Common.{◌≡◌, ℕ, ◌≤◌, List, ◌∷◌, length, ℤ, pos, ◌+ℤ◌, ◌*ℤ◌, sym, ap, ◌∙◌, subst, ⊎_elim, arith}
use Rattle.std.proofs.lemmas.Int.{ints}
use Rattle.dd_model.specs.declared.index.Index.TheVariants.{Zero}
use Rattle.dd_model.specs.declared.pair.Pair.TheVariants.{Vertex, Edge}
use Rattle.dd_model.specs.Symbol.{Symbol, AreInvolutions, IsChamber, op}
use Rattle.dd_model.specs.Cell.{IsLeastOfCell}
use Rattle.dd_model.proofs.CellLists.{cells_exist}
use Rattle.dd_model.proofs.CellWalks.{in_cell-refl}
use Rattle.dd_covers.specs.Torus.{IsTorus}
use Rattle.dd_lattice.specs.Edges.{IsTreeEdge}
use Rattle.dd_lattice.specs.NetOf.{IsNet}
use Rattle.dd_lattice.specs.Shifts.{AreShifts}
use Rattle.dd_lattice.specs.declared.net.Net.{Net}
use Rattle.dd_lattice.proofs.KindsExist.{kinds_exist}
use Rattle.dd_lattice.proofs.OneChoice.{one_solution}
use Rattle.dd_lattice.proofs.Rings.{at, nat, equal, ◌⊠◌}
use Rattle.dd_gram.specs.Loops.{IsLoop}
use Rattle.dd_gram.specs.Walks.{IsClosedWalk, sum_along}
use Rattle.dd_gram.proofs.WalkLemmas.{telescoped, sum_along-same, sum_along-both, times_zero}
use Rattle.dd_gram.proofs.Balanced.{IsBalanced, balanced_shifts, less, balanced_less, left, balanced_left}
use Rattle.dd_gram.proofs.Joining.{IsStill, level, level_of_vertices, level_rises, tree_walks}

pub times_one : (a : ℤ) → a *ℤ pos 1 ≡ a
times_one a = equal (at a ⊠ nat 1) (at a) (omega arith)

module _ (t : Symbol) (torus : IsTorus t) (net : Net) (is : IsNet t net) where
  abbrev inv : AreInvolutions t
  inv = torus.symbol.table.involutions

  abbrev x : ℕ → ℤ
  x = is.first

  abbrev y : ℕ → ℤ
  y = is.second

  pub y_at_one : y is.one ≡ pos 0
  y_at_one = let a = is.are_left.apart in is.are_second.left is.one is.are_left.first (λ e. absurd (omega arith))

  pub x_at_two : x is.two ≡ pos 0
  x_at_two = let a = is.are_left.apart in is.are_first.left is.two is.are_left.second (λ e. absurd (omega arith))

  -- ## What is 0 on trees

  module _ (w : ℕ → ℤ) (balanced : IsBalanced t w) (trees : (d : ℕ) → IsLeastOfCell t Edge d → IsTreeEdge t d → w d ≡ pos 0) where
    abbrev a : ℤ
    a = w is.one

    abbrev b : ℤ
    b = w is.two

    abbrev rest : ℕ → ℤ
    rest = left t a b x y w (balanced_shifts t is.one x is.are_first) (balanced_shifts t is.two y is.are_second) balanced

    are_rest : AreShifts t is.one rest
    are_rest =
        let l = balanced_left t a b x y w (balanced_shifts t is.one x is.are_first) (balanced_shifts t is.two y is.are_second) balanced in
        record {
          back = l.back;
          across = l.across;
          trees = λ d least tree.
              let p = is.are_first.trees d least tree in
              let q = is.are_second.trees d least tree in
              let r = trees d least tree in
              let e = ap (λ z. a *ℤ z) p ∙ times_zero a in
              let f = ap (λ z. b *ℤ z) q ∙ times_zero b in
              omega (arith, ints);
          unit =
              let p = is.are_first.unit in
              let e = ap (λ z. a *ℤ z) p ∙ times_one a in
              let f = ap (λ z. b *ℤ z) y_at_one ∙ times_zero b in
              omega (arith, ints);
          left = λ d here other.
              let second : d ≡ is.two = ⊎_elim (λ e. absurd (other e)) (λ e. e) (is.are_left.only d here) in
              subst (λ z. rest z ≡ pos 0) (sym second)
              (let p = is.are_second.unit in
              let e = ap (λ z. a *ℤ z) x_at_two ∙ times_zero a in
              let f = ap (λ z. b *ℤ z) p ∙ times_one b in
              let g = x_at_two in
              omega (arith, ints));
          rounds = l.rounds;
        }

    combination : (d : ℕ) → IsChamber t d → w d ≡ a *ℤ x d +ℤ b *ℤ y d
    combination d h = let same = one_solution t torus is.one rest x are_rest is.are_first d h in omega (arith, ints)

  -- ## All that is balanced

  -- how it adds along closed walks
  pub record AddsAlong (z : ℕ → ℤ) (a b : ℤ) : Type 0 where
    pub each : (walk : List ℕ) → IsClosedWalk t walk → sum_along z walk ≡ a *ℤ sum_along x walk +ℤ b *ℤ sum_along y walk

  pub record HasSums (z : ℕ → ℤ) : Type 0 where
    pub a : ℤ
    pub b : ℤ
    pub adds : AddsAlong z a b

  pub has_sums : (z : ℕ → ℤ) → IsBalanced t z → HasSums z
  has_sums z balanced =
      let edges = cells_exist t inv Edge in
      let kinds = kinds_exist t inv edges.0 edges.1 in
      let h = level t torus edges.0 edges.1 kinds.0 kinds.1 z in
      let cells = level_of_vertices t torus edges.0 edges.1 kinds.0 kinds.1 z in
      let w = less t torus.symbol h cells z balanced in
      let is_w = balanced_less t torus.symbol h cells z balanced in
      let trees : (d : ℕ) → IsLeastOfCell t Edge d → IsTreeEdge t d → w d ≡ pos 0 =
      λ d least tree. let up = level_rises t torus edges.0 edges.1 kinds.0 kinds.1 z d least tree in omega (arith, ints) in
      record {
        a = w is.one;
        b = w is.two;
        adds = record {
          each = λ walk closed.
              let sums = telescoped t inv z h cells closed.start closed.start walk closed.chamber closed.goes in
              let same = sum_along-same t w (λ d. w is.one *ℤ x d +ℤ w is.two *ℤ y d) (combination w is_w trees) closed.start closed.start walk closed.goes in
              let both = sum_along-both (w is.one) (w is.two) x y walk in
              let plain : sum_along z walk ≡ sum_along w walk = omega (arith, ints) in
              plain ∙ same ∙ both;
        };
      }

  -- ## Closed walks with the shifts (1, 0) and (0, 1)

  pub record HasLoop (m n : ℤ) : Type 0 where
    pub walk : List ℕ
    pub is_loop : IsLoop t net is walk m n
    pub few : length walk ≤ t.size

  still_x : IsStill t x
  still_x = record { back = is.are_first.back; trees = is.are_first.trees }

  still_y : IsStill t y
  still_y = record { back = is.are_second.back; trees = is.are_second.trees }

  loop_from : (d : ℕ) → IsChamber t d → HasLoop (x d) (y d)
  loop_from d h =
      let edges = cells_exist t inv Edge in
      let kinds = kinds_exist t inv edges.0 edges.1 in
      let back = tree_walks t torus edges.0 edges.1 kinds.0 kinds.1 (op t Zero d) d ((inv Zero).within d h) h in
      record {
        walk = d ∷ back.chambers;
        is_loop = record {
          closed = record { start = d; chamber = h; goes = (h, in_cell-refl t Vertex d, back.is.walk) };
          along_x = let e = back.is.still x still_x in omega (arith, ints);
          along_y = let e = back.is.still y still_y in omega (arith, ints);
        };
        few = let f = back.few in omega arith;
      }

  pub first_loop : HasLoop (pos 1) (pos 0)
  first_loop = subst (λ n. HasLoop (pos 1) n) y_at_one (subst (λ m. HasLoop m (y is.one)) is.are_first.unit (loop_from is.one is.are_left.first.least.0))

  pub second_loop : HasLoop (pos 0) (pos 1)
  second_loop = subst (λ n. HasLoop (pos 0) n) is.are_second.unit (subst (λ m. HasLoop m (y is.two)) x_at_two (loop_from is.two is.are_left.second.least.0))

  -- the numbers of such a combination are those along the two walks
  pub sums_at : (z : ℕ → ℤ) (a b : ℤ) → AddsAlong z a b → (one two : List ℕ) → IsLoop t net is one (pos 1) (pos 0) → IsLoop t net is two (pos 0) (pos 1) → (sum_along z one ≡ a) × (sum_along z two ≡ b)
  sums_at z a b adds one two first second =
      let e = adds.each one first.closed in
      let f = adds.each two second.closed in
      let a1 = ap (λ v. a *ℤ v) first.along_x ∙ times_one a in
      let b1 = ap (λ v. b *ℤ v) first.along_y ∙ times_zero b in
      let a2 = ap (λ v. a *ℤ v) second.along_x ∙ times_zero a in
      let b2 = ap (λ v. b *ℤ v) second.along_y ∙ times_one b in
      (omega (arith, ints), omega (arith, ints))
