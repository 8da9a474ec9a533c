-- Each symmetry has one matrix, whose columns are the total shifts of the images of two closed walks.
use Rattle.std.proofs.Common.{◌≡◌, ℕ, ◌+◌, ◌≤◌, List, [], ◌∷◌, length, ℤ, pos, nat_abs, ◌+ℤ◌, ◌*ℤ◌, refl, sym, ap, ◌∙◌, subst, arith}
use Rattle.std.proofs.lemmas.Int.{ints}
use Rattle.dd_model.specs.Symbol.{Symbol, AreInvolutions, IsChamber, item, op}
use Rattle.dd_model.specs.Isomorphic.{IsIsomorphism}
use Rattle.dd_model.proofs.Bijections.{after, item-after}
use Rattle.dd_model.proofs.Isomorphisms.{IsIsomorphism-after}
use Rattle.dd_model.specs.declared.index.Index.TheVariants.{Zero}
use Rattle.dd_covers.specs.Torus.{IsTorus}
use Rattle.dd_lattice.specs.NetOf.{IsNet}
use Rattle.dd_lattice.specs.Shifts.{AreShifts}
use Rattle.dd_lattice.specs.declared.net.Net.{Net}
use Rattle.dd_lattice.proofs.OneChoice.{one_left, one_solution}
use Rattle.dd_lattice.proofs.Rings.{at, equal, ◌⊞◌, ◌⊠◌}
use Rattle.dd_gram.specs.Action.{IsAction}
use Rattle.dd_gram.specs.Form.{times}
use Rattle.dd_gram.specs.Loops.{IsLoop}
use Rattle.dd_gram.specs.Walks.{IsWalk, IsClosedWalk, sum_along, image_walk}
use Rattle.dd_gram.specs.declared.forms.Matrix.{Matrix}
use Rattle.dd_gram.proofs.WalkLemmas.{sum_along-image, sum_along-same, walk_along}
use Rattle.dd_gram.proofs.Balanced.{balanced_shifts, balanced_along}
use Rattle.dd_gram.proofs.Homology.{has_sums, sums_at, times_one, first_loop, second_loop}
use Rattle.dd_gram.proofs.WalkLemmas.{times_zero}
use Rattle.dd_gram.proofs.SmallShifts.{small_shifts}

-- ## Two nets of a torus have the same shifts

module _ (t : Symbol) (torus : IsTorus t) (net other : Net) (is : IsNet t net) (are : IsNet t other) where
  pub same_first : (d : ℕ) → IsChamber t d → is.first d ≡ are.first d
  same_first =
      let left = one_left t is.one is.two are.one are.two is.are_left are.are_left in
      one_solution t torus is.one is.first are.first is.are_first (subst (λ z. AreShifts t z are.first) (sym left.0) are.are_first)

  pub same_second : (d : ℕ) → IsChamber t d → is.second d ≡ are.second d
  same_second =
      let left = one_left t is.one is.two are.one are.two is.are_left are.are_left in
      one_solution t torus is.two is.second are.second is.are_second (subst (λ z. AreShifts t z are.second) (sym left.1) are.are_second)

-- the image of a closed walk is a closed walk
pub closed_along : (t : Symbol) (f : List ℕ) → AreInvolutions t → IsIsomorphism t t f → (walk : List ℕ) → IsClosedWalk t walk → IsClosedWalk t (image_walk f walk)
closed_along t f inv iso walk closed = record {
  start = item f closed.start;
  chamber = iso.morphism.within closed.start closed.chamber;
  goes = walk_along t f inv iso.morphism closed.start closed.start walk closed.chamber closed.goes;
}

same_along : (t : Symbol) (x y : ℕ → ℤ) → ((d : ℕ) → IsChamber t d → x d ≡ y d) → (walk : List ℕ) → IsClosedWalk t walk → sum_along x walk ≡ sum_along y walk
same_along t x y same walk closed = sum_along-same t x y same closed.start closed.start walk closed.goes

pub same_matrix : (m n : Matrix) → m.xx ≡ n.xx → m.xy ≡ n.xy → m.yx ≡ n.yx → m.yy ≡ n.yy → m ≡ n
same_matrix m n xx xy yx yy = λ i. record { xx = xx i; xy = xy i; yx = yx i; yy = yy i }

module _ (t : Symbol) (torus : IsTorus t) (net : Net) (is : IsNet t net) where
  abbrev inv : AreInvolutions t
  inv = torus.symbol.table.involutions

  abbrev x : ℕ → ℤ
  x = is.first

  abbrev y : ℕ → ℤ
  y = is.second

  -- what a matrix does, told by this net
  pub record ActsHere (f : List ℕ) (m : Matrix) : Type 0 where
    pub x_is : (walk : List ℕ) → IsClosedWalk t walk → sum_along x (image_walk f walk) ≡ m.xx *ℤ sum_along x walk +ℤ m.xy *ℤ sum_along y walk
    pub y_is : (walk : List ℕ) → IsClosedWalk t walk → sum_along y (image_walk f walk) ≡ m.yx *ℤ sum_along x walk +ℤ m.yy *ℤ sum_along y walk

  combined : (a b u v u' v' : ℤ) → u ≡ u' → v ≡ v' → a *ℤ u +ℤ b *ℤ v ≡ a *ℤ u' +ℤ b *ℤ v'
  combined a b u v u' v' e f = λ i. a *ℤ e i +ℤ b *ℤ f i

  pub acts_here : (f : List ℕ) (m : Matrix) → IsAction t f m → ActsHere f m
  acts_here f m acts =
      let first = same_first t torus net acts.net is acts.is_net in
      let second = same_second t torus net acts.net is acts.is_net in
      record {
        x_is = λ walk closed.
            same_along t x acts.is_net.first first (image_walk f walk) (closed_along t f inv acts.isomorphism walk closed)
            ∙ acts.x walk closed
            ∙ combined m.xx m.xy (sum_along acts.is_net.first walk) (sum_along acts.is_net.second walk) (sum_along x walk) (sum_along y walk) (sym (same_along t x acts.is_net.first first walk closed)) (sym (same_along t y acts.is_net.second second walk closed));
        y_is = λ walk closed.
            same_along t y acts.is_net.second second (image_walk f walk) (closed_along t f inv acts.isomorphism walk closed)
            ∙ acts.y walk closed
            ∙ combined m.yx m.yy (sum_along acts.is_net.first walk) (sum_along acts.is_net.second walk) (sum_along x walk) (sum_along y walk) (sym (same_along t x acts.is_net.first first walk closed)) (sym (same_along t y acts.is_net.second second walk closed));
      }

  module _ (one two : List ℕ) (first : IsLoop t net is one (pos 1) (pos 0)) (second : IsLoop t net is two (pos 0) (pos 1)) where
    -- the total shifts of the images of the two walks
    abbrev pub read : List ℕ → Matrix
    read f = record {
      xx = sum_along x (image_walk f one);
      xy = sum_along x (image_walk f two);
      yx = sum_along y (image_walk f one);
      yy = sum_along y (image_walk f two);
    }

    at_first : (a b u v : ℤ) → u ≡ pos 1 → v ≡ pos 0 → a *ℤ u +ℤ b *ℤ v ≡ a
    at_first a b u v e f = let p = ap (λ z. a *ℤ z) e ∙ times_one a in let q = ap (λ z. b *ℤ z) f ∙ times_zero b in omega (arith, ints)

    at_second : (a b u v : ℤ) → u ≡ pos 0 → v ≡ pos 1 → a *ℤ u +ℤ b *ℤ v ≡ b
    at_second a b u v e f = let p = ap (λ z. a *ℤ z) e ∙ times_zero a in let q = ap (λ z. b *ℤ z) f ∙ times_one b in omega (arith, ints)

    -- no other matrix acts
    pub is_read : (f : List ℕ) (m : Matrix) → IsAction t f m → m ≡ read f
    is_read f m acts =
        let here = acts_here f m acts in
        same_matrix m (read f)
        (sym (here.x_is one first.closed ∙ at_first m.xx m.xy (sum_along x one) (sum_along y one) first.along_x first.along_y))
        (sym (here.x_is two second.closed ∙ at_second m.xx m.xy (sum_along x two) (sum_along y two) second.along_x second.along_y))
        (sym (here.y_is one first.closed ∙ at_first m.yx m.yy (sum_along x one) (sum_along y one) first.along_x first.along_y))
        (sym (here.y_is two second.closed ∙ at_second m.yx m.yy (sum_along x two) (sum_along y two) second.along_x second.along_y))

    adds_as : (f : List ℕ) → IsIsomorphism t t f → (z : ℕ → ℤ) (one' : ℕ) → AreShifts t one' z → (walk : List ℕ) → IsClosedWalk t walk
        → sum_along z (image_walk f walk) ≡ sum_along z (image_walk f one) *ℤ sum_along x walk +ℤ sum_along z (image_walk f two) *ℤ sum_along y walk
    adds_as f iso z one' shifts walk closed =
        let w : ℕ → ℤ = λ d. z (item f d) in
        let has = has_sums t torus net is w (balanced_along t f inv iso z (balanced_shifts t one' z shifts)) in
        let at = sums_at t torus net is w has.a has.b has.adds one two first second in
        let a : has.a ≡ sum_along z (image_walk f one) = sym at.0 ∙ sym (sum_along-image z f one) in
        let b : has.b ≡ sum_along z (image_walk f two) = sym at.1 ∙ sym (sum_along-image z f two) in
        sum_along-image z f walk ∙ has.adds.each walk closed ∙ (λ i. a i *ℤ sum_along x walk +ℤ b i *ℤ sum_along y walk)

    pub read_acts : (f : List ℕ) → IsIsomorphism t t f → IsAction t f (read f)
    read_acts f iso = record {
      torus = torus;
      isomorphism = iso;
      net = net;
      is_net = is;
      x = adds_as f iso x is.one is.are_first;
      y = adds_as f iso y is.two is.are_second;
    }

  -- ## A symmetry after another

  image_after : (f h : List ℕ) → IsIsomorphism t t h → (a b : ℕ) (walk : List ℕ) → IsWalk t a walk b → image_walk (after f h) walk ≡ image_walk f (image_walk h walk)
  image_after f h iso a b [] goes = refl
  image_after f h iso a b (d ∷ ds) goes =
      let here = item-after f h t.size d iso.bijection.images goes.0.0 goes.0.1 in
      let rest = image_after f h iso (op t Zero d) b ds goes.2 in
      λ i. here i ∷ rest i

  product : (a b p q r s u v : ℤ) → a *ℤ (p *ℤ u +ℤ q *ℤ v) +ℤ b *ℤ (r *ℤ u +ℤ s *ℤ v) ≡ (a *ℤ p +ℤ b *ℤ r) *ℤ u +ℤ (a *ℤ q +ℤ b *ℤ s) *ℤ v
  product a b p q r s u v =
      equal ((at a ⊠ ((at p ⊠ at u) ⊞ (at q ⊠ at v))) ⊞ (at b ⊠ ((at r ⊠ at u) ⊞ (at s ⊠ at v)))) ((((at a ⊠ at p) ⊞ (at b ⊠ at r)) ⊠ at u) ⊞ (((at a ⊠ at q) ⊞ (at b ⊠ at s)) ⊠ at v)) (omega arith)

  pub acts_after : (f h : List ℕ) (m n : Matrix) → IsAction t f m → IsAction t h n → IsAction t (after f h) (times m n)
  acts_after f h m n acts before =
      let one = acts_here f m acts in
      let two = acts_here h n before in
      let images = λ (walk : List ℕ) (closed : IsClosedWalk t walk). image_after f h before.isomorphism closed.start closed.start walk closed.goes in
      let again = λ (walk : List ℕ) (closed : IsClosedWalk t walk). closed_along t h inv before.isomorphism walk closed in
      record {
        torus = torus;
        isomorphism = IsIsomorphism-after t t t h f torus.symbol.table before.isomorphism acts.isomorphism;
        net = net;
        is_net = is;
        x = λ walk closed.
            ap (sum_along x) (images walk closed) ∙ one.x_is (image_walk h walk) (again walk closed)
            ∙ combined m.xx m.xy (sum_along x (image_walk h walk)) (sum_along y (image_walk h walk)) (n.xx *ℤ sum_along x walk +ℤ n.xy *ℤ sum_along y walk) (n.yx *ℤ sum_along x walk +ℤ n.yy *ℤ sum_along y walk) (two.x_is walk closed) (two.y_is walk closed)
            ∙ product m.xx m.xy n.xx n.xy n.yx n.yy (sum_along x walk) (sum_along y walk);
        y = λ walk closed.
            ap (sum_along y) (images walk closed) ∙ one.y_is (image_walk h walk) (again walk closed)
            ∙ combined m.yx m.yy (sum_along x (image_walk h walk)) (sum_along y (image_walk h walk)) (n.xx *ℤ sum_along x walk +ℤ n.xy *ℤ sum_along y walk) (n.yx *ℤ sum_along x walk +ℤ n.yy *ℤ sum_along y walk) (two.x_is walk closed) (two.y_is walk closed)
            ∙ product m.yx m.yy n.xx n.xy n.yx n.yy (sum_along x walk) (sum_along y walk);
      }

  -- ## Sizes

  add_size : (z w : ℤ) (n : ℕ) → nat_abs z ≤ 1 → nat_abs w ≤ n → nat_abs (z +ℤ w) ≤ n + 1
  add_size z w n a b = omega (arith, ints)

  pub size_along : (z : ℕ → ℤ) → ((d : ℕ) → IsChamber t d → nat_abs (z d) ≤ 1) → (a b : ℕ) (walk : List ℕ) → IsWalk t a walk b → nat_abs (sum_along z walk) ≤ length walk
  size_along z small a b [] goes = omega arith
  size_along z small a b (d ∷ ds) goes =
      let here = small d goes.0 in
      let rest = size_along z small (op t Zero d) b ds goes.2 in
      let sum = add_size (z d) (sum_along z ds) (length ds) here rest in
      omega arith

  pub small_first : (d : ℕ) → IsChamber t d → nat_abs (x d) ≤ 1
  small_first = small_shifts t torus is.one x is.are_first is.are_left.first

  pub small_second : (d : ℕ) → IsChamber t d → nat_abs (y d) ≤ 1
  small_second = small_shifts t torus is.two y is.are_second is.are_left.second

-- ## The laws

pub action_exists : (t : Symbol) (net : Net) (f : List ℕ) → IsTorus t → IsNet t net → IsIsomorphism t t f → (m : Matrix) × IsAction t f m
action_exists t net f torus is iso =
    let one = first_loop t torus net is in
    let two = second_loop t torus net is in
    (read t torus net is one.walk two.walk one.is_loop two.is_loop f, read_acts t torus net is one.walk two.walk one.is_loop two.is_loop f iso)

pub action_unique : (t : Symbol) (f : List ℕ) (m n : Matrix) → IsAction t f m → IsAction t f n → m ≡ n
action_unique t f m n acts other =
    let torus = acts.torus in
    let net = acts.net in
    let is = acts.is_net in
    let one = first_loop t torus net is in
    let two = second_loop t torus net is in
    is_read t torus net is one.walk two.walk one.is_loop two.is_loop f m acts ∙ sym (is_read t torus net is one.walk two.walk one.is_loop two.is_loop f n other)
