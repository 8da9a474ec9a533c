-- Walks, and sums along them.
use Rattle.std.proofs.Common.{◌≡◌, ℕ, List, [], ◌∷◌, ◌++◌, ℤ, pos, ◌+ℤ◌, ◌-ℤ◌, ◌*ℤ◌, refl, sym, ap, ◌∙◌, subst, arith}
use Rattle.std.proofs.lemmas.Int.{ints}
use Rattle.dd_model.specs.declared.index.Index.{Index}
use Rattle.dd_model.specs.declared.index.Index.TheVariants.{Zero}
use Rattle.dd_model.specs.declared.pair.Pair.{Pair}
use Rattle.dd_model.specs.declared.pair.Pair.TheVariants.{Vertex}
use Rattle.dd_model.specs.Symbol.{Symbol, AreInvolutions, IsChamber, Word, item, op, act}
use Rattle.dd_model.specs.Cell.{InCell, IsWordOf}
use Rattle.dd_model.specs.Isomorphic.{IsMorphism}
use Rattle.dd_model.proofs.CellWalks.{in_cell-trans}
use Rattle.dd_model.proofs.Transport.{in_cell-along}
use Rattle.dd_covers.specs.Ends.{Holds}
use Rattle.dd_lattice.proofs.Rings.{at, nat, equal, ◌⊞◌, ◌⊠◌}
use Rattle.dd_gram.specs.Walks.{IsWalk, sum_along, image_walk}

-- ## Walks

pub walk_from : (t : Symbol) (a b c : ℕ) (ds : List ℕ) → InCell t Vertex a b → IsWalk t b ds c → IsWalk t a ds c
walk_from t a b c [] near walk = in_cell-trans t Vertex a b c near walk
walk_from t a b c (d ∷ ds) near walk = (walk.0, in_cell-trans t Vertex a b d near walk.1, walk.2)

pub walk_on : (t : Symbol) (a b c : ℕ) (ds es : List ℕ) → IsWalk t a ds b → IsWalk t b es c → IsWalk t a (ds ++ es) c
walk_on t a b c [] es one two = walk_from t a b c es one two
walk_on t a b c (d ∷ ds) es one two = (one.0, one.1, walk_on t (op t Zero d) b c ds es one.2 two)

-- the image of a walk
pub walk_along : (t : Symbol) (f : List ℕ) → AreInvolutions t → IsMorphism t t f → (a b : ℕ) (ds : List ℕ) → IsChamber t a → IsWalk t a ds b → IsWalk t (item f a) (image_walk f ds) (item f b)
walk_along t f inv m a b [] h walk = in_cell-along t t f inv m Vertex a b h walk
walk_along t f inv m a b (d ∷ ds) h walk = (
  m.within d walk.0,
  in_cell-along t t f inv m Vertex a d h walk.1,
  subst (λ z. IsWalk t z (image_walk f ds) (item f b)) (m.op Zero d walk.0) (walk_along t f inv m (op t Zero d) b ds ((inv Zero).within d walk.0) walk.2),
)

-- ## Values of cells, of any kind

along : {A : Type 0} (t : Symbol) → AreInvolutions t → (p : Pair) (g : ℕ → A) → ((i : Index) (d : ℕ) → IsChamber t d → Holds p i → g (op t i d) ≡ g d) → (w : Word) (d : ℕ) → IsChamber t d → IsWordOf p w → g (act t w d) ≡ g d
along t inv p g cells [] d h letters = refl
along t inv p g cells (i ∷ w) d h letters = along t inv p g cells w (op t i d) ((inv i).within d h) letters.1 ∙ cells i d h letters.0

pub value_of : {A : Type 0} (t : Symbol) → AreInvolutions t → (p : Pair) (g : ℕ → A) → ((i : Index) (d : ℕ) → IsChamber t d → Holds p i → g (op t i d) ≡ g d) → (d e : ℕ) → IsChamber t d → InCell t p d e → g e ≡ g d
value_of t inv p g cells d e h near = ap g (sym near.leads) ∙ along t inv p g cells near.word d h near.letters

-- ## Sums

pub sum_along-append : (x : ℕ → ℤ) (ds es : List ℕ) → sum_along x (ds ++ es) ≡ sum_along x ds +ℤ sum_along x es
sum_along-append x [] es = omega (arith, ints)
sum_along-append x (d ∷ ds) es = let rest = sum_along-append x ds es in omega (arith, ints)

pub sum_along-image : (x : ℕ → ℤ) (f ds : List ℕ) → sum_along x (image_walk f ds) ≡ sum_along (λ d. x (item f d)) ds
sum_along-image x f [] = refl
sum_along-image x f (d ∷ ds) = ap (λ z. x (item f d) +ℤ z) (sum_along-image x f ds)

pub sum_along-same : (t : Symbol) (x y : ℕ → ℤ) → ((d : ℕ) → IsChamber t d → x d ≡ y d) → (a b : ℕ) (ds : List ℕ) → IsWalk t a ds b → sum_along x ds ≡ sum_along y ds
sum_along-same t x y same a b [] walk = refl
sum_along-same t x y same a b (d ∷ ds) walk = let here = same d walk.0 in let rest = sum_along-same t x y same (op t Zero d) b ds walk.2 in omega (arith, ints)

pub both_at : (a b x y u v : ℤ) → (a *ℤ x +ℤ b *ℤ y) +ℤ (a *ℤ u +ℤ b *ℤ v) ≡ a *ℤ (x +ℤ u) +ℤ b *ℤ (y +ℤ v)
both_at a b x y u v =
    equal (((at a ⊠ at x) ⊞ (at b ⊠ at y)) ⊞ ((at a ⊠ at u) ⊞ (at b ⊠ at v))) ((at a ⊠ (at x ⊞ at u)) ⊞ (at b ⊠ (at y ⊞ at v))) (omega arith)

pub times_zero : (a : ℤ) → a *ℤ pos 0 ≡ pos 0
times_zero a = equal (at a ⊠ nat 0) (nat 0) (omega arith)

-- a sum of multiples
pub sum_along-both : (a b : ℤ) (x y : ℕ → ℤ) (ds : List ℕ) → sum_along (λ d. a *ℤ x d +ℤ b *ℤ y d) ds ≡ a *ℤ sum_along x ds +ℤ b *ℤ sum_along y ds
sum_along-both a b x y [] = let e = times_zero a in let f = times_zero b in omega (arith, ints)
sum_along-both a b x y (d ∷ ds) =
    ap (λ z. (a *ℤ x d +ℤ b *ℤ y d) +ℤ z) (sum_along-both a b x y ds) ∙ both_at a b (x d) (y d) (sum_along x ds) (sum_along y ds)

-- Differences of a function of vertices add to what they are between the ends.
pub telescoped : (t : Symbol) → AreInvolutions t → (z h : ℕ → ℤ) → ((i : Index) (d : ℕ) → IsChamber t d → Holds Vertex i → h (op t i d) ≡ h d) → (a b : ℕ) (ds : List ℕ) → IsChamber t a → IsWalk t a ds b
    → sum_along (λ d. (z d +ℤ h d) -ℤ h (op t Zero d)) ds +ℤ h b ≡ sum_along z ds +ℤ h a
telescoped t inv z h cells a b [] ha walk = let same = value_of t inv Vertex h cells a b ha walk in omega (arith, ints)
telescoped t inv z h cells a b (d ∷ ds) ha walk =
    let same = value_of t inv Vertex h cells a d ha walk.1 in
    let rest = telescoped t inv z h cells (op t Zero d) b ds ((inv Zero).within d walk.0) walk.2 in
    omega (arith, ints)
