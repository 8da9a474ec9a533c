-- Lists in descending order, and lists turned round.
use Rattle.std.specs.Prelude.{◌≡◌, ◌≢◌, ◌⊎◌, ℕ, List, ◌++◌, reverse}
use Rattle.std.specs.List.Sorted.{IsSorted, IsPermutation}
use Rattle.std.specs.Ordering.{nat_cmp}
use Rattle.std.specs.Cmp.Lexicographic.{slice_cmp}
use Rattle.std.specs.declared.cmp.Ordering.{Ordering}
use Rattle.std.specs.declared.cmp.Ordering.TheVariants.{Less}

-- the same members, each as often, and none before a greater
pub record IsDescending {X : Type 0} (cmp : X → X → Ordering) (xs ys : List X) : Type 0 where
  pub permutation : IsPermutation xs ys
  pub sorted : IsSorted (λ x y. cmp y x) ys

-- the order of a dictionary: a list that begins another is the smaller
abbrev pub dictionary : List ℕ → List ℕ → Ordering
dictionary = slice_cmp nat_cmp

-- ys is xs, begun at another place
pub record IsRotation (xs ys : List ℕ) : Type 0 where
  pub front : List ℕ
  pub back : List ℕ
  pub before : xs ≡ front ++ back
  pub after : ys ≡ back ++ front

-- the greatest of all rotations of the list
pub record IsGreatestRotation (xs ys : List ℕ) : Type 0 where
  pub rotation : IsRotation xs ys
  pub greatest : (zs : List ℕ) → IsRotation xs zs → dictionary ys zs ≢ Less

-- a rotation of the list or of its reversal
abbrev pub IsTurned : List ℕ → List ℕ → Type 0
IsTurned xs ys = IsRotation xs ys ⊎ IsRotation (reverse xs) ys

-- the greatest of all rotations of the list and of its reversal
pub record IsGreatestTurned (xs ys : List ℕ) : Type 0 where
  pub turned : IsTurned xs ys
  pub greatest : (zs : List ℕ) → IsTurned xs zs → dictionary ys zs ≢ Less
