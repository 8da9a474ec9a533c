-- How a list tells the images of an involution.
use Rattle.std.specs.Prelude.{◌≡◌, ◌≢◌, ℕ, ◌-◌, ◌<◌, ◌≤◌, List, [], ◌∷◌, length, map, replicate, slice_set}
use Rattle.dd_model.specs.Symbol.{item}
use Rattle.dd_model.specs.declared.tokens.Numeral.{Numeral}

-- What is known of an involution is kept as a list of images, 0 where none is known. The least chamber without an image.
pub record IsFirstUnknown (f : List ℕ) (d : ℕ) : Type 0 where
  pub some : 1 ≤ d
  pub within : d ≤ length f
  pub unknown : item f d ≡ 0
  pub least : (e : ℕ) → 1 ≤ e → e < d → item f e ≢ 0

-- all images are known
abbrev pub AllKnown : List ℕ → Type 0
AllKnown f = (d : ℕ) → 1 ≤ d → d ≤ length f → item f d ≢ 0

-- x is a chamber without an image
pub record IsFree (f : List ℕ) (x : ℕ) : Type 0 where
  pub some : 1 ≤ x
  pub within : x ≤ length f
  pub unknown : item f x ≡ 0

-- the number x says that the least chamber without an image and x are images of each other
pub record Says (f : List ℕ) (x : ℕ) (g : List ℕ) : Type 0 where
  pub chamber : ℕ
  pub first : IsFirstUnknown f chamber
  pub free : IsFree f x
  pub pairs : g ≡ slice_set (slice_set f (chamber - 1) x) (x - 1) chamber

-- where f is known, these numbers say g
abbrev pub Say : List ℕ → List ℕ → List ℕ → Type 0
Say f [] g = f ≡ g
Say f (x ∷ xs) g = (mid : List ℕ) × Says f x mid × Say mid xs g

-- no image of n chambers is known
abbrev pub Nothing : ℕ → List ℕ
Nothing n = replicate n 0

-- the values of numbers
abbrev pub numbers_of : List Numeral → List ℕ
numbers_of = map (λ x. x.value)
