-- Shares: what a degree can add to the curvature, at most, in a wanted symbol that completes a partial table.
use Rattle.std.specs.Prelude.{◌≡◌, ℕ, ◌*◌, ◌/◌, ◌≤◌, List}
use Rattle.std.specs.List.{sum_by}
use Rattle.dd_model.specs.declared.pair.Pair.{Pair}
use Rattle.dd_model.specs.declared.pair.Pair.TheVariants.{Tile, Vertex, Edge}
use Rattle.dd_model.specs.declared.requests.Request.{Request}
use Rattle.dd_model.specs.Symbol.{Symbol, degree}
use Rattle.dd_model.specs.Allowed.{IsIn}
use Rattle.dd_model.specs.Flat.{all_degrees}
use Rattle.dd_model.specs.Partial.{Completes}
use Rattle.dd_model.specs.Wanted.{Wanted}
use Rattle.dd_branch_bounds.specs.Units.{share_unit}

-- a wanted symbol that completes a partial table
pub record IsSought (q : Request) (partial s : Symbol) : Type 0 where
  pub wanted : Wanted q s
  pub completes : Completes partial s

-- a degree that a request allows to the cells of a pair
abbrev pub IsAllowed : Request → Pair → ℕ → Type 0
IsAllowed q Tile m = IsIn q.faces m
IsAllowed q Vertex m = IsIn q.degrees m
IsAllowed q Edge m = m ≡ 2

-- the share of a chamber: it is never less than L divided by the degree
abbrev pub IsShare : Request → Symbol → Pair → ℕ → ℕ → ℕ → Type 0
IsShare q partial p L d share = (s : Symbol) → IsSought q partial s → L ≤ share * degree s p d

-- the degrees of a pair, chamber by chamber
abbrev pub degrees_of : Symbol → Pair → List ℕ
degrees_of s Tile = s.m01
degrees_of s Vertex = s.m12
degrees_of s Edge = s.m01

-- The sum of 1/m over the degrees of a pair is at most the bound, in parts of the unit; all is multiplied by the product of
-- all degrees.
abbrev pub BoundsReciprocals : Symbol → Pair → ℕ → Type 0
BoundsReciprocals s p bound = sum_by (λ m. all_degrees s / m) (degrees_of s p) * share_unit ≤ all_degrees s * bound

-- The sum of 1/m over all chambers, times L, is at most the total; all is multiplied by the product of all degrees.
abbrev pub IsTotal : Request → Symbol → Pair → ℕ → ℕ → Type 0
IsTotal q partial p L total = (s : Symbol) → IsSought q partial s → sum_by (λ m. all_degrees s / m) (degrees_of s p) * L ≤ all_degrees s * total
