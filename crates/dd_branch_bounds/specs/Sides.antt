-- The ends of the paths of a pair as they are kept.
use Rattle.std.specs.Prelude.{◌≡◌, ℕ, ◌*◌, ◌/◌, ◌%◌, ◌≤◌, Bool, true, leb, slice_get}
use Rattle.std.specs.declared.option.Option.{Option}
use Rattle.std.specs.declared.option.Option.TheVariants.{None, Some}
use Rattle.dd_model.specs.declared.pair.Pair.{Pair}
use Rattle.dd_model.specs.declared.pair.Pair.TheVariants.{Tile, Vertex}
use Rattle.dd_model.specs.declared.requests.Request.{Request}
use Rattle.dd_model.specs.Symbol.{Symbol}
use Rattle.dd_model.specs.Partial.{Completes}
use Rattle.dd_model.specs.Wanted.{Wanted}
use Rattle.dd_branch_bounds.specs.Classes.{share_in}
use Rattle.dd_branch_bounds.specs.Counted.{AreCounted, HasCounted, HaveOthers}
use Rattle.dd_branch_bounds.specs.Ends.{led}
use Rattle.dd_branch_bounds.specs.Passing.{AreEndsOf, Passes}
use Rattle.dd_branch_bounds.specs.PathEnd.{PathEnd}
use Rattle.dd_branch_bounds.specs.Shares.{BoundsReciprocals, IsTotal}
use Rattle.dd_branch_bounds.specs.Units.{share_unit}
use Rattle.dd_branch_bounds.specs.declared.census.Census.{Census}
use Rattle.dd_branch_bounds.specs.declared.class_shares.ClassShares.{ClassShares}
use Rattle.dd_branch_bounds.specs.declared.end.End.{End}
use Rattle.dd_branch_bounds.specs.declared.pair_paths.PairPaths.{PairPaths}

-- an end of a path of a class, with the other one
abbrev pub path_end : ClassShares → ℕ → ℕ → PathEnd
path_end t other class = record { other = other; chambers = class % 64; is_capped = leb 64 class; share = share_in t.weights class }

-- what the chambers of a path of a class have together
abbrev pub class_weight : ClassShares → ℕ → ℕ
class_weight t class = class % 64 * share_in t.weights class

-- what stands at a flag
abbrev pub end_of : ClassShares → Option End → PathEnd
end_of t None = path_end t 0 0
end_of t (Some e) = path_end t e.other e.class.number

-- the ends of all paths
abbrev pub ends_of : ClassShares → PairPaths → ℕ → PathEnd
ends_of t side x = end_of t (slice_get side.ends x)

-- the ends of the paths of a pair in all completions of a partial table, whose size is that of the shares, the sum of all, and a census of the wanted ones
pub record IsSide (t : ClassShares) (partial : Symbol) (side : PairPaths) : Type 0 where
  pub sized : t.size ≡ partial.size
  pub ends : AreEndsOf t.request partial (λ _. true) t.pair (ends_of t side) side.total
  pub others : HaveOthers (ends_of t side)
  pub counted : (s : Symbol) → Wanted t.request s → Completes partial s → AreCounted s t.pair (ends_of t side) side.census

-- the same in all completions of some table
pub record IsSideOfSome (t : ClassShares) (side : PairPaths) : Type 0 where
  pub partial : Symbol
  pub kept : IsSide t partial side

-- a sum of shares of all chambers in the completions that pass a test
pub record IsSumOf (t : ClassShares) (partial : Symbol) (test : Symbol → Bool) (total : ℕ) : Type 0 where
  pub ends : ℕ → PathEnd
  pub are : AreEndsOf t.request partial test t.pair ends total

-- what a census tells of the wanted completions that pass a test
abbrev pub IsCensusOf : ClassShares → Symbol → (Symbol → Bool) → Census → Type 0
IsCensusOf t partial test census = (s : Symbol) → Wanted t.request s → Passes partial test s → HasCounted s t.pair census

-- In all of some tables a flag leads to the chamber of another one, which is of the same involution.
pub record IsJoin (C : Symbol → Type 0) (p : Pair) (x y : ℕ) : Type 0 where
  pub side : (s : Symbol) → C s → y % 2 ≡ x % 2
  pub leads : (s : Symbol) → C s → led s p x ≡ y / 2

-- what bounds the shares of a pair: where the first bound holds of a wanted completion that passes a test, the second does
abbrev pub KeepsBounds : Request → Symbol → (Symbol → Bool) → Pair → ℕ → ℕ → Type 0
KeepsBounds q partial test p bound most = (s : Symbol) → Wanted q s → Passes partial test s → BoundsReciprocals s p bound → BoundsReciprocals s p most

-- what the shares of both pairs are at most in all wanted completions
pub record AreBounds (q : Request) (partial : Symbol) (tiles vertices : ℕ) : Type 0 where
  pub tiles_within : IsTotal q partial Tile share_unit tiles
  pub vertices_within : IsTotal q partial Vertex share_unit vertices
  pub few_tiles : tiles ≤ 36 * share_unit
  pub few_vertices : vertices ≤ 36 * share_unit
