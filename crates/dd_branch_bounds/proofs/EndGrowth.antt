-- The shares of a table that is filled.
use Rattle.std.proofs.Common.{◌≡◌, sym, ◌∙◌}
use Rattle.std.specs.Prelude.{true}
use Rattle.dd_model.specs.Symbol.{Symbol}
use Rattle.dd_branch_tables.specs.Rows.{Rows, partial_of, depth_of, unwound}
use Rattle.dd_branch_bounds.proofs.ShareGrowth.{completes_shorter}
use Rattle.dd_branch_bounds.specs.Kept.{Shares, AreKept}
use Rattle.dd_branch_bounds.specs.Passing.{Passes}
use Rattle.dd_branch_bounds.specs.Sides.{IsSide, ends_of}
use Rattle.dd_branch_bounds.specs.declared.class_shares.ClassShares.{ClassShares}
use Rattle.dd_branch_bounds.specs.declared.pair_paths.PairPaths.{PairPaths}
use Rattle.dd_branch_bounds.proofs.PassingTables.{ends_of_fewer}

-- the paths of a pair stay those of each table that it is filled to
side_of_longer : (old new : Rows) (t : ClassShares) (side : PairPaths) → new.size ≡ old.size → unwound new (depth_of old) ≡ old → IsSide t (partial_of old) side → IsSide t (partial_of new) side
side_of_longer old new t side same undone kept =
    let more : (s : Symbol) → Passes (partial_of new) (λ _. true) s → Passes (partial_of old) (λ _. true) s =
    λ s is. record { completes = completes_shorter old new undone s is.completes; passed = is.passed } in
    record {
      sized = kept.sized ∙ sym same;
      ends = ends_of_fewer t.request (partial_of old) (partial_of new) (λ _. true) (λ _. true) t.pair (ends_of t side) side.total same more kept.ends;
      others = kept.others;
      counted = λ s wanted full. kept.counted s wanted (completes_shorter old new undone s full);
    }

-- The shares of a table are shares of each table that it is filled to.
pub kept_of_longer : (old new : Rows) (shares : Shares) → new.size ≡ old.size → unwound new (depth_of old) ≡ old → AreKept (partial_of old) shares → AreKept (partial_of new) shares
kept_of_longer old new shares same undone kept = record {
  tiles = side_of_longer old new shares.classes.tiles shares.sides.tiles same undone kept.tiles;
  vertices = side_of_longer old new shares.classes.vertices shares.sides.vertices same undone kept.vertices;
}
