-- What bounds the shares of a pair in wanted symbols.
use Rattle.std.proofs.Common.{◌≡◌, ℕ, ◌+◌, ◌*◌, ◌<◌, Bool, true, refl, sym, ap, subst, arith}
use Rattle.dd_model.specs.declared.pair.Pair.{Pair}
use Rattle.dd_model.specs.declared.pair.Pair.TheVariants.{Tile, Vertex}
use Rattle.dd_model.specs.declared.requests.Request.{Request}
use Rattle.dd_model.specs.Symbol.{Symbol}
use Rattle.dd_model.specs.Wanted.{Wanted}
use Rattle.dd_model.proofs.AllDegrees.{all_degrees_positive}
use Rattle.dd_branch_bounds.specs.Counted.{HasCounted}
use Rattle.dd_branch_bounds.specs.Kept.{AreSides}
use Rattle.dd_branch_bounds.specs.Shares.{BoundsReciprocals, IsSought, IsTotal}
use Rattle.dd_branch_bounds.specs.Sides.{AreBounds, IsSide, IsSumOf, KeepsBounds}
use Rattle.dd_branch_bounds.specs.Units.{share_unit}
use Rattle.dd_branch_bounds.specs.declared.class_shares.ClassShares.{ClassShares}
use Rattle.dd_branch_bounds.specs.declared.path_shares.PathShares.{PathShares}
use Rattle.dd_branch_bounds.specs.declared.pair_paths.PairPaths.{PairPaths}
use Rattle.dd_branch_bounds.specs.declared.table_paths.TablePaths.{TablePaths}
use Rattle.dd_branch_bounds.proofs.FlatBound.{flat_bound}
use Rattle.dd_branch_bounds.proofs.SumLemmas.{bounds_of_sum, census_as_kept, sum_as_kept, total_small}

module _ (t : ClassShares) (P : Symbol) (q : Request) (p : Pair) (asked : t.request ≡ q) (pair : t.pair ≡ p) where
  wanted_there : (s : Symbol) → Wanted q s → Wanted t.request s
  wanted_there s wanted = subst (λ r. Wanted r s) (sym asked) wanted

  -- a sum bounds the shares, whatever did before
  pub sum_bounds : (test : Symbol → Bool) (total bound : ℕ) → IsSumOf t P test total → KeepsBounds q P test p bound total
  sum_bounds test total bound sum s wanted is before =
      subst (λ r. BoundsReciprocals s r total) pair
      (bounds_of_sum t P test total sum s (wanted_there s wanted) is)

  -- so does the sum that is kept
  pub total_bounds : (side : PairPaths) → IsSide t P side → IsTotal q P p share_unit side.total
  total_bounds side kept s sought =
      subst (λ r. BoundsReciprocals s r side.total) pair
      (bounds_of_sum t P (λ _. true) side.total (sum_as_kept t P side kept (λ _. true)) s (wanted_there s sought.wanted)
      (record { completes = sought.completes; passed = refl }))

  -- what the census counts that is kept
  pub census_counts : (side : PairPaths) → IsSide t P side → (s : Symbol) → IsSought q P s → HasCounted s p side.census
  census_counts side kept s sought =
      subst (λ r. HasCounted s r side.census) pair
      (census_as_kept t P side kept (λ _. true) s (wanted_there s sought.wanted) (record { completes = sought.completes; passed = refl }))

-- bounds that are too small hold of no wanted symbol
pub none_of_bounds : (q : Request) (s : Symbol) (size A B : ℕ) → Wanted q s → s.size ≡ size → BoundsReciprocals s Tile A → BoundsReciprocals s Vertex B → 2 * (A + B) < size * share_unit → ⊥
none_of_bounds q s size A B wanted is tiles vertices low =
    let bound = flat_bound s wanted.flat (all_degrees_positive s wanted.symbol) share_unit A B tiles vertices in
    let same : s.size * share_unit ≡ size * share_unit = ap (λ n. n * share_unit) is in
    absurd (omega (arith, bound, low, same))

-- the totals that are kept bound both pairs
pub bounds_kept : (t : PathShares) (P : Symbol) (sides : TablePaths) → AreSides t P sides → AreBounds t.request P sides.tiles.total sides.vertices.total
bounds_kept t P sides kept = record {
  tiles_within = total_bounds t.tiles P t.request Tile t.tiles_asked t.tiles_pair sides.tiles kept.tiles;
  vertices_within = total_bounds t.vertices P t.request Vertex t.vertices_asked t.vertices_pair sides.vertices kept.vertices;
  few_tiles = total_small t.tiles P sides.tiles kept.tiles;
  few_vertices = total_small t.vertices P sides.vertices kept.vertices;
}
