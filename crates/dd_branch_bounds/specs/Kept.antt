-- What a search keeps beside its table.
use Rattle.std.proofs.Common.{arith}
use Rattle.dd_branch_bounds.specs.declared.census.Census.{Census}
use Rattle.std.specs.Prelude.{◌≡◌, []}
use Rattle.dd_model.specs.Symbol.{Symbol, op}
use Rattle.dd_branch_bounds.specs.Sides.{IsSide, IsSideOfSome}
use Rattle.dd_branch_bounds.specs.declared.link.Link.{Link}
use Rattle.dd_branch_bounds.specs.declared.path_shares.PathShares.{PathShares}
use Rattle.dd_branch_bounds.specs.declared.pair_paths.PairPaths.{PairPaths}
use Rattle.dd_branch_bounds.specs.declared.table_paths.TablePaths.{TablePaths}

-- the paths of the tiles and of the vertices of a partial table
pub record AreSides (classes : PathShares) (partial : Symbol) (sides : TablePaths) : Type 0 where
  pub tiles : IsSide classes.tiles partial sides.tiles
  pub vertices : IsSide classes.vertices partial sides.vertices

-- what a search keeps: the shares that a request allows to paths, and the paths of its table
pub record Shares : Type 0 where
  pub classes : PathShares
  pub sides : TablePaths

-- the paths that a search keeps are those of a partial table
abbrev pub AreKept : Symbol → Shares → Type 0
AreKept partial shares = AreSides shares.classes partial shares.sides

-- the same of some tables
pub record AreSidesOfSome (classes : PathShares) (sides : TablePaths) : Type 0 where
  pub tiles : IsSideOfSome classes.tiles sides.tiles
  pub vertices : IsSideOfSome classes.vertices sides.vertices

-- nothing is counted
abbrev pub no_census : Census
no_census = record {
  cells = 0;
  chains = 0;
  chambers = 0;
  fixed = 0;
  most = 0;
  few_cells = omega arith;
  few_chains = omega arith;
  few_chambers = omega arith;
  few_flags = omega arith;
  low = omega arith;
}

-- the sides where there are none
abbrev pub no_side : PairPaths
no_side = record { ends = []; total = 0; census = no_census }

abbrev pub no_sides : TablePaths
no_sides = record { tiles = no_side; vertices = no_side }

-- the shares with other paths
abbrev pub with_sides : Shares → TablePaths → Shares
with_sides shares sides = record { classes = shares.classes; sides = sides }

-- an image is that of all of some tables
abbrev pub IsImage : (Symbol → Type 0) → Link → Type 0
IsImage C link = (s : Symbol) → C s → op s link.index link.chamber ≡ link.image
