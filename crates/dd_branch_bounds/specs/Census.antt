-- What is counted of the cells of a pair.
use Rattle.std.specs.Prelude.{◌≡◌, ◌⊎◌, ℕ, ◌+◌, ◌-◌, ◌*◌, ◌/◌, ◌%◌, ◌<◌, ◌≤◌}
use Rattle.dd_model.specs.declared.pair.Pair.{Pair}
use Rattle.dd_model.specs.Symbol.{Symbol}
use Rattle.dd_branch_bounds.specs.Classes.{joined_class}
use Rattle.dd_branch_bounds.specs.Shares.{BoundsReciprocals}
use Rattle.dd_branch_bounds.specs.declared.census.Census.{Census}
use Rattle.dd_branch_bounds.specs.Units.{share_unit}

-- nothing was counted
pub record IsNone (c : Census) : Type 0 where
  pub cells : c.cells ≡ 0
  pub chains : c.chains ≡ 0
  pub chambers : c.chambers ≡ 0
  pub most : c.most ≡ 0
  pub fixed : c.fixed ≡ 0

-- a fixed flag more
pub record IsFlagMore (c d : Census) : Type 0 where
  pub cells : d.cells ≡ c.cells
  pub chains : d.chains ≡ c.chains
  pub chambers : d.chambers ≡ c.chambers
  pub most : d.most ≡ c.most
  pub fixed : d.fixed ≡ c.fixed + 1

-- one more cell, with the chambers of a path of a class, that adds at most so much
pub record IsCellMore (c : Census) (class own : ℕ) (d : Census) : Type 0 where
  pub cells : d.cells ≡ c.cells + 1
  pub chain : 64 ≤ class → d.chains ≡ c.chains + 1
  pub cycle : class < 64 → d.chains ≡ c.chains
  pub chambers : d.chambers ≡ c.chambers + class % 64
  pub most : d.most ≡ c.most + own
  pub fixed : d.fixed ≡ c.fixed

-- what was counted before, or a fixed flag more
abbrev pub HasFlag : Census → Census → Type 0
HasFlag c d = (d ≡ c) ⊎ IsFlagMore c d

-- what was counted before, or one cell more
abbrev pub HasCell : Census → ℕ → ℕ → Census → Type 0
HasCell c class own d = (d ≡ c) ⊎ IsCellMore c class own d

-- an end of a path of a class is a fixed flag more, and the path one cell more if its other end is fixed
pub record HasFixedEnd (c : Census) (class own : ℕ) (d : Census) : Type 0 where
  pub flagged : Census
  pub flag : HasFlag c flagged
  pub goes_on : class < 64 → d ≡ flagged
  pub closed : 64 ≤ class → HasCell flagged class own d

-- two paths are one cell more if both other ends are fixed
pub record HasJoined (c : Census) (one other own : ℕ) (d : Census) : Type 0 where
  pub goes_on : (one < 64) ⊎ (other < 64) → d ≡ c
  pub closed : 64 ≤ one → 64 ≤ other → HasCell c (joined_class one other) own d

-- The whole cells are among the cells, of which there are no more than a limit. Twice the number of chains is that of the
-- fixed flags. A whole cell adds what it adds, a further chain at most 1, and a further cycle at most 2.
pub record HasRoom (s : Symbol) (p : Pair) (c : Census) (limit : ℕ) : Type 0 where
  pub cells : c.cells ≤ limit
  pub chambers : c.cells ≡ limit → s.size ≤ c.chambers
  pub chains : (c.fixed + 1) / 2 ≤ c.chains + (limit - c.cells)
  pub total : BoundsReciprocals s p (c.most + (c.chains + 2 * (limit - c.cells) - (c.fixed + 1) / 2) * share_unit)
