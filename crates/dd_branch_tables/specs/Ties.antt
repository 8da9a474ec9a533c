-- From which chambers the numberings of all tables with the same images may have the tables' own codes.
use Rattle.std.specs.Prelude.{ℕ, List}
use Rattle.dd_model.specs.Symbol.{Symbol}
use Rattle.dd_canon.specs.Ties.{AreTies}
use Rattle.dd_branch_tables.specs.Table.{HasTable, IsTableOf}

-- There is a table of n chambers whose code begins with the numbers, and each one has these ties.
pub record AreTiesOf (n : ℕ) (numbers ds : List ℕ) : Type 0 where
  pub some : HasTable n numbers
  pub ties : (t : Symbol) → IsTableOf n numbers t → AreTies t ds
