-- What orderly generation looks for: of all tables that differ in their numbering alone, the least one.
use Rattle.std.specs.Prelude.{ℕ}
use Rattle.dd_model.specs.declared.pair.Pair.TheVariants.{Edge}
use Rattle.dd_model.specs.Symbol.{Symbol, IsTable, IsChamber, HasDegree}
use Rattle.dd_model.specs.Connected.{Connected}
use Rattle.dd_model.specs.FirstVisit.{LeastTable}

-- a connected table in which s0 s2 s0 s2 moves no chamber, and of which no renumbering has a smaller code
pub record IsOrderly (s : Symbol) : Type 0 where
  pub table : IsTable s
  pub connected : Connected s
  pub commuting : (d : ℕ) → IsChamber s d → HasDegree s Edge d
  pub least : LeastTable s
