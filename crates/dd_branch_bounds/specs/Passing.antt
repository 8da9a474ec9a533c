-- Some of the tables that complete a partial one.
use Rattle.std.specs.Prelude.{ℕ, Bool, IsTrue}
use Rattle.dd_model.specs.declared.pair.Pair.{Pair}
use Rattle.dd_model.specs.declared.requests.Request.{Request}
use Rattle.dd_model.specs.Symbol.{Symbol}
use Rattle.dd_model.specs.Partial.{Completes}
use Rattle.dd_branch_bounds.specs.Ends.{ArePathEnds}
use Rattle.dd_branch_bounds.specs.PathEnd.{PathEnd}

-- a table that completes a partial one and passes a test
pub record Passes (partial : Symbol) (test : Symbol → Bool) (s : Symbol) : Type 0 where
  pub completes : Completes partial s
  pub passed : IsTrue (test s)

-- the ends of paths in all tables that complete a partial one and pass a test
abbrev pub AreEndsOf : Request → Symbol → (Symbol → Bool) → Pair → (ℕ → PathEnd) → ℕ → Type 0
AreEndsOf q partial test p ends total =
    ArePathEnds q (Passes partial test) partial.size p ends total
