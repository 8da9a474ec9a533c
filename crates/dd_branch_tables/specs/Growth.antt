-- Lists of symbols that grow at their end.
use Rattle.std.specs.Prelude.{◌≡◌, List, ◌++◌}
use Rattle.dd_model.specs.Symbol.{Symbol}

-- the old list, and perhaps more behind it
pub record HasGrown (old new : List Symbol) : Type 0 where
  pub more : List Symbol
  pub grown : new ≡ old ++ more
