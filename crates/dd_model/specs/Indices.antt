-- The three involutions by number.
use Rattle.std.specs.Prelude.{ℕ, zero, suc}
use Rattle.dd_model.specs.declared.index.Index.{Index}
use Rattle.dd_model.specs.declared.index.Index.TheVariants.{Zero, One, Two}

-- the number of an involution
abbrev pub index_number : Index → ℕ
index_number Zero = 0
index_number One = 1
index_number Two = 2

-- the involution of a number below 3
abbrev pub index_at : ℕ → Index
index_at zero = Zero
index_at (suc zero) = One
index_at (suc (suc r)) = Two
