-- Flags that an involution fixes.
use Rattle.std.specs.Prelude.{ℕ, ◌+◌, cond, nat_eq}
use Rattle.dd_model.specs.declared.pair.Pair.{Pair}
use Rattle.dd_model.specs.Symbol.{Symbol, first, second, op}

-- how many of the two involutions of the pair fix the chamber
abbrev pub fixed_flags : Symbol → Pair → ℕ → ℕ
fixed_flags s p d = cond (nat_eq (op s (first p) d) d) 1 0 + cond (nat_eq (op s (second p) d) d) 1 0
