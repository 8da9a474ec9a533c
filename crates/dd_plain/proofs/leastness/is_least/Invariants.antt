use Rattle.std.proofs.Common.{◌≢◌, ℕ, ◌<◌}
use Rattle.std.specs.declared.cmp.Ordering.TheVariants.{Greater}
use Rattle.dd_model.specs.Symbol.{Symbol, IsSymbol}
use Rattle.dd_model.specs.Isomorphic.{IsIsomorphism}
use Rattle.dd_model.specs.Code.{code_cmp}
use Rattle.dd_plain.specs.Choices.{choices, chamber_table}
use Rattle.dd_plain.proofs.leastness.is_least.Given as goal

abbrev pub invariant-loop-number : goal.invariant-loop-number
invariant-loop-number l = (k : ℕ) → k < l.number → (t : Symbol) → IsSymbol t → IsIsomorphism l.symbol t (choices chamber_table l.symbol.size k) → code_cmp l.symbol t ≢ Greater
