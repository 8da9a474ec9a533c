-- Why something was not made.
use Rattle.std.specs.Prelude.{ℕ}
use Rattle.dd_suite_commands.specs.declared.refusals.SymbolFault.{SymbolFault}
use Rattle.dd_suite_commands.specs.declared.refusals.SymbolRefusal.{SymbolRefusal}
use Rattle.dd_suite_commands.specs.declared.stop.Stop.{Stop}
use Rattle.dd_suite_commands.specs.declared.stop.Stop.TheVariants.{Refused, Memory}

-- it is refused for this reason, or memory is wanting
abbrev pub IsStop : {T : Type 0} → (T → Type 0) → Stop T → Type 0
IsStop reason (Refused why) = reason why
IsStop reason Memory = Unit {0}

-- why nothing was made of the symbol with a number
abbrev pub at_symbol : ℕ → Stop SymbolFault → Stop SymbolRefusal
at_symbol k (Refused why) = Refused (record { symbol = k; why = why })
at_symbol k Memory = Memory
