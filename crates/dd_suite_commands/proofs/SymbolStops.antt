-- Why nothing was made of a symbol of a file.
use Rattle.std.proofs.Common.{ℕ}
use Rattle.dd_suite_commands.specs.declared.refusals.SymbolFault.{SymbolFault}
use Rattle.dd_suite_commands.specs.declared.refusals.SymbolRefusal.{SymbolRefusal}
use Rattle.dd_suite_commands.specs.declared.stop.Stop.{Stop}
use Rattle.dd_suite_commands.specs.declared.stop.Stop.TheVariants.{Refused, Memory}
use Rattle.dd_suite_commands.specs.Stops.{IsStop, at_symbol}

-- a reason why nothing is made of a symbol is one for the symbol with its number
pub stop_at : (k : ℕ) (P : SymbolFault → Type 0) (Q : SymbolRefusal → Type 0) (stop : Stop SymbolFault) → IsStop P stop
    → ((why : SymbolFault) → P why → Q (record { symbol = k; why = why })) → IsStop Q (at_symbol k stop)
stop_at k P Q (Refused why) is moved = moved why is
stop_at k P Q Memory is moved = tt
