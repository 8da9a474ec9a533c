use Rattle.dd_template.proofs.MadeSymbols.{made_symbol}
use Rattle.dd_template.proofs.made_laws.symbols_are_made_of_symbols.Goals as goal

pub returns : goal.returns
returns c = made_symbol
