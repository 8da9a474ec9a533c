-- The text of a fault of a file.
use Rattle.std.specs.Prelude.{ℕ, List, ◌++◌, codes, decimal}
use Rattle.dd_symbol.specs.Messages.{refusal_text}
use Rattle.dd_text.specs.declared.faults.FileFault.{FileFault}
use Rattle.dd_text.specs.declared.faults.Why.{Why}
use Rattle.dd_text.specs.declared.faults.Why.TheVariants.{Stray, UnexpectedEnd, NumberTooLong, Dimension, Size, ListShort}
use Rattle.dd_text.specs.declared.faults.Why.TheVariants.{ListLong, Image, Symbol, TooManySymbols, Long, Memory}

-- why a file is not read
abbrev pub why_text : Why → List ℕ
why_text Stray = codes "stray"
why_text UnexpectedEnd = codes "unexpected end"
why_text NumberTooLong = codes "number too long"
why_text Dimension = codes "dimension"
why_text Size = codes "size"
why_text ListShort = codes "list short"
why_text ListLong = codes "list long"
why_text Image = codes "image"
why_text (Symbol refusal) = refusal_text refusal
why_text TooManySymbols = codes "too many symbols"
why_text Long = codes "file too long"
why_text Memory = codes "out of memory"

-- the symbol and the place of a fault, and why the file is not read
abbrev pub fault_text : FileFault → List ℕ
fault_text f = codes "symbol " ++ (decimal f.symbol ++ (codes " at " ++ (decimal f.at ++ (codes ": " ++ why_text f.why))))
