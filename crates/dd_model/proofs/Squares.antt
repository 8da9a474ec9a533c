-- The tiling by squares: one chamber, and both degrees 4.
use Rattle.std.proofs.Common.{refl, arith}
use Rattle.std.specs.Prelude.{codes}
use Rattle.std.specs.Fmt.{digits}
use Rattle.dd_model.specs.Symbol.{IsSymbol}
use Rattle.dd_model.specs.Connected.{Connected}
use Rattle.dd_model.specs.Code.{Least}
use Rattle.dd_model.specs.Flat.{Flat}
use Rattle.dd_model.specs.Minimal.{Minimal}
use Rattle.dd_model.specs.Line.{IsLine}
use Rattle.dd_model.specs.Worked.{squares}
use Rattle.dd_model.proofs.OneChamber.{symbol, connected as single_connected, minimal as single_minimal, least as single_least, line as single_line}

pub is_symbol : IsSymbol squares
is_symbol = symbol 4 4 (omega arith) (omega arith)

pub connected : Connected squares
connected = single_connected 4 4

pub flat : Flat squares
flat = refl

pub minimal : Minimal squares
minimal = single_minimal 4 4

pub least : Least squares
least = single_least 4 4

pub line : IsLine 1 squares (codes "<1.1:1:1,1,1:4,4>\n")
unfolding digits
line = single_line 1 4 4 (codes "<1.1:1:1,1,1:4,4>\n") refl
