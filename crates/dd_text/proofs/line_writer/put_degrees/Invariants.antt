use Rattle.std.proofs.Common.{map, drop}
use Rattle.dd_model.specs.Symbol.{degree}
use Rattle.dd_text.proofs.Spacing.{IsSpaced}
use Rattle.dd_text.proofs.line_writer.put_degrees.Given as goal

abbrev pub invariant-loop-chamber : goal.invariant-loop-chamber
invariant-loop-chamber l =
    IsSpaced (map (degree l.symbol l.pair) l.chambers) (map (degree l.symbol l.pair) (drop l.chamber-index l.chambers)) l.begun l.initial.out.items l.out.items
