use Rattle.std.proofs.Common.{◌≡◌, length}
use Rattle.dd_model.specs.Reading.{line_end}
use Rattle.dd_text.proofs.reader.Reader.skip_line.Given as goal

abbrev pub invariant-loop-self : goal.invariant-loop-self
invariant-loop-self l = line_end l.self.at l.self.rest.now ≡ line_end l.fn.self.at l.fn.self.rest.now

abbrev pub decreases-loop-self : goal.decreases-loop-self
decreases-loop-self l = length l.self.rest.now
