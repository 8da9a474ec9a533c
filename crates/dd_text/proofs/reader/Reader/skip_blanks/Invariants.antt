use Rattle.std.proofs.Common.{◌≡◌, length}
use Rattle.dd_model.specs.Parts.{past_blanks}
use Rattle.dd_text.proofs.reader.Reader.skip_blanks.Given as goal

abbrev pub invariant-loop-self : goal.invariant-loop-self
invariant-loop-self l = past_blanks l.self.at l.self.rest.now ≡ past_blanks l.fn.self.at l.fn.self.rest.now

abbrev pub decreases-loop-self : goal.decreases-loop-self
decreases-loop-self l = length l.self.rest.now
