use Rattle.std.proofs.Common.{length}
use Rattle.std.specs.Prelude.{map}
use Rattle.dd_model.specs.Parts.{Spells}
use Rattle.dd_model.specs.Spelling.{number_part}
use Rattle.dd_text.specs.Reader.{cursor_of}
use Rattle.dd_text.proofs.reader.Reader.list.Given as goal

abbrev pub invariant-loop-numbers : goal.invariant-loop-numbers
invariant-loop-numbers l = Spells (cursor_of l.fn.self) (map number_part l.numbers.items) (cursor_of l.self)

abbrev pub decreases-loop-numbers : goal.decreases-loop-numbers
decreases-loop-numbers l = length l.self.rest.now
