use Rattle.std.proofs.Common.{◌≤◌, length}
use Rattle.dd_model.specs.Reading.{ReadsTo}
use Rattle.dd_text.specs.Reader.{cursor_of}
use Rattle.dd_text.proofs.file_reader.read.Given as goal

abbrev pub invariant-loop-byte : goal.invariant-loop-byte
invariant-loop-byte l = record {
  row : ReadsTo l.bytes l.symbols.items (cursor_of l.reader);
  few : length l.symbols.items ≤ 1000000;
}

abbrev pub decreases-loop-byte : goal.decreases-loop-byte
decreases-loop-byte l = length l.reader.rest.now
