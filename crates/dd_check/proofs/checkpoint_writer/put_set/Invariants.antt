use Rattle.std.specs.Prelude.{string_bytes}
use Rattle.dd_check.proofs.RunLemmas.{IsWritten}
use Rattle.dd_check.proofs.checkpoint_writer.put_set.Given as goal

abbrev pub invariant-loop-number : goal.invariant-loop-number
invariant-loop-number l = IsWritten l.set l.number l.begun (string_bytes l.initial.text) (string_bytes l.text)
