use Rattle.std.proofs.Common.{◌≡◌, ◌≤◌, length, true}
use Rattle.std.specs.Vec.Iter.{into_iter_items, into_iter_len}
use Rattle.dd_pages_and_checkpoints.specs.Texts.{joined}
use Rattle.dd_pages_and_checkpoints.proofs.Sending.{IsSending}
use Rattle.dd_pages_and_checkpoints.proofs.collected.Collected.put_all.Given as goal

-- the texts so far were sent, the count of faults did not fall, and what was sure is
abbrev pub invariant-loop-text : goal.invariant-loop-text
invariant-loop-text g l =
    (into_iter_len l.text-iterator ≡ length (into_iter_items l.text-iterator))
    × IsSending (g.O.Sink.held l.initial.out) (g.O.Sink.held l.out) l.fn.self l.self (joined l.fn.texts.items) (joined (into_iter_items l.text-iterator))
    × (g.O.Sink.faults l.initial.out ≤ g.O.Sink.faults l.out)
    × (g.O.Sink.sure l.initial.out ≡ true → (g.O.Sink.sure l.out ≡ true) × (g.O.Sink.faults l.out ≡ g.O.Sink.faults l.initial.out))
