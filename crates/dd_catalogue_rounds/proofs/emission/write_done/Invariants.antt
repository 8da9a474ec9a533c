use Rattle.std.proofs.Common.{◌≡◌, ◌≤◌, true, length}
use Rattle.dd_catalogue_rounds.specs.Ways.{GoesOn}
use Rattle.dd_catalogue_rounds.proofs.emission.write_done.Given as goal

-- whatever was under way goes on, no line came after the last one, the count of faults did not fall, and what was sure is
abbrev pub invariant-loop-room : goal.invariant-loop-room
invariant-loop-room g l =
    GoesOn (g.O.Sink.held l.initial.out) (g.O.Sink.held l.out) l.initial.page l.page l.initial.front l.front × (l.page.count ≤ l.fn.last) × (g.O.Sink.faults l.initial.out ≤ g.O.Sink.faults l.out)
    × (g.O.Sink.sure l.initial.out ≡ true → (g.O.Sink.sure l.out ≡ true) × (g.O.Sink.faults l.out ≡ g.O.Sink.faults l.initial.out))

abbrev pub decreases-loop-room : goal.decreases-loop-room
decreases-loop-room g l = length l.front.entries
