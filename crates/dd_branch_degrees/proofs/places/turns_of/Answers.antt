use Rattle.std.proofs.Common.{arith}
use Rattle.dd_branch_degrees.proofs.PlaceTurns.{more_turns, no_turns}
use Rattle.dd_branch_degrees.proofs.places.turns_of.Goals as goal

pub loop-place-init : goal.loop-place-init
loop-place-init c = record { turns = no_turns c.as_slice-places.result.now c.new-turns.result.items c.new-turns.ensures }

pub loop-place-preserved : goal.loop-place-preserved
loop-place-preserved c = record {
  turns = more_turns c.as_slice-places.result.now c.loop-place.place-index _ c.loop-place.turns.items c.push.new.self.items c.loop-place.invariant.turns (omega arith) c.push.ensures.items;
}
