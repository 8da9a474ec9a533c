use Rattle.std.proofs.Common.{ap, arith, ◌-◌}
use Rattle.dd_model.proofs.Lists.{map_set_same}
use Rattle.dd_steal_deques.specs.Hands.{hand_deck, hand_ways, hand_pushed, hand_popped, hand_passes}
use Rattle.dd_steal_deques.proofs.Changed.{got_within, sum_set, less_at}
use Rattle.dd_steal_deques.proofs.joins.join_way.Goals as goal

pub returns-clause-decks : goal.returns-clause-decks
returns-clause-decks g c = map_set_same hand_deck _ _ _ _ c.index_mut.ensures.value c.join.ensures.deck

pub returns-clause-ways : goal.returns-clause-ways
returns-clause-ways g c = map_set_same hand_ways _ _ _ _ c.index_mut.ensures.value (ap (λ w. w.items) c.join.ensures.ways)

pub returns-clause-pushed : goal.returns-clause-pushed
returns-clause-pushed g c = map_set_same hand_pushed _ _ _ _ c.index_mut.ensures.value c.join.ensures.pushed

pub returns-clause-popped : goal.returns-clause-popped
returns-clause-popped g c =
    let lt = got_within hand_deck c.args.hands.now.items (c.args.way.from - 1) _ c.requires.into in
    let sum = sum_set hand_popped c.args.hands.now.items (c.args.way.from - 1) _ c.join.new.self lt c.index_mut.ensures.value in
    omega (arith, sum, c.join.ensures.popped)

pub returns-clause-passes : goal.returns-clause-passes
returns-clause-passes g c =
    let lt = got_within hand_deck c.args.hands.now.items (c.args.way.from - 1) _ c.requires.into in
    less_at hand_passes c.args.hands.now.items c.args.way.from _ c.join.new.self c.requires.counted lt c.index_mut.ensures.value c.join.ensures.passes
