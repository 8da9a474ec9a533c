use Rattle.std.proofs.Common.{ap}
use Rattle.dd_model.proofs.Lists.{map_set_same}
use Rattle.dd_steal_deques.specs.Hands.{hand_deck, hand_passes, way_end}
use Rattle.dd_steal_deques.proofs.Thefts.{thefts_by, stolen_by}
use Rattle.dd_steal_deques.proofs.hand.Hand.steal.Goals as goal

pub returns-clause-place : goal.returns-clause-place
returns-clause-place g c =
    let ends = map_set_same way_end _ _ _ _ c.index_mut.ensures.value (λ i. record { from = c.steal.ensures.same.0 i; deck = c.steal.ensures.same.1 i }) in
    ap (λ es. record { deck = hand_deck c.args.self.now; passes = hand_passes c.args.self.now; ends = es }) ends

pub returns-clause-from : goal.returns-clause-from
returns-clause-from g c =
    thefts_by c.steal.result c.args.self.now.ways.items c.in_ok-index.index c.args.from _ c.steal.new.self c.in_ok-index.ensures c.index_mut.ensures.value c.steal.ensures.same.0 c.steal.ensures.taken

pub returns-clause-stolen : goal.returns-clause-stolen
returns-clause-stolen g c =
    stolen_by c.steal.result c.args.self.now.ways.items c.in_ok-index.index c.args.from _ c.steal.new.self c.in_ok-index.ensures c.index_mut.ensures.value c.steal.ensures.taken
