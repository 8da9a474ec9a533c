use Rattle.std.proofs.Common.{subst, sym}
use Rattle.dd_model.proofs.Lists.{map_set_same}
use Rattle.dd_steal_deques.specs.Hands.{hand_place}
use Rattle.dd_steal_deques.specs.Places.{IsRack}
use Rattle.dd_test_board.proofs.rack_trials.steal_by.Goals as goal

pub returns-clause-rack : goal.returns-clause-rack
returns-clause-rack g c = subst IsRack (sym (map_set_same hand_place _ _ _ _ c.index_mut.ensures.value c.steal.ensures.place)) c.requires.rack
