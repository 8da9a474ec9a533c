use Rattle.std.proofs.Common.{◌<◌, length, refl, arith}
use Rattle.dd_front.proofs.Shutting.{left_one}
use Rattle.dd_front.proofs.entry_list.EntryList.take_done.Goals as goal

pub invariant_of-self-2 : goal.invariant_of-self-2
invariant_of-self-2 c =
    let there = c.in_ok-list.ensures.variant.0 refl in
    let low : c.self.inside.gone < length c.self.inside.all.items = omega arith in
    left_one c.self.inside.all.items c.self.inside.gone c.self.inside.shut c.saturating_sub-self-inside.result _ low c.saturating_sub-self-inside.ensures c.self.invariant
