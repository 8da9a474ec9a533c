use Rattle.dd_catalogue_rounds.proofs.emission.next_list.Goals as goal

pub unreachable-requires : goal.unreachable-requires
unreachable-requires c = c.in_default.ensures.none c.requires.first.0 c.requires.first.1
