use Rattle.dd_model.specs.declared.index.Index.TheVariants.{One, Two}
use Rattle.dd_symbol.proofs.construction.build_known_lists.Goals as goal

pub build-requires-clause-lengths : goal.build-requires-clause-lengths
build-requires-clause-lengths c =
    let table = c.requires.symbol.symbol.table in
    record { s1 = table.lengths One; s2 = table.lengths Two; m01 = table.m01_length; m12 = table.m12_length }

pub unreachable-requires : goal.unreachable-requires
unreachable-requires c =
    let known = c.requires in
    c.in-Err.ensures.refused c.in_default.not-Memory (record { symbol = known.symbol; connected = known.connected; within = known.symbol.size })
