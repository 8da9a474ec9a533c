use Rattle.std.proofs.Common.{sym, subst}
use Rattle.dd_branch_tables.specs.Table.{IsBareTable}
use Rattle.dd_branch_tables.proofs.BareTables.{known_bare}
use Rattle.dd_branch_degrees.proofs.table.Table.known.Goals as goal

pub build_known-requires : goal.build_known-requires
build_known-requires c = (known_bare c.args.involutions c.args.m01.now c.args.m12.now c.requires.table c.requires.tiles c.requires.vertices).built

pub invariant_of-result : goal.invariant_of-result
invariant_of-result c =
    subst IsBareTable (sym c.in_ok-build_known.ensures)
    (known_bare c.args.involutions c.args.m01.now c.args.m12.now c.requires.table c.requires.tiles c.requires.vertices).bare

pub returns-clause-table : goal.returns-clause-table
returns-clause-table c =
    subst IsBareTable (sym c.in_ok-build_known.ensures)
    (known_bare c.args.involutions c.args.m01.now c.args.m12.now c.requires.table c.requires.tiles c.requires.vertices).bare
