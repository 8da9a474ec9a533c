use Rattle.std.proofs.Common.{sym, subst}
use Rattle.dd_template.specs.Lawful.{IsLawful}
use Rattle.dd_template.specs.Table.{table_of}
use Rattle.dd_opword.proofs.ComposedLawful.{composed_lawful}
use Rattle.dd_opword.proofs.ComposedParts.{composed_of_lists}
use Rattle.dd_opword.proofs.composition.compose.Goals as goal

pub returns-clause-table : goal.returns-clause-table
returns-clause-table g c =
    composed_of_lists (table_of c.args.outer.now) (table_of c.args.inner.now) c.requires.parts
    c.moves_of.ensures c.moves_of-2.ensures c.moves_of-3.ensures c.entries_of.ensures c.entries_of-2.ensures

pub returns-clause-lawful : goal.returns-clause-lawful
returns-clause-lawful g c =
    let outer = table_of c.args.outer.now in
    let inner = table_of c.args.inner.now in
    subst IsLawful
    (sym (composed_of_lists outer inner c.requires.parts c.moves_of.ensures c.moves_of-2.ensures c.moves_of-3.ensures c.entries_of.ensures c.entries_of-2.ensures))
    (composed_lawful outer inner c.requires.together)
