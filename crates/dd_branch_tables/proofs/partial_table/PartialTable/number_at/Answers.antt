use Rattle.std.proofs.Common.{get_or, refl, subst}
use Rattle.dd_branch_tables.specs.Rows.{HasNumberAt, partial_of}
use Rattle.dd_branch_tables.specs.Kept.{rows_of}
use Rattle.dd_branch_tables.proofs.RowsLemmas.{told_at}
use Rattle.dd_branch_tables.proofs.partial_table.PartialTable.number_at.Goals as goal

pub returns-clause-number : goal.returns-clause-number
returns-clause-number c =
    let r = rows_of c.self.inside in
    let number = get_or r.numbers c.args.place 0 in
    subst (λ r. HasNumberAt c.args.place number (partial_of r)) c.self.view_is (told_at r c.args.place number c.requires.place refl)
