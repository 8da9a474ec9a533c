use Rattle.std.proofs.Common.{◌-◌, ◌<◌, get_or, sym, ap, ◌∙◌, arith}
use Rattle.dd_model.specs.Symbol.{op}
use Rattle.dd_branch_tables.specs.Kept.{rows_of}
use Rattle.dd_branch_tables.specs.Rows.{Rows, partial_of}
use Rattle.dd_branch_tables.proofs.RowsLemmas.{op_partial}
use Rattle.dd_branch_tables.proofs.partial_table.PartialTable.known.Goals as goal

pub returns-clause-image : goal.returns-clause-image
returns-clause-image c =
    let r = rows_of c.self.inside in
    let low : c.args.chamber - 1 < 36 = let h = c.requires.high in omega (arith, h) in
    ap (λ t. get_or r.numbers t 0) c.place_of.ensures.place ∙ sym (op_partial r.size r.numbers c.args.i c.args.chamber low) ∙ ap (λ (r : Rows). op (partial_of r) c.args.i c.args.chamber) c.self.view_is
