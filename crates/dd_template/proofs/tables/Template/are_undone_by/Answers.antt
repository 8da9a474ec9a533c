use Rattle.std.proofs.Common.{◌≡◌, ◌↔◌, List, length, ap, sym, ◌∙◌, subst}
use Rattle.std.specs.Prelude.{IsTrue}
use Rattle.dd_template.specs.declared.tables.Move.{Move}
use Rattle.dd_template.specs.Moves.{RowLeadsBack}
use Rattle.dd_template.specs.Table.{table_of, moves}
use Rattle.dd_template.proofs.RowLemmas.{row_of_table}
use Rattle.dd_template.proofs.tables.Template.are_undone_by.Goals as goal

pub returns-clause-parts : goal.returns-clause-parts
returns-clause-parts g c = ap (λ (row : List Move). length row) (sym c.moves_by.ensures) ∙ c.lead_back.ensures.parts

pub returns-clause-undone : goal.returns-clause-undone
returns-clause-undone g c =
    let t = table_of c.args.self.now in
    let size : length (moves t c.args.index) ≡ g.row.K = ap (λ (row : List Move). length row) (sym c.moves_by.ensures) ∙ c.lead_back.ensures.parts in
    let row = row_of_table t c.args.index size in
    let back = subst (λ (ms : List Move). IsTrue c.lead_back.result ↔ RowLeadsBack ms) c.moves_by.ensures c.lead_back.ensures.back in
    (λ yes. row.0 (back.0 yes), λ all. back.1 (row.1 all))
