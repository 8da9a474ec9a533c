use Rattle.std.proofs.Common.{subst}
use Rattle.dd_model.specs.Cell.{IsBranching}
use Rattle.dd_symbol.specs.Cells.{IsShapeOf}
use Rattle.dd_cells.proofs.cell_list.cell_at.Goals as goal

pub walked-requires-clause-turns : goal.walked-requires-clause-turns
walked-requires-clause-turns c = (subst (λ t. IsShapeOf t c.args.pair c.args.least c.cell-kind.result) c.symbol-symbol.ensures.same c.cell-kind.ensures).turns

pub returns-clause-cell : goal.returns-clause-cell
returns-clause-cell c =
    let same = c.symbol-symbol.ensures.same in
    let shape = subst (λ t. IsShapeOf t c.args.pair c.args.least c.cell-kind.result) same c.cell-kind.ensures in
    record {
      least = c.requires;
      kind = shape.kind;
      turns = shape.turns;
      branching = subst (λ t. IsBranching t c.args.pair c.args.least c.branching.result) same c.branching.ensures;
      members = c.in_ok-walked.ensures;
    }
