use Rattle.std.proofs.Common.{◌/◌, subst, sym}
use Rattle.dd_model.specs.Cell.{IsBranching}
use Rattle.dd_symbol.specs.Table.{symbol_of}
use Rattle.dd_symbol.proofs.DegreeLemmas.{branching-by_period}
use Rattle.dd_symbol.proofs.code_table.CodeTable.branching.Goals as goal

pub returns : goal.returns
returns c =
    let s = symbol_of c.args.self.now in
    subst (λ m. IsBranching s c.args.pair c.args.chamber (m / c.period.result)) (sym c.degree.ensures)
    (branching-by_period s c.args.self.now.three.involutions c.args.pair c.args.chamber c.period.result c.requires.chamber c.period.ensures.period c.requires.multiple)
