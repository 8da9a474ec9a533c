use Rattle.std.proofs.Common.{subst}
use Rattle.dd_model.specs.Cell.{IsBranching}
use Rattle.dd_covers.specs.CellNumbers.{IsCellNumber}
use Rattle.dd_covers.proofs.WantLemmas.{want_own, want_kept}
use Rattle.dd_covers.proofs.wanted_values.want.Goals as goal

pub returns-clause-own : goal.returns-clause-own
returns-clause-own c =
    let same = c.symbol-symbol.ensures.same in
    let p = c.args.pair in
    let d = c.args.chamber in
    want_own c.args.s.now c.symbol-symbol.ensures.symbol.symbol c.args.k c.args.wants.now.items c.requires.size p d c.cell_number-number.result c.branching.result
    c.requires.chamber (subst (λ t. IsCellNumber t p d c.cell_number-number.result) same c.cell_number-number.ensures) (subst (λ t. IsBranching t p d c.branching.result) same c.branching.ensures)

pub returns-clause-kept : goal.returns-clause-kept
returns-clause-kept c =
    let same = c.symbol-symbol.ensures.same in
    let p = c.args.pair in
    let d = c.args.chamber in
    want_kept c.args.s.now c.symbol-symbol.ensures.symbol.symbol c.args.k c.args.wants.now.items c.requires.size p d c.cell_number-number.result c.branching.result
    c.requires.chamber (subst (λ t. IsCellNumber t p d c.cell_number-number.result) same c.cell_number-number.ensures) (subst (λ t. IsBranching t p d c.branching.result) same c.branching.ensures)
