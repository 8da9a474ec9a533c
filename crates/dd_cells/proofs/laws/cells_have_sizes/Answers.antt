use Rattle.std.proofs.Common.{subst}
use Rattle.dd_symbol.specs.Cells.{IsKindOf}
use Rattle.dd_cells.proofs.CellSizes.{chain_size, cycle_size}
use Rattle.dd_cells.proofs.MemberLemmas.{period_from_turns}
use Rattle.dd_cells.proofs.laws.cells_have_sizes.Goals as goal

pub returns-clause-cycle : goal.returns-clause-cycle
returns-clause-cycle _ s p c is cell kind =
    let inv = is.involutions in
    let h = cell.least.0 in
    cycle_size s inv p c.least c.r c.members h (period_from_turns s inv p c.least c.r h cell.turns)
    (subst (IsKindOf s p c.least) kind cell.kind) cell.members

pub returns-clause-chain : goal.returns-clause-chain
returns-clause-chain _ s p c is cell kind =
    let inv = is.involutions in
    let h = cell.least.0 in
    chain_size s inv p c.least c.r c.members h (period_from_turns s inv p c.least c.r h cell.turns)
    (subst (IsKindOf s p c.least) kind cell.kind) cell.members
