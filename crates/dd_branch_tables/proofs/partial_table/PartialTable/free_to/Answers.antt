use Rattle.std.proofs.Common.{◌≢◌, ◌≤◌, get_or, subst, sym, ap, ◌∙◌, arith}
use Rattle.std.specs.Int.{bit_at}
use Rattle.dd_model.specs.Symbol.{op}
use Rattle.dd_branch_tables.specs.Rows.{Rows, partial_of}
use Rattle.dd_branch_tables.specs.Kept.{rows_of}
use Rattle.dd_branch_tables.proofs.RowsLemmas.{no_bit_has_image}
use Rattle.dd_branch_tables.proofs.partial_table.PartialTable.free_to.Goals as goal

pub returns-clause-taken : goal.returns-clause-taken
returns-clause-taken c d low high none =
    let r = rows_of c.self.inside in
    let small = c.self.invariant.small in
    let last = subst (λ (r : Rows). c.args.last ≤ r.size) (sym c.self.view_is) c.requires.last in
    subst (λ r. op (partial_of r) c.args.i d ≢ 0) c.self.view_is
    (no_bit_has_image r c.args.i d c.self.invariant low (omega (arith, small, last, high))
    (ap (λ t. bit_at (get_or r.free t 0) d) (sym c.place_of.ensures.place) ∙ c.of_bits.ensures.inside d low high none))
