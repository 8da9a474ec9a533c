use Rattle.std.proofs.Common.{ap, sym, ◌∙◌, subst}
use Rattle.dd_symbol.specs.Building.{IsConnectedSymbol}
use Rattle.dd_symbol.specs.Images.{of_rows, with_degrees}
use Rattle.dd_model.specs.Symbol.{AreInvolutions}
use Rattle.dd_branch_tables.proofs.TableLemmas.{both_periods, no_table, none_built, bare_of_told, table_of_told, periods_fit}
use Rattle.dd_branch_degrees.proofs.table.Table.of.Goals as goal

pub returns-in_default : goal.returns-in_default
returns-in_default c =
    no_table c.args.size c.args.numbers.now c.requires.whole
    (subst (λ n. AreInvolutions (of_rows n c.args.numbers.now) → ⊥) c.from.ensures (rw c.in_default.is at c.in_ok-involutions.ensures))

pub build_fitting-requires-clause-fitting : goal.build_fitting-requires-clause-fitting
build_fitting-requires-clause-fitting c =
    let m01 = c.in_ok-m01.m01.items in
    let m12 = c.in_ok-m12.m12.items in
    let rows = (rw c.in-Some.is at c.in_ok-involutions.ensures) ∙ ap (λ n. of_rows n c.args.numbers.now) c.from.ensures in
    periods_fit c.args.size c.args.numbers.now m01 m12 c.in-Some.involutions c.requires.size.0 c.requires.size.1 rows
    (both_periods c.args.size c.args.numbers.now m01 m12 c.in-Some.involutions rows c.in_ok-m01.ensures c.in_ok-m12.ensures)

pub returns-in_default-2 : goal.returns-in_default-2
returns-in_default-2 c =
    let m01 = c.in_ok-m01.m01.items in
    let m12 = c.in_ok-m12.m12.items in
    let rows = (rw c.in-Some.is at c.in_ok-involutions.ensures) ∙ ap (λ n. of_rows n c.args.numbers.now) c.from.ensures in
    none_built c.args.size c.args.numbers.now m01 m12 c.requires.size.1 c.requires.whole
    (both_periods c.args.size c.args.numbers.now m01 m12 c.in-Some.involutions rows c.in_ok-m01.ensures c.in_ok-m12.ensures)
    (subst (λ s. IsConnectedSymbol (with_degrees s m01 m12) → ⊥) rows (rw c.in_default-2.is at c.in_ok-symbol.ensures))

pub invariant_of-result : goal.invariant_of-result
invariant_of-result c =
    let m01 = c.in_ok-m01.m01.items in
    let m12 = c.in_ok-m12.m12.items in
    let rows = (rw c.in-Some.is at c.in_ok-involutions.ensures) ∙ ap (λ n. of_rows n c.args.numbers.now) c.from.ensures in
    let built = rw c.in-Some-2.is at c.in_ok-symbol.ensures in
    bare_of_told c.args.size c.args.numbers.now m01 m12 c.in-Some-2.symbol c.requires.size.1
    (built.same ∙ ap (λ s. with_degrees s m01 m12) rows) (subst IsConnectedSymbol (sym built.same) built.connected)
    (both_periods c.args.size c.args.numbers.now m01 m12 c.in-Some.involutions rows c.in_ok-m01.ensures c.in_ok-m12.ensures)

pub returns : goal.returns
returns c =
    let m01 = c.in_ok-m01.m01.items in
    let m12 = c.in_ok-m12.m12.items in
    let rows = (rw c.in-Some.is at c.in_ok-involutions.ensures) ∙ ap (λ n. of_rows n c.args.numbers.now) c.from.ensures in
    let built = rw c.in-Some-2.is at c.in_ok-symbol.ensures in
    let same = built.same ∙ ap (λ s. with_degrees s m01 m12) rows in
    table_of_told c.args.size c.args.numbers.now m01 m12 c.in-Some-2.symbol c.requires.whole same
    (bare_of_told c.args.size c.args.numbers.now m01 m12 c.in-Some-2.symbol c.requires.size.1 same (subst IsConnectedSymbol (sym built.same) built.connected)
    (both_periods c.args.size c.args.numbers.now m01 m12 c.in-Some.involutions rows c.in_ok-m01.ensures c.in_ok-m12.ensures))
