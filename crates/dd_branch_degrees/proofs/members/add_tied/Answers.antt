use Rattle.std.proofs.Common.{sym, ◌∙◌, subst}
use Rattle.std.proofs.lemmas.Result.{on_ok_weaker}
use Rattle.dd_model.specs.Symbol.{Symbol, IsChamber}
use Rattle.dd_branch_tables.specs.Table.{IsBareTable}
use Rattle.dd_branch_degrees.specs.Assignment.{HasLimits}
use Rattle.dd_branch_degrees.specs.Place.{ArePlaces}
use Rattle.dd_branch_degrees.proofs.Beginnings.{members_with, none_without_limits}
use Rattle.dd_branch_degrees.proofs.members.add_tied.Goals as goal

pub has_limits-requires-clause-places : goal.has_limits-requires-clause-places
has_limits-requires-clause-places c = subst (λ xs. ArePlaces c.args.q.now c.into_symbol-table.result xs) (sym c.as_slice.ensures.value) (subst (λ t. ArePlaces c.args.q.now t c.args.places.items) (sym c.into_symbol-table.ensures.same) c.requires.places)

pub returns-then-not-has_limits-clause-list : goal.returns-then-not-has_limits-clause-list
returns-then-not-has_limits-clause-list c =
    none_without_limits c.args.q.now c.args.t c.args.list.now (λ limits.
    let yes' = c.has_limits.ensures.1 (subst (HasLimits c.args.q.now) (sym c.into_symbol-table.ensures.same) limits) in
    let no' = c.if-not-has_limits.true in cc)

pub of-requires-clause-starts : goal.of-requires-clause-starts
of-requires-clause-starts c d there =
    subst (λ (s : Symbol). IsChamber s d) (sym (c.symbol.ensures.same ∙ c.into_symbol-table.ensures.same)) (c.requires.ties.chambers d there)

pub returns-clause-list : goal.returns-clause-list
returns-clause-list c =
    let same = c.new.ensures.table ∙ c.into_symbol-table.ensures.same in
    on_ok_weaker c.add_all.result
    (members_with c.args.q.now c.args.t c.new.result (subst IsBareTable (sym same) c.into_symbol-table.ensures.table) c.new.ensures.request same c.new.ensures.none c.args.list.now c.add_all.new.list)
    c.add_all.ensures.list
