use Rattle.std.proofs.Common.{◌≡◌, ◌*◌, length, sym, subst}
use Rattle.std.proofs.lemmas.Result.{on_ok_weaker}
use Rattle.dd_model.specs.Wanted.{IsMember}
use Rattle.dd_branch_tables.specs.Stem.{Any, prefix_of, size_of}
use Rattle.dd_front_jobs.specs.Under.{Appends, AreUnder, HasNothingUnder}
use Rattle.dd_branch_tables.proofs.Prefixes.{appends_dead}
use Rattle.dd_branch_tables.proofs.Stems.{any_under}
use Rattle.dd_branch.specs.Descent.{Descending}
use Rattle.dd_branch.proofs.Descents.{appends_carried, table_of_same}
use Rattle.dd_branch.proofs.descent.DescentCollectingSearch.add.Goals as goal

pub returns-in_default-clause-list : goal.returns-in_default-clause-list
returns-in_default-clause-list c =
    let q = c.self.inside.request in
    let n = size_of c.self.inside.stem in
    let prefix = prefix_of c.self.inside.stem in
    let none : HasNothingUnder Any n prefix = rw c.in_default.is at c.in_ok-ties.ensures in
    let old = c.args.list.now in
    subst
    (λ (d : Descending). Appends (AreUnder (IsMember d.request) (size_of d.stem) (prefix_of d.stem)) old old)
    c.self.view_is
    (appends_dead (IsMember q) n prefix old (λ s under. none s (any_under (IsMember q) n prefix s under)))

pub involutions-requires-clause-some : goal.involutions-requires-clause-some
involutions-requires-clause-some c = let told = rw c.in-Some.is at c.in_ok-ties.ensures in told.some

pub add_tied-requires-clause-ties : goal.add_tied-requires-clause-ties
add_tied-requires-clause-ties c =
    let stem = c.self.inside.stem in
    let whole = subst (λ (d : Descending). length (prefix_of d.stem) ≡ 3 * size_of d.stem) (sym c.self.view_is) c.requires.whole in
    let told = rw c.in-Some.is at c.in_ok-ties.ensures in
    told.ties c.in_ok-table.table
    (table_of_same (size_of stem) (prefix_of stem) c.in_ok-involutions.involutions c.in_ok-table.table whole c.in_ok-involutions.ensures.same c.in_ok-table.ensures.same c.in_ok-table.ensures.table)

pub returns-clause-list : goal.returns-clause-list
returns-clause-list c =
    let q = c.self.inside.request in
    let n = size_of c.self.inside.stem in
    let prefix = prefix_of c.self.inside.stem in
    let whole : length prefix ≡ 3 * n = subst (λ (d : Descending). length (prefix_of d.stem) ≡ 3 * size_of d.stem) (sym c.self.view_is) c.requires.whole in
    let of = table_of_same n prefix c.in_ok-involutions.involutions c.in_ok-table.table whole c.in_ok-involutions.ensures.same c.in_ok-table.ensures.same c.in_ok-table.ensures.table in
    let old = c.args.list.now in
    let new = c.add_tied.new.list in
    on_ok_weaker c.add_tied.result
    (λ added. subst
    (λ (d : Descending). Appends (AreUnder (IsMember d.request) (size_of d.stem) (prefix_of d.stem)) old new)
    c.self.view_is
    (appends_carried q n prefix c.in_ok-table.table old new of whole added))
    c.add_tied.ensures.list
