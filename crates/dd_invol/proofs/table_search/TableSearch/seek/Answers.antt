use Rattle.std.proofs.Common.{refl, sym, subst}
use Rattle.dd_invol.specs.NextTable.{IsAhead}
use Rattle.dd_branch_tables.specs.Walk.{IsPast}
use Rattle.dd_invol.specs.declared.table_search.TableSearch.{TableSearch}
use Rattle.dd_invol.proofs.TableSearches.{HasGoneOn, HasGoneBack, gone_back, came_by, came_ahead, came_to, ended}
use Rattle.dd_invol.proofs.table_search.TableSearch.seek.Goals as goal

pub returns-in-Some-clause-coming : goal.returns-in-Some-clause-coming
returns-in-Some-clause-coming c q job coming =
    let S = c.loop-self.self in
    let i = c.loop-self.invariant in
    let to = c.advance.new.search in
    let levels = c.go_back.new.levels in
    let new : TableSearch = record { tables = c.go_back.new.search; levels = levels; seen = c.in-Some.images } in
    let go = c.loop-self-test.ensures in
    let lists = c.go_back.ensures.levels in
    let on : HasGoneOn S.tables S.levels to levels = subst (λ ls. HasGoneOn S.tables S.levels to ls) (sym lists)
    (record { whole = go.whole; same_request = go.request; same_size = go.size; parts = go.left; order = go.order }) in
    let b = c.go_back.ensures in
    let back : HasGoneBack to levels c.go_back.new.search = gone_back to c.images_here-found.new.tables c.advance.new.levels levels c.go_back.new.search c.images_here-found.ensures.same lists b.valid b.request b.size b.at b.left in
    came_to q job S new to (i.keeps q job coming) on back c.in-Some.ensures.found

pub returns-in-Some-clause-found : goal.returns-in-Some-clause-found
returns-in-Some-clause-found c q job coming =
    let S = c.loop-self.self in
    let i = c.loop-self.invariant in
    let to = c.advance.new.search in
    let levels = c.go_back.new.levels in
    let new : TableSearch = record { tables = c.go_back.new.search; levels = levels; seen = c.in-Some.images } in
    let go = c.loop-self-test.ensures in
    let lists = c.go_back.ensures.levels in
    let on : HasGoneOn S.tables S.levels to levels = subst (λ ls. HasGoneOn S.tables S.levels to ls) (sym lists)
    (record { whole = go.whole; same_request = go.request; same_size = go.size; parts = go.left; order = go.order }) in
    let b = c.go_back.ensures in
    let back : HasGoneBack to levels c.go_back.new.search = gone_back to c.images_here-found.new.tables c.advance.new.levels levels c.go_back.new.search c.images_here-found.ensures.same lists b.valid b.request b.size b.at b.left in
    subst (λ v. IsAhead q job v.items c.in-Some.images.items) i.seen (came_ahead q job S new to (i.keeps q job coming) on back c.in-Some.ensures.found)

pub loop-self-preserved : goal.loop-self-preserved
loop-self-preserved c =
    let S = c.loop-self.self in
    let i = c.loop-self.invariant in
    let to = c.advance.new.search in
    let levels = c.go_back.new.levels in
    let new : TableSearch = record { tables = c.go_back.new.search; levels = levels; seen = S.seen } in
    let go = c.loop-self-test.ensures in
    let lists = c.go_back.ensures.levels in
    let on : HasGoneOn S.tables S.levels to levels = subst (λ ls. HasGoneOn S.tables S.levels to ls) (sym lists)
    (record { whole = go.whole; same_request = go.request; same_size = go.size; parts = go.left; order = go.order }) in
    let b = c.go_back.ensures in
    let back : HasGoneBack to levels c.go_back.new.search = gone_back to c.images_here-found.new.tables c.advance.new.levels levels c.go_back.new.search c.images_here-found.ensures.same lists b.valid b.request b.size b.at b.left in
    record {
      stem = back.stem;
      at = back.at;
      seen = i.seen;
      keeps = λ q job coming. came_by q job S new to (i.keeps q job coming) on back refl c.in_default.ensures.found;
    }

pub returns-clause-coming : goal.returns-clause-coming
returns-clause-coming c q job coming =
    let S = c.loop-self.self in
    let i = c.loop-self.invariant in
    let go = c.loop-self-test.ensures in
    ended q job S (record { tables = c.advance.new.search; levels = c.advance.new.levels; seen = S.seen }) (i.keeps q job coming) go.valid go.request go.size go.empty refl go.none

pub returns-clause-none : goal.returns-clause-none
returns-clause-none c q job coming s is past =
    let S = c.loop-self.self in
    let i = c.loop-self.invariant in
    c.loop-self-test.ensures.none s ((i.keeps q job coming).listed s is (subst (λ v. IsPast v.items s) (sym i.seen) past))
