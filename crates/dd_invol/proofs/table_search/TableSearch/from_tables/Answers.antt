use Rattle.std.proofs.Common.{sym, subst, inr}
use Rattle.dd_invol.specs.NextTable.{here}
use Rattle.dd_invol.specs.TableSearch.{IsComing}
use Rattle.dd_invol.proofs.TableSearches.{all_comes, whole_comes, seen_here}
use Rattle.dd_invol.proofs.table_search.TableSearch.from_tables.Goals as goal

pub returns-then-not-is_whole-clause-coming : goal.returns-then-not-is_whole-clause-coming
returns-then-not-is_whole-clause-coming c =
    all_comes (record { tables = c.args.tables; levels = c.begin-levels.result; seen = c.new-seen.result }) c.requires c.begin-levels.ensures.at c.new-seen.ensures c.begin-levels.ensures.left

pub returns-clause-coming : goal.returns-clause-coming
returns-clause-coming c =
    let t = c.args.tables in
    let whole = c.is_whole.ensures.whole.0 c.if-not-is_whole.false in
    let seen = seen_here t.request (here t.stem) c.in-Some.seen.items whole c.in-Some.ensures.found in
    subst (λ x. IsComing t.request (here t.stem) (record { tables = x; levels = c.none-levels.result; seen = c.in-Some.seen })) (sym c.images_here.ensures.same)
    (whole_comes (record { tables = t; levels = c.none-levels.result; seen = c.in-Some.seen }) c.requires c.none-levels.ensures seen.1)

pub returns-clause-first : goal.returns-clause-first
returns-clause-first c =
    let t = c.args.tables in
    let whole = c.is_whole.ensures.whole.0 c.if-not-is_whole.false in
    inr (seen_here t.request (here t.stem) c.in-Some.seen.items whole c.in-Some.ensures.found).0
