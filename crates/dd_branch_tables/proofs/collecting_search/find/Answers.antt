use Rattle.std.proofs.Common.{◌≡◌, ◌⊎◌, ◌↔◌, length, sym, ap, ◌∙◌, subst}
use Rattle.dd_model.specs.Code.{IsBelow}
use Rattle.dd_model.specs.Symbol.{Symbol}
use Rattle.dd_front_jobs.specs.Under.{IsUnder, AreUnder, Appends}
use Rattle.dd_branch_tables.specs.Levels.{IsLeft, IsLeftAt, first_at, first_of}
use Rattle.dd_branch_tables.proofs.Prefixes.{not_whole}
use Rattle.dd_branch_tables.proofs.Advances.{of_first}
use Rattle.dd_branch_tables.proofs.Founds.{HasFound, none_found, more_found, all_found}
use Rattle.dd_branch_tables.proofs.collecting_search.find.Goals as goal

pub begin-levels-requires-clause-room : goal.begin-levels-requires-clause-room
begin-levels-requires-clause-room g c =
    let T = g.T.PrefixSearch in
    let S = c.args.search.now in
    not_whole c.is_whole.result (length (T.laws.prefix S)) (T.laws.end (T.laws.size S)) c.if-is_whole.false c.is_whole.ensures.whole c.requires.short

pub loop-levels-init : goal.loop-levels-init
loop-levels-init g c =
    let T = g.T.PrefixSearch in
    let begun = c.begin-levels.ensures in
    none_found T.laws c.args.search.now c.begin-levels.result c.args.list.now c.requires.valid begun.at begun.first begun.left

pub loop-levels-preserved : goal.loop-levels-preserved
loop-levels-preserved g c =
    let T = g.T.PrefixSearch in
    let begun = c.args.search.now in
    let old = c.loop-levels.search in
    let new = c.advance.new.search in
    let levels = c.advance.new.levels in
    let there = c.go_back.new.search in
    let i = c.loop-levels.invariant in
    let on = c.loop-levels-test.ensures in
    let back = c.go_back.ensures in
    let same = c.in_ok-add.ensures.same in
    let request = on.request ∙ i.same_request in
    let size = on.size ∙ i.same_size in
    let parts = of_first T.laws begun old i.same_request i.same_size
    (λ V k. (s : Symbol) → IsLeftAt T.laws V k old c.loop-levels.levels s ↔ (IsUnder V k (T.laws.prefix new) s ⊎ IsLeft T.laws V k new levels s)) on.left in
    let order = of_first T.laws begun old i.same_request i.same_size
    (λ V k. (s u : Symbol) → IsUnder V k (T.laws.prefix new) s → IsLeft T.laws V k new levels u → IsBelow s u) on.order in
    let left = of_first T.laws begun new request size
    (λ V k. (s : Symbol) → IsLeft T.laws V k new levels s ↔ IsLeftAt T.laws V k there levels s)
    (subst (λ x. (s : Symbol) → IsLeft T.laws (T.laws.wanted (T.laws.request x)) (T.laws.size x) x levels s ↔ IsLeftAt T.laws (T.laws.wanted (T.laws.request x)) (T.laws.size x) there levels s) same back.left) in
    let more = of_first T.laws begun new request size
    (λ V k. Appends (AreUnder V k (T.laws.prefix new)) c.loop-levels.list c.add-in-loop-levels.new.list) c.in_ok-add.ensures.list in
    let first : first_at T.laws there levels ≡ begun = back.first ∙ ap (λ x. first_of T.laws x levels) same ∙ on.first ∙ i.same_first in
    subst (λ ls. HasFound T.laws begun c.args.list.now there ls c.add-in-loop-levels.new.list) (sym back.levels)
    (more_found T.laws begun old new there c.loop-levels.levels levels c.args.list.now c.loop-levels.list c.add-in-loop-levels.new.list i
    back.valid (back.request ∙ ap T.laws.request same ∙ request) (back.size ∙ ap T.laws.size same ∙ size) back.at first parts order left more)

pub returns-clause-list : goal.returns-clause-list
returns-clause-list g c =
    let T = g.T.PrefixSearch in
    let i = c.loop-levels.invariant in
    all_found T.laws c.args.search.now c.loop-levels.search c.loop-levels.levels c.args.list.now c.loop-levels.list i
    (λ s. of_first T.laws c.args.search.now c.loop-levels.search i.same_request i.same_size
    (λ V k. IsLeftAt T.laws V k c.loop-levels.search c.loop-levels.levels s → ⊥) (c.loop-levels-test.ensures.none s))
