use Rattle.std.proofs.Common.{◌∷◌, ◌<◌, ◌≤◌, ◌^◌, length, sym, subst, arith, rules}
use Rattle.dd_branch_tables.specs.Levels.{weight}
use Rattle.dd_branch_tables.specs.declared.level.Level.{Level}
use Rattle.dd_branch_tables.proofs.Prefixes.{not_whole}
use Rattle.dd_branch_tables.proofs.Weights.{lighter_popped, lighter_tried, lighter_entered}
use Rattle.dd_branch_tables.proofs.LevelSteps.{few_levels}
use Rattle.dd_branch_tables.proofs.Advances.{HasCome, HasEntered, came_dead, came_in, came_on, comes_first}
use Rattle.dd_branch_tables.proofs.search_steps.advance.Goals as goal

pub loop-number-smaller-in_default-take_first : goal.loop-number-smaller-in_default-take_first
loop-number-smaller-in_default-take_first g c =
    subst (λ ls. weight ls < weight (c.loop-number.level ∷ c.loop-number.levels)) c.in-Some-pop.ensures.level (lighter_popped c.loop-number.level c.loop-number.levels c.in_default-take_first.ensures)

pub loop-number-preserved : goal.loop-number-preserved
loop-number-preserved g c =
    let T = g.T.PrefixSearch in
    let S = c.loop-number.search in
    let S0 = c.args.search.now in
    let L0 = c.args.levels.now in
    let level = c.loop-number.level in
    let levels = c.loop-number.levels in
    let come = c.loop-number.invariant in
    let taken = c.in-Some-take_first.ensures in
    subst (λ s. HasCome T.laws S0 L0 s (record { mark = level.mark; left = c.take_first.new.self } ∷ levels)) (sym c.if-enter.ensures.same)
    (came_dead T.laws S0 S L0 levels level c.in-Some-take_first.number c.take_first.new.self (g.met.T.PrefixSearch.end_small (T.laws.size c.args.search.now)) come taken c.if-enter.ensures.dead)

pub loop-number-smaller : goal.loop-number-smaller
loop-number-smaller g c =
    let T = g.T.PrefixSearch in
    let S = c.loop-number.search in
    let S0 = c.args.search.now in
    let L0 = c.args.levels.now in
    let level = c.loop-number.level in
    let levels = c.loop-number.levels in
    let come = c.loop-number.invariant in
    let taken = c.in-Some-take_first.ensures in
    lighter_tried level (record { mark = level.mark; left = c.take_first.new.self }) levels taken.fewer

pub push-requires : goal.push-requires
push-requires g c =
    let T = g.T.PrefixSearch in
    let S = c.loop-number.search in
    let S0 = c.args.search.now in
    let L0 = c.args.levels.now in
    let level = c.loop-number.level in
    let levels = c.loop-number.levels in
    let come = c.loop-number.invariant in
    let taken = c.in-Some-take_first.ensures in
    let few = few_levels T.laws S levels come.at.1 in
    let room = come.at.0.room in
    let bound : T.laws.end (T.laws.size S) ≤ 108 = subst (λ n. T.laws.end n ≤ 108) c.if-enter.ensures.alive.same_size c.is_whole-is_whole.ensures.few in
    omega (arith, few, room, bound)

pub returns-then-is_whole-clause-beyond : goal.returns-then-is_whole-clause-beyond
returns-then-is_whole-clause-beyond g c =
    let T = g.T.PrefixSearch in
    let S = c.loop-number.search in
    let S0 = c.args.search.now in
    let L0 = c.args.levels.now in
    let level = c.loop-number.level in
    let levels = c.loop-number.levels in
    let come = c.loop-number.invariant in
    let taken = c.in-Some-take_first.ensures in
    let entered = subst (λ ls. HasEntered T.laws S0 L0 c.enter.new.self ls) (sym c.push.ensures)
    (came_in T.laws S0 S c.enter.new.self L0 levels level c.in-Some-take_first.number c.take_first.new.self
    (g.met.T.PrefixSearch.end_small (T.laws.size c.args.search.now)) come taken c.if-enter.ensures.alive c.if-enter.ensures.undone) in
    entered.beyond

pub returns-then-is_whole-clause-left : goal.returns-then-is_whole-clause-left
returns-then-is_whole-clause-left g c =
    let T = g.T.PrefixSearch in
    let S = c.loop-number.search in
    let S0 = c.args.search.now in
    let L0 = c.args.levels.now in
    let level = c.loop-number.level in
    let levels = c.loop-number.levels in
    let come = c.loop-number.invariant in
    let taken = c.in-Some-take_first.ensures in
    let entered = subst (λ ls. HasEntered T.laws S0 L0 c.enter.new.self ls) (sym c.push.ensures)
    (came_in T.laws S0 S c.enter.new.self L0 levels level c.in-Some-take_first.number c.take_first.new.self
    (g.met.T.PrefixSearch.end_small (T.laws.size c.args.search.now)) come taken c.if-enter.ensures.alive c.if-enter.ensures.undone) in
    entered.left

pub returns-then-is_whole-clause-order : goal.returns-then-is_whole-clause-order
returns-then-is_whole-clause-order g c =
    let T = g.T.PrefixSearch in
    let S = c.loop-number.search in
    let S0 = c.args.search.now in
    let L0 = c.args.levels.now in
    let level = c.loop-number.level in
    let levels = c.loop-number.levels in
    let come = c.loop-number.invariant in
    let taken = c.in-Some-take_first.ensures in
    let entered = subst (λ ls. HasEntered T.laws S0 L0 c.enter.new.self ls) (sym c.push.ensures)
    (came_in T.laws S0 S c.enter.new.self L0 levels level c.in-Some-take_first.number c.take_first.new.self
    (g.met.T.PrefixSearch.end_small (T.laws.size c.args.search.now)) come taken c.if-enter.ensures.alive c.if-enter.ensures.undone) in
    comes_first T.laws S0 c.enter.new.self L0 c.push.new.self (g.met.T.PrefixSearch.end_small (T.laws.size c.args.search.now)) entered

pub returns-then-is_whole-clause-lighter : goal.returns-then-is_whole-clause-lighter
returns-then-is_whole-clause-lighter g c =
    let T = g.T.PrefixSearch in
    let S = c.loop-number.search in
    let S0 = c.args.search.now in
    let L0 = c.args.levels.now in
    let level = c.loop-number.level in
    let levels = c.loop-number.levels in
    let come = c.loop-number.invariant in
    let taken = c.in-Some-take_first.ensures in
    let entered = subst (λ ls. HasEntered T.laws S0 L0 c.enter.new.self ls) (sym c.push.ensures)
    (came_in T.laws S0 S c.enter.new.self L0 levels level c.in-Some-take_first.number c.take_first.new.self
    (g.met.T.PrefixSearch.end_small (T.laws.size c.args.search.now)) come taken c.if-enter.ensures.alive c.if-enter.ensures.undone) in
    entered.lighter

pub loop-number-smaller-then-enter : goal.loop-number-smaller-then-enter
loop-number-smaller-then-enter g c =
    let T = g.T.PrefixSearch in
    let S = c.loop-number.search in
    let S0 = c.args.search.now in
    let L0 = c.args.levels.now in
    let level = c.loop-number.level in
    let levels = c.loop-number.levels in
    let come = c.loop-number.invariant in
    let taken = c.in-Some-take_first.ensures in
    let few = few_levels T.laws S levels come.at.1 in
    let room = come.at.0.room in
    let bound : T.laws.end (T.laws.size S) ≤ 108 = subst (λ n. T.laws.end n ≤ 108) c.if-enter.ensures.alive.same_size c.is_whole-is_whole.ensures.few in
    let small : c.candidates.result.bits < 2 ^ 64 = search rules in
    let later : Level = record { mark = level.mark; left = c.take_first.new.self } in
    let new : Level = record { mark = c.mark.result; left = c.candidates.result } in
    let falls : weight (new ∷ c.push.new.self) < weight (level ∷ levels) = subst (λ ls. weight (new ∷ ls) < weight (level ∷ levels)) (sym c.push.ensures)
    (lighter_entered level later new levels taken.fewer small (omega (arith, few, room, bound))) in
    falls

pub loop-number-preserved-then-enter : goal.loop-number-preserved-then-enter
loop-number-preserved-then-enter g c =
    let T = g.T.PrefixSearch in
    let S = c.loop-number.search in
    let S0 = c.args.search.now in
    let L0 = c.args.levels.now in
    let level = c.loop-number.level in
    let levels = c.loop-number.levels in
    let come = c.loop-number.invariant in
    let taken = c.in-Some-take_first.ensures in
    let entered = subst (λ ls. HasEntered T.laws S0 L0 c.enter.new.self ls) (sym c.push.ensures)
    (came_in T.laws S0 S c.enter.new.self L0 levels level c.in-Some-take_first.number c.take_first.new.self
    (g.met.T.PrefixSearch.end_small (T.laws.size c.args.search.now)) come taken c.if-enter.ensures.alive c.if-enter.ensures.undone) in
    let few = few_levels T.laws S levels come.at.1 in
    let room = come.at.0.room in
    let bound : T.laws.end (T.laws.size S) ≤ 108 = subst (λ n. T.laws.end n ≤ 108) c.if-enter.ensures.alive.same_size c.is_whole-is_whole.ensures.few in
    let small : c.candidates.result.bits < 2 ^ 64 = search rules in
    let later : Level = record { mark = level.mark; left = c.take_first.new.self } in
    let new : Level = record { mark = c.mark.result; left = c.candidates.result } in
    let falls : weight (new ∷ c.push.new.self) < weight (level ∷ levels) = subst (λ ls. weight (new ∷ ls) < weight (level ∷ levels)) (sym c.push.ensures)
    (lighter_entered level later new levels taken.fewer small (omega (arith, few, room, bound))) in
    let before = come.lighter in
    let size = sym c.if-enter.ensures.alive.same_size in
    let short = subst (λ n. length (T.laws.prefix c.enter.new.self) ≤ T.laws.end n) size c.if-enter.ensures.alive.short in
    let inside = not_whole c.is_whole-is_whole.result (length (T.laws.prefix c.enter.new.self)) (T.laws.end (T.laws.size c.enter.new.self)) c.if-is_whole.false c.is_whole-is_whole.ensures.whole short in
    came_on T.laws S0 c.enter.new.self L0 c.push.new.self new
    (g.met.T.PrefixSearch.end_small (T.laws.size c.args.search.now)) c.enter.ensures.valid entered c.mark.ensures inside c.candidates.ensures (omega (arith, falls, before))
