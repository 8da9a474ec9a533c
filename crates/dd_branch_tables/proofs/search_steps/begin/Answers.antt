use Rattle.std.proofs.Common.{◌∷◌, ap, ◌∙◌, arith}
use Rattle.dd_branch_tables.specs.declared.level.Level.{Level}
use Rattle.dd_branch_tables.proofs.Advances.{through}
use Rattle.dd_branch_tables.proofs.LevelSteps.{all_to_try, at_one}
use Rattle.dd_branch_tables.proofs.search_steps.begin.Goals as goal

pub returns-clause-left : goal.returns-clause-left
returns-clause-left g c s =
    let T = g.T.PrefixSearch in
    let S = c.args.search.now in
    let W = T.laws.wanted (T.laws.request S) in
    let room = c.requires.room in
    let end = g.met.T.PrefixSearch.end_small (T.laws.size S) in
    let level : Level = record { mark = c.mark.result; left = c.candidates.result } in
    through
    (all_to_try W (T.laws.size S) (T.laws.prefix S) c.candidates.result s (omega (arith, room, end)) c.candidates.ensures)
    (at_one T.laws W (T.laws.size S) S c.push.new.self level (c.push.ensures ∙ ap (λ ls. level ∷ ls) c.none-levels.ensures) s)
