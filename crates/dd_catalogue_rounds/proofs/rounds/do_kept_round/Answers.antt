use Rattle.std.proofs.Common.{◌≤◌, arith}
use Rattle.std.proofs.lemmas.Result.{IfOk-weaker}
use Rattle.dd_catalogue_rounds.proofs.PlainRuns.{kept_group_after}
use Rattle.dd_catalogue_rounds.proofs.rounds.do_kept_round.Goals as goal

pub returns-clause-round : goal.returns-clause-round
returns-clause-round g c =
    let low : c.with_round-few.result.round ≤ c.args.pace.round = omega (arith, c.with_round-few.ensures.round_is, c.few_ahead.ensures.few, c.few_ahead.ensures.some, c.round.ensures.round) in
    IfOk-weaker c.do_round.result _ _
    (λ more round. kept_group_after (g.F.Finder.request c.args.finder.now) c.args.front.now c.split_large.new.front c.do_round.new.front c.with_round-few.result.round c.args.pace.round more low c.in_ok-split_large.ensures.refined round)
    c.do_round.ensures.round
