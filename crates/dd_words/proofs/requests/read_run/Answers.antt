use Rattle.dd_words.proofs.requests.read_run.Goals as goal
use Rattle.dd_model.proofs.Options.{given_none}

pub returns-in_err-workers-clause-none : goal.returns-in_err-workers-clause-none
returns-in_err-workers-clause-none c =
    given_none c.from_residual.result c.from_residual.ensures (λ pace pause h. c.in_err-workers.ensures.none pace.workers h.workers_are)

pub returns-in_err-round-clause-none : goal.returns-in_err-round-clause-none
returns-in_err-round-clause-none c =
    given_none c.from_residual-in_err-round.result c.from_residual-in_err-round.ensures (λ pace pause h. c.in_err-round.ensures.none pace.round h.round_is)
