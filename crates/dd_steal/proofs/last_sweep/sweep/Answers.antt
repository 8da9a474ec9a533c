use Rattle.std.proofs.Common.{refl, ◌∙◌}
use Rattle.dd_steal.proofs.Steps.{swept_through}
use Rattle.dd_steal.proofs.last_sweep.sweep.Goals as goal

pub loop-init : goal.loop-init
loop-init g c = (c.in_ok-give_back.ensures.none, c.give_back.ensures.swept, refl)

pub loop-preserved : goal.loop-preserved
loop-preserved g c =
    (c.in_ok-do_next.ensures.none, swept_through _ _ _ c.loop.invariant.1 c.do_next.ensures.swept, c.do_next.ensures.request ∙ c.loop.invariant.2)

pub returns-in_err-do_next-clause-swept : goal.returns-in_err-do_next-clause-swept
returns-in_err-do_next-clause-swept g c = swept_through _ _ _ c.loop.invariant.1 c.do_next.ensures.swept

pub returns-clause-swept : goal.returns-clause-swept
returns-clause-swept g c = swept_through _ _ _ c.loop.invariant.1 c.do_next.ensures.swept
