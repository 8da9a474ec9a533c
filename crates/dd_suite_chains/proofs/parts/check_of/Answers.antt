use Rattle.dd_suite_chains.proofs.PartLemmas.{no_check}
use Rattle.dd_suite_chains.proofs.parts.check_of.Goals as goal

pub returns-in_default : goal.returns-in_default
returns-in_default c = no_check c.args.text.now c.in-Err.fault (c.in-Err.ensures.fault c.in_default.not-Memory)
