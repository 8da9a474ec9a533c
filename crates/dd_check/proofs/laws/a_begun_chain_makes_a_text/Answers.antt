use Rattle.dd_check.proofs.FoundRuns.{found_text}
use Rattle.dd_check.proofs.laws.a_begun_chain_makes_a_text.Goals as goal

pub returns : goal.returns
returns c = found_text
