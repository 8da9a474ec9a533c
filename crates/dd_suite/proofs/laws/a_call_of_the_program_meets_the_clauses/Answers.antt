use Rattle.dd_suite.proofs.ProgramCalls.{program_meets}
use Rattle.dd_suite.proofs.laws.a_call_of_the_program_meets_the_clauses.Goals as goal

pub returns : goal.returns
returns c = program_meets
