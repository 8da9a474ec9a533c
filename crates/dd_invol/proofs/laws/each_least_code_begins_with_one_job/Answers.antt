use Rattle.dd_front_jobs.proofs.OpeningLaws.{covered, covered_once}
use Rattle.dd_invol.proofs.laws.each_least_code_begins_with_one_job.Goals as goal

pub returns-clause-exists : goal.returns-clause-exists
returns-clause-exists c = covered

pub returns-clause-unique : goal.returns-clause-unique
returns-clause-unique c = covered_once
