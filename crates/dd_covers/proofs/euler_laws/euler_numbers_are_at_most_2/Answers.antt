use Rattle.dd_covers.proofs.EulerLemmas.{euler_bound}
use Rattle.dd_covers.proofs.euler_laws.euler_numbers_are_at_most_2.Goals as goal

pub returns : goal.returns
returns c = euler_bound
