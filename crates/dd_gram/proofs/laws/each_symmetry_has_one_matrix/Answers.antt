use Rattle.dd_gram.proofs.Actions.{action_exists, action_unique}
use Rattle.dd_gram.proofs.laws.each_symmetry_has_one_matrix.Goals as goal

pub returns-clause-exists : goal.returns-clause-exists
returns-clause-exists c t net f torus is iso = action_exists t net f torus is iso

pub returns-clause-unique : goal.returns-clause-unique
returns-clause-unique c t f m n acts other = action_unique t f m n acts other
