use Rattle.dd_gram.proofs.KeptForms.{form_positive, form_definite}
use Rattle.dd_gram.proofs.laws.a_form_is_positive.Goals as goal

pub returns-clause-positive : goal.returns-clause-positive
returns-clause-positive c t g torus is = form_positive t g torus is

pub returns-clause-definite : goal.returns-clause-definite
returns-clause-definite c t g torus is = form_definite t g torus is
