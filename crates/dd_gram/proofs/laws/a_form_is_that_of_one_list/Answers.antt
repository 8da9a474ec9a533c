use Rattle.dd_gram.proofs.KeptForms.{form_unique}
use Rattle.dd_gram.proofs.laws.a_form_is_that_of_one_list.Goals as goal

pub returns : goal.returns
returns c t g h torus is are = form_unique t g h torus is are
