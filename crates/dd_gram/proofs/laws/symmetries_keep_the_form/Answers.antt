use Rattle.dd_gram.proofs.KeptForms.{form_kept}
use Rattle.dd_gram.proofs.laws.symmetries_keep_the_form.Goals as goal

pub returns : goal.returns
returns c t f m g is acts = form_kept t f m g is acts
