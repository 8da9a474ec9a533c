use Rattle.dd_model.proofs.LeastForms.{numbered_unique, numbered_wins, not_above}
use Rattle.dd_model.proofs.Numberings.{numbered_from}
use Rattle.dd_model.proofs.least_form_laws.each_start_has_one_numbering.Goals as goal

pub returns : goal.returns
returns c = record {
  exists = numbered_from;
  unique = numbered_unique;
  least = λ s t u start f is con h a iu iso one. not_above t u (numbered_wins s t u start f is con h a iu iso one);
}
