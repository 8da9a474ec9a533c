use Rattle.dd_model.proofs.LeastForms.{symbol_form_exists, least_form_numbered, form_as_table, same_least_forms, least_as_table, least_as_symbol}
use Rattle.dd_model.proofs.least_form_laws.each_symbol_has_a_least_form.Goals as goal

pub returns : goal.returns
returns c = record {
  exists = symbol_form_exists;
  numbered = λ s t is con form. let a = least_form_numbered s t is.table con (form_as_table s t form) in (a.start, a.chamber, a.numbered);
  isomorphic = same_least_forms;
  as_table = λ s is. (least_as_table s is, least_as_symbol s);
}
