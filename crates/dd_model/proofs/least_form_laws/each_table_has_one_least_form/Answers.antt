use Rattle.dd_model.proofs.Isomorphisms.{Isomorphic-refl}
use Rattle.dd_model.proofs.LeastForms.{least_form_exists, least_form_numbered, least_first_visit, same_table_forms}
use Rattle.dd_model.proofs.least_form_laws.each_table_has_one_least_form.Goals as goal

pub returns : goal.returns
returns c = record {
  exists = least_form_exists;
  unique = λ s t u is a b. (same_table_forms s s t u is is a b).1 (Isomorphic-refl s is);
  numbered = λ s t is con form. let a = least_form_numbered s t is con form in (a.start, a.chamber, a.numbered);
  first_visit = least_first_visit;
}
