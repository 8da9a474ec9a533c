use Rattle.dd_model.proofs.LeastForms.{member_exists, member_unique}
use Rattle.dd_model.proofs.least_form_laws.each_wanted_symbol_has_one_member.Goals as goal

pub returns : goal.returns
returns c = record {
  exists = member_exists;
  unique = λ q ss s t u cat wanted. member_unique q ss s t u cat wanted.symbol;
}
