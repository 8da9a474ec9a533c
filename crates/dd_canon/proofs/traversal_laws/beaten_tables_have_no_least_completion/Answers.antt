use Rattle.dd_model.proofs.LeastForms.{least_as_table}
use Rattle.dd_canon.proofs.PartialTraversals.{no_least_completion}
use Rattle.dd_canon.proofs.traversal_laws.beaten_tables_have_no_least_completion.Goals as goal

pub returns : goal.returns
returns c = record {
  table = λ partial s order number k rest tr full. no_least_completion partial order number k rest tr s full;
  symbol = λ partial s order number k rest tr full is least. no_least_completion partial order number k rest tr s full (least_as_table s is least);
}
