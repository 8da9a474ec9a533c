use Rattle.dd_model.proofs.Codes.{code_cmp_total, same_from_code_cmp}
use Rattle.dd_model.proofs.symbol_laws.order_is_total.Goals as goal

pub returns : goal.returns
returns c = record { total = code_cmp_total; equal = same_from_code_cmp }
