use Rattle.dd_symbol.proofs.RefusalLemmas.{not_accepted}
use Rattle.dd_symbol.proofs.RefusalRows.{refusal_unique}
use Rattle.dd_symbol.proofs.refusals.refusals_exclude_each_other.Goals as goal

pub returns : goal.returns
returns c = record { unique = refusal_unique; accepted = not_accepted }
