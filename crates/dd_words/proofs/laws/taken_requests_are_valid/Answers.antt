use Rattle.dd_words.proofs.Validity.{valid}
use Rattle.dd_words.proofs.laws.taken_requests_are_valid.Goals as goal

pub returns : goal.returns
returns c = valid
