use Rattle.dd_check.proofs.ChainRests.{rest_is_text, text_is_rest}
use Rattle.dd_check.proofs.laws.the_lines_to_the_end_are_the_text.Goals as goal

pub returns-clause-same : goal.returns-clause-same
returns-clause-same c = rest_is_text

pub returns-clause-lines : goal.returns-clause-lines
returns-clause-lines c = text_is_rest
