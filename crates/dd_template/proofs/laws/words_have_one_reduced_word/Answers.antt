use Rattle.dd_template.proofs.ReducedLemmas.{reduced_is_reduced, reduced_stays, reduced_struck, reduced_exchanged}
use Rattle.dd_template.proofs.laws.words_have_one_reduced_word.Goals as goal

pub returns : goal.returns
returns c = record { reduced = reduced_is_reduced; stays = reduced_stays; struck = reduced_struck; exchanged = reduced_exchanged }
