use Rattle.dd_template.proofs.ActLemmas.{composed-reduced, act-part}
use Rattle.dd_template.proofs.made_laws.words_act_by_their_reduced_words.Goals as goal

pub returns : goal.returns
returns c = record { reduced = composed-reduced; part = act-part }
