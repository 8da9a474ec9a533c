use Rattle.dd_opword.proofs.SpelledWords.{one_op_word}
use Rattle.dd_opword.proofs.laws.texts_spell_one_word.Goals as goal

pub returns : goal.returns
returns c text w v a b = one_op_word text w v a b
