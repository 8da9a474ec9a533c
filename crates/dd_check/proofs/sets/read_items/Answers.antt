use Rattle.std.proofs.Common.{◌∙◌, ap}
use Rattle.std.proofs.lemmas.Result.{IfOk-weaker}
use Rattle.dd_check.specs.Texts.{texts}
use Rattle.dd_check.proofs.WordReads.{set_word_told}
use Rattle.dd_check.proofs.sets.read_items.Goals as goal

pub returns : goal.returns
returns c =
    IfOk-weaker c.items_of.result _ _
    (λ told h. set_word_told told c.args.word.now (texts c.deref.result.now) (ap texts c.deref.ensures.value ∙ c.in_ok-words.ensures) h)
    c.items_of.ensures
