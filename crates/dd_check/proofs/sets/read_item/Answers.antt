use Rattle.std.proofs.Common.{◌∙◌, ap}
use Rattle.dd_check.specs.Texts.{texts}
use Rattle.dd_check.proofs.WordReads.{item_told}
use Rattle.dd_check.proofs.sets.read_item.Goals as goal

pub returns : goal.returns
returns c =
    item_told c.item_of.result c.deref.result.now c.args.word.now (ap texts c.deref.ensures.value ∙ c.in_ok-ends.ensures) c.item_of.ensures
