use Rattle.dd_plain.proofs.ChoiceLemmas.{numbered}
use Rattle.dd_plain.proofs.choices.each_list_has_a_number.Goals as goal

pub returns : goal.returns
returns c table xs items = let n = numbered table xs items in (n.number, n.below, n.items)
