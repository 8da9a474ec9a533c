use Rattle.dd_words.proofs.Items.{item_added}
use Rattle.dd_words.proofs.sets.add_item.Goals as goal

pub returns-clause-added : goal.returns-clause-added
returns-clause-added c _ = item_added c.args.word.now c.in-Some.low c.in-Some.high c.args.set.now c.add_range.new.set c.in-Some.ensures.some c.add_range.ensures
