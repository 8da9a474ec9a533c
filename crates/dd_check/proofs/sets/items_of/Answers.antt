use Rattle.std.proofs.Common.{◌+◌, take, sym, subst}
use Rattle.dd_check.specs.Texts.{texts}
use Rattle.dd_check.specs.Sets.{item_text}
use Rattle.dd_check.specs.Rows.{IsShortItem}
use Rattle.dd_check.proofs.SetReads.{TellsEach}
use Rattle.dd_check.proofs.WordReads.{items_more, items_none, items_all}
use Rattle.dd_check.proofs.sets.items_of.Goals as goal

pub returns-in-None : goal.returns-in-None
returns-in-None c =
    let none = rw c.in-None.is at c.in_ok-item.ensures in
    items_none c.args.words.now c.loop-word.word-index _ c.loop-word-test.true none

pub loop-word-preserved : goal.loop-word-preserved
loop-word-preserved c =
    let ws = c.args.words.now in
    let some = rw c.in-Some.is at c.in_ok-item.ensures in
    subst (λ items. TellsEach item_text IsShortItem (take (c.loop-word.word-index + 1) (texts ws)) items) (sym c.in_ok-push-in-Some.ensures.items)
    (items_more ws c.loop-word.word-index _ c.loop-word.items.items c.in-Some.item c.loop-word-test.true some c.loop-word.invariant)

pub returns : goal.returns
returns c = items_all c.args.words.now c.loop-word.word-index c.loop-word.items.items c.loop-word-test.false c.loop-word.invariant
