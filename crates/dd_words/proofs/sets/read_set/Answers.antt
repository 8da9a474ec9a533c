use Rattle.std.proofs.Common.{rules}
use Rattle.dd_words.proofs.Items.{so_far_more, so_far_all, no_set_parted, no_set_alone}
use Rattle.dd_words.proofs.sets.read_set.Goals as goal

pub returns-then-not-add_item-clause-none : goal.returns-then-not-add_item-clause-none
returns-then-not-add_item-clause-none c =
    no_set_parted c.args.word.now c.loop-item.rest.now c.in-Some.item.now c.in-Some.after.now c.loop-item.set c.in-Some.ensures.some
    (c.add_item.ensures.not_item c.if-not-add_item.true) c.loop-item.invariant.0

pub loop-item-preserved : goal.loop-item-preserved
loop-item-preserved c = (
  so_far_more c.args.word.now c.loop-item.rest.now c.in-Some.item.now c.in-Some.after.now c.loop-item.set c.add_item.new.set c.in-Some.ensures.some
      (c.add_item.ensures.added c.if-not-add_item.false) c.loop-item.invariant.0,
  search rules,
)

pub returns-then-not-add_item-2-clause-none : goal.returns-then-not-add_item-2-clause-none
returns-then-not-add_item-2-clause-none c =
    no_set_alone c.args.word.now c.loop-item.rest.now c.loop-item.set c.in_default.ensures.none
    (c.add_item-2.ensures.not_item c.if-not-add_item-2.true) c.loop-item.invariant.0

pub returns-clause-some : goal.returns-clause-some
returns-clause-some c =
    so_far_all c.args.word.now c.loop-item.rest.now c.loop-item.set c.add_item-2.new.set c.in_default.ensures.none
    (c.add_item-2.ensures.added c.if-not-add_item-2.false) c.loop-item.invariant.0
