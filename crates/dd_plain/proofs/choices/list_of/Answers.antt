use Rattle.std.proofs.Common.{◌+◌, ◌-◌, ◌/◌, ◌%◌, ◌++◌, length, slice_index, ap, ◌∙◌, arith}
use Rattle.std.proofs.lemmas.List.{length_push}
use Rattle.dd_plain.specs.Choices.{choices}
use Rattle.dd_plain.proofs.ChoiceLemmas.{choices-more}
use Rattle.dd_plain.proofs.choices.list_of.Goals as goal

pub loop-preserved : goal.loop-preserved
loop-preserved c =
    let table = c.args.table.now in
    let item = slice_index table (c.loop.rest % length table) in
    record {
      length = ap length c.in_ok-push.ensures.items ∙ length_push c.loop.list.items item ∙ ap (λ n. n + 1) c.loop.invariant.length;
      items =
          ap (λ xs. xs ++ choices table (c.args.count - (c.loop.counter + 1)) (c.loop.rest / length table)) c.in_ok-push.ensures.items
          ∙ choices-more table c.loop.list.items c.args.count c.loop.counter c.loop.rest (omega arith)
          ∙ c.loop.invariant.items;
    }
