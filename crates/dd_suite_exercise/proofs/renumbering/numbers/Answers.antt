use Rattle.std.proofs.Common.{◌+◌, ◌∷◌, ◌++◌, [], ap, sym, ◌∙◌, add_comm}
use Rattle.dd_model.proofs.CountFrom.{count_from-more}
use Rattle.dd_model.specs.Code.{count_from}
use Rattle.dd_suite_exercise.proofs.renumbering.numbers.Goals as goal

pub loop-k-preserved : goal.loop-k-preserved
loop-k-preserved c =
    let k = c.loop-k.k in
    c.in_ok-push.ensures.items ∙ ap (λ xs. xs ++ (k + 1) ∷ []) c.loop-k.invariant ∙ ap (λ n. count_from 1 k ++ n ∷ []) (add_comm k 1) ∙ sym (count_from-more 1 k)
