use Rattle.std.proofs.Common.{max, get_or, take, sym, ap, ◌∙◌, arith}
use Rattle.std.proofs.lemmas.List.{take_more}
use Rattle.dd_front_jobs.specs.FirstVisit.{greatest}
use Rattle.dd_front_jobs.proofs.Growth.{greatest_push}
use Rattle.dd_front_jobs.proofs.numbering.greatest.Goals as goal

pub loop-number-preserved : goal.loop-number-preserved
loop-number-preserved c =
    let xs = c.args.numbers.now in
    let i = c.loop-number.number-index in
    c.max-most.ensures ∙ ap (λ m. max m (get_or xs i 0)) c.loop-number.invariant ∙ sym (greatest_push (take i xs) (get_or xs i 0)) ∙ ap greatest (sym (take_more xs i 0 (omega arith)))
