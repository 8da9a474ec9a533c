use Rattle.std.proofs.Common.{◌++◌, take, append_assoc, ap, ◌∙◌}
use Rattle.std.specs.List.{flat_map}
use Rattle.dd_suite_commands.specs.Totals.{total_text, counted_in}
use Rattle.dd_suite_commands.proofs.TotalsSteps.{totals_taken}
use Rattle.dd_suite_commands.proofs.totals.Totals.put.Goals as goal

pub loop-place-preserved : goal.loop-place-preserved
loop-place-preserved c =
    let es = counted_in c.args.self.now in
    let i = c.loop-place.place in
    let count = c.entry_at-count.result in
    let line = total_text c.args.word.now in
    c.in_ok-put_total.ensures.line ∙ ap (λ t. t ++ line (count.0.now, count.1)) c.loop-place.invariant
    ∙ append_assoc c.args.out.now.items (flat_map line (take i es)) (line (count.0.now, count.1))
    ∙ ap (λ t. c.args.out.now.items ++ t) (totals_taken c.args.word.now es i (count.0.now, count.1) c.entry_at-count.ensures)

pub returns-clause-longer : goal.returns-clause-longer
returns-clause-longer c = record { rest = _; text = c.loop-place.invariant }
