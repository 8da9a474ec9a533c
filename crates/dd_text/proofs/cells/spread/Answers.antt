use Rattle.std.proofs.Common.{◌++◌, ◌∷◌, [], map, take, sym, ap, ◌∙◌}
use Rattle.std.proofs.lemmas.List.{map_more, take_all}
use Rattle.dd_model.specs.Symbol.{item}
use Rattle.dd_text.proofs.cells.spread.Goals as goal

pub loop-chamber-preserved : goal.loop-chamber-preserved
loop-chamber-preserved c =
    let f = item c.args.told.now in
    let i = c.loop-chamber.chamber-index in
    c.in_ok-push.ensures.items ∙ ap (λ xs. xs ++ c.item.result ∷ []) c.loop-chamber.invariant
    ∙ ap (λ x. map f (take i c.args.least.now) ++ x ∷ []) c.item.ensures ∙ sym (map_more f c.args.least.now i 0 c.loop-chamber-test.true)

pub returns-clause-ok : goal.returns-clause-ok
returns-clause-ok c = c.loop-chamber.invariant ∙ ap (map (item c.args.told.now)) (take_all c.loop-chamber.chamber-index c.args.least.now c.loop-chamber-test.false)
