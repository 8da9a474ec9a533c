use Rattle.std.proofs.Common.{◌≡◌, ◌+◌, ◌-◌, ◌++◌, [], ◌∷◌, map, take, get_or, sym, ap, ◌∙◌, arith}
use Rattle.std.proofs.lemmas.List.{take_more, map-append}
use Rattle.dd_model.specs.Symbol.{degree}
use Rattle.dd_symbol.specs.Table.{symbol_of}
use Rattle.dd_symbol.proofs.code_table.CodeTable.degrees_in.Goals as goal

pub loop-k-preserved : goal.loop-k-preserved
loop-k-preserved c =
    let k = c.loop-k.k in
    let back = c.args.back.now in
    let f = degree (symbol_of c.args.self.now) c.args.pair in
    let place : k + 1 - 1 ≡ k = omega arith in
    let one : c.degree.result ≡ f (get_or back k 0) = c.degree.ensures ∙ ap (λ t. degree t c.args.pair c.item.result) c.lend-own.ensures ∙ ap f (c.item.ensures ∙ ap (λ j. get_or back j 0) place) in
    let more : map f (take (k + 1) back) ≡ map f (take k back) ++ f (get_or back k 0) ∷ [] =
    ap (map f) (take_more back k 0 (omega arith)) ∙ map-append f (take k back) (get_or back k 0 ∷ []) in
    c.in_ok-push.ensures.items ∙ ap (λ xs. xs ++ c.degree.result ∷ []) c.loop-k.invariant ∙ ap (λ x. map f (take k back) ++ x ∷ []) one ∙ sym more
