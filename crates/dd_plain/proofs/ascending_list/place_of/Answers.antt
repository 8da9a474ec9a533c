use Rattle.std.proofs.Common.{◌≡◌, sym, ap, ◌∙◌, subst}
use Rattle.dd_model.specs.Code.{code_cmp, IsBelow}
use Rattle.std.specs.declared.cmp.Ordering.TheVariants.{Equal, Greater}
use Rattle.std.proofs.lemmas.List.{get_or_default}
use Rattle.dd_model.proofs.Codes.{same_from_code_cmp}
use Rattle.dd_plain.proofs.AscendingLemmas.{above-from, greater_is_above}
use Rattle.dd_plain.proofs.ascending_list.place_of.Goals as goal

pub returns-in-Equal-clause-found : goal.returns-in-Equal-clause-found
returns-in-Equal-clause-found c =
    let other = c.index-list-k.result in
    let symbol = c.args.symbol.now in
    let order : code_cmp other symbol ≡ Equal =
    ap (λ x. code_cmp x symbol) (sym c.symbol.ensures.same) ∙ ap (code_cmp c.symbol.result.now) (sym c.symbol-in-loop-k.ensures.same) ∙ sym c.cmp_code.ensures ∙ c.in-Equal.is in
    let same = same_from_code_cmp other symbol c.symbol.ensures.symbol.symbol.table c.symbol-in-loop-k.ensures.symbol.symbol.table order in
    (c.loop-k.k, c.loop-k-test.true, get_or_default c.args.list.now c.loop-k.k symbol other c.loop-k-test.true ∙ sym c.index-list-k.is ∙ same)

pub returns-in-Greater-clause-above : goal.returns-in-Greater-clause-above
returns-in-Greater-clause-above c =
    let other = c.index-list-k.result in
    let symbol = c.args.symbol.now in
    let order : code_cmp other symbol ≡ Greater =
    ap (λ x. code_cmp x symbol) (sym c.symbol.ensures.same) ∙ ap (code_cmp c.symbol.result.now) (sym c.symbol-in-loop-k.ensures.same) ∙ sym c.cmp_code.ensures ∙ c.in-Greater.is in
    above-from c.args.symbol.now c.args.list.now c.loop-k.k c.index-list-k.result c.requires c.loop-k-test.true
    (subst (IsBelow symbol) c.index-list-k.is (greater_is_above other symbol order))
