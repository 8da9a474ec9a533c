use Rattle.std.proofs.Common.{◌+◌, ◌-◌, ◌*◌, [], ◌∷◌, get_or, sym, ap, ◌∙◌, subst}
use Rattle.dd_model.specs.Symbol.{IsChamber, item}
use Rattle.dd_model.specs.Code.{images}
use Rattle.dd_symbol.specs.Images.{column, of_code}
use Rattle.dd_numbers.specs.Numbers.{lent_items}
use Rattle.dd_symbol.proofs.TableLemmas.{item-first, item-column}
use Rattle.dd_symbol.proofs.symbol_ref.SymbolRef.images.Goals as goal

pub returns : goal.returns
returns c =
    let n = c.self.inside.size in
    let xs = lent_items c.self.inside.numbers in
    let d = c.args.chamber in
    let row = 3 * (d - 1) in
    let here : IsChamber (of_code n xs) d = subst (λ t. IsChamber t d) (sym c.self.view_is) c.requires in
    c.three_from.ensures
    ∙ sym (ap (λ x. x ∷ item (column xs 1 n) d ∷ item (column xs 2 n) d ∷ []) (item-first xs n d here.0 here.1)
    ∙ ap (λ x. get_or xs row 0 ∷ x ∷ item (column xs 2 n) d ∷ []) (item-column xs 1 n d here.0 here.1)
    ∙ ap (λ x. get_or xs row 0 ∷ get_or xs (row + 1) 0 ∷ x ∷ []) (item-column xs 2 n d here.0 here.1))
    ∙ ap (λ t. images t d) c.self.view_is
