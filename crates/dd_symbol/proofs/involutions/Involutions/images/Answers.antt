use Rattle.std.proofs.Common.{◌+◌, ◌-◌, ◌*◌, [], ◌∷◌, get_or, sym, ap, ◌∙◌, subst}
use Rattle.dd_model.specs.Symbol.{IsChamber, item}
use Rattle.dd_model.specs.Code.{images}
use Rattle.dd_symbol.specs.Images.{column, of_code, AreThreeInvolutions}
use Rattle.dd_symbol.proofs.TableLemmas.{item-first, item-column}
use Rattle.dd_symbol.proofs.involutions.Involutions.images.Goals as goal

pub returns-clause-images : goal.returns-clause-images
returns-clause-images c =
    let n = c.self.inside.rows.size in
    let xs = c.self.inside.rows.numbers in
    let d = c.args.chamber in
    let row = 3 * (d - 1) in
    let here : IsChamber (of_code n xs) d = subst (λ t. IsChamber t d) (sym c.self.view_is) c.requires in
    c.three_from.ensures
    ∙ ap (λ ys. get_or ys row 0 ∷ get_or ys (row + 1) 0 ∷ get_or ys (row + 2) 0 ∷ []) c.lend.ensures
    ∙ sym (ap (λ x. x ∷ item (column xs 1 n) d ∷ item (column xs 2 n) d ∷ []) (item-first xs n d here.0 here.1)
    ∙ ap (λ x. get_or xs row 0 ∷ x ∷ item (column xs 2 n) d ∷ []) (item-column xs 1 n d here.0 here.1)
    ∙ ap (λ x. get_or xs row 0 ∷ get_or xs (row + 1) 0 ∷ x ∷ []) (item-column xs 2 n d here.0 here.1))
    ∙ ap (λ t. images t d) c.self.view_is

pub returns-clause-within : goal.returns-clause-within
returns-clause-within c i = ((subst AreThreeInvolutions c.self.view_is c.self.invariant).involutions i).within c.args.chamber c.requires
