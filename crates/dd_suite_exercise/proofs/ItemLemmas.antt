-- Items, one after the other.
use Rattle.std.proofs.Common.{◌≡◌, ◌≤◌, ℕ, ◌+◌, ◌-◌, List, [], ◌∷◌, ◌++◌, refl, ap, ◌∙◌, arith}
use Rattle.dd_model.specs.Symbol.{Symbol}
use Rattle.dd_model.specs.Code.{IsLeastForm}
use Rattle.dd_model.specs.Isomorphic.{IsIsomorphism}
use Rattle.dd_suite_exercise.specs.Draws.{after_draws}
use Rattle.dd_suite_exercise.specs.Items.{IsItem, AreItems, after_item, after_items}
use Rattle.dd_suite_exercise.specs.Renumbering.{renumbering}
use Rattle.dd_suite_exercise.proofs.DrawLemmas.{draws_joined}

-- one item more
pub items_more : (seeds : List Symbol) (z : ℕ) (ss : List Symbol) (s : Symbol) → AreItems seeds z ss → IsItem seeds (after_items z ss) s → AreItems seeds z (ss ++ s ∷ [])
items_more seeds z [] s a is = (is, tt)
items_more seeds z (t ∷ ss) s a is = (a.0, items_more seeds (after_item z t) ss s a.1 is)

pub after_more : (z : ℕ) (ss : List Symbol) (s : Symbol) → after_items z (ss ++ s ∷ []) ≡ after_item (after_items z ss) s
after_more z [] s = refl
after_more z (t ∷ ss) s = after_more (after_item z t) ss s

pub item_draws : (z : ℕ) (cover renumbered form : Symbol) (list : List ℕ) (y x : ℕ) → 1 ≤ cover.size → y ≡ after_draws 4 z → x ≡ after_draws (cover.size - 1) y
    → IsIsomorphism cover renumbered list → IsLeastForm renumbered form → x ≡ after_item z form
item_draws z cover renumbered form list y x some at is iso least =
    let size = iso.size in
    let same = least.renumbering.1.size in
    is ∙ ap (after_draws (cover.size - 1)) at ∙ draws_joined 4 (cover.size - 1) (form.size + 3) z (omega (arith, some, size, same))
