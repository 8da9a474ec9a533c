-- The exits of the code that reads a list.
use Rattle.std.proofs.Common.{◌≡◌, ℕ, List, [], ◌∷◌, ◌++◌, sym, ap, ◌∙◌, subst}
use Rattle.std.specs.Prelude.{map}
use Rattle.std.proofs.lemmas.List.{map_push}
use Rattle.dd_model.specs.declared.tokens.Placed.{Placed}
use Rattle.dd_model.specs.declared.tokens.Numeral.{Numeral}
use Rattle.dd_model.specs.Parts.{Cursor, Spells}
use Rattle.dd_model.specs.Spelling.{number_part, sign_part, with_list}
use Rattle.dd_model.proofs.ReadingParts.{spells-append}
use Rattle.dd_text.specs.Reader.{IsNextPart}

pub list_ends : (c d e : Cursor) (xs : List Numeral) (p : Placed) (s : ℕ) → Spells c (map number_part xs) d → IsNextPart d p e → p ≡ sign_part s p.at
    → Spells c (with_list (record { numbers = xs; end = p.at }) s []) e
list_ends c d e xs p s a n sign = spells-append c d e (map number_part xs) (sign_part s p.at ∷ []) a (sym n.part ∙ sign, sym n.rest)

pub one_more : (c d e : Cursor) (xs : List Numeral) (p : Placed) (x : Numeral) → Spells c (map number_part xs) d → IsNextPart d p e → p ≡ number_part x
    → (ys : List Numeral) → ys ≡ xs ++ x ∷ [] → Spells c (map number_part ys) e
one_more c d e xs p x a n number ys pushed =
    subst (λ zs. Spells c zs e) (sym (ap (map number_part) pushed ∙ map_push number_part xs x))
    (spells-append c d e (map number_part xs) (number_part x ∷ []) a (sym n.part ∙ number, sym n.rest))
