-- The lines of a checkpoint, part by part.
use Rattle.std.proofs.Common.{◌≡◌, ℕ, List, [], ◌∷◌, ◌++◌, map, refl, sym, ap, ◌∙◌, append_assoc}
use Rattle.std.specs.Prelude.{decimal, codes}
use Rattle.std.specs.List.{flat_map}
use Rattle.std.proofs.lemmas.List.{append-nil}
use Rattle.dd_model.specs.Line.{after_space}
use Rattle.dd_check.specs.declared.checkpoint.Checkpoint.{Checkpoint}
use Rattle.dd_check.specs.declared.raw_values.Item.{Item}
use Rattle.dd_check.specs.Texts.{Text, line_text}
use Rattle.dd_check.specs.Rows.{number_row, limits_row, set_row, place_row}
use Rattle.dd_check.specs.Checks.{limits_of, check_text}
use Rattle.dd_check.proofs.JoinLemmas.{numbers_joined}

pub job_line : (old o1 o2 o3 : Text) (size : ℕ) (prefix : List ℕ) → o1 ≡ old ++ (codes "at " ++ decimal size) → o2 ≡ o1 ++ flat_map after_space prefix
    → o3 ≡ o2 ++ codes "\n" → o3 ≡ old ++ line_text (codes "at" ∷ decimal size ∷ map decimal prefix)
job_line old o1 o2 o3 size prefix e1 e2 e3 =
    e3 ∙ ap (λ z. z ++ codes "\n") (e2 ∙ ap (λ z. z ++ flat_map after_space prefix) e1)
    ∙ regrouped old (decimal size) (flat_map after_space prefix)
    ∙ ap (λ z. old ++ (z ++ codes "\n")) (sym (numbers_joined (codes "at") (size ∷ prefix)))
  where
    regrouped : (old a b : Text) → old ++ (codes "at " ++ a) ++ b ++ codes "\n" ≡ old ++ ((codes "at" ++ ((32 ∷ a) ++ b)) ++ codes "\n")
    regrouped old a b = simp append_assoc refl

pub set_line : (old o1 o2 o3 key items : Text) → o1 ≡ old ++ (key ++ codes " ") → o2 ≡ o1 ++ items → o3 ≡ o2 ++ codes "\n"
    → o3 ≡ old ++ line_text (key ∷ items ∷ [])
set_line old o1 o2 o3 key items e1 e2 e3 =
    e3 ∙ ap (λ z. z ++ codes "\n") (e2 ∙ ap (λ z. z ++ items) e1) ∙ regrouped old key items
  where
    regrouped : (old key items : Text) → old ++ (key ++ codes " ") ++ items ++ codes "\n" ≡ old ++ line_text (key ∷ items ∷ [])
    regrouped old key items = simp append_assoc refl

-- the whole text
pub check_lines : (old o1 o2 o3 o4 : Text) (c : Checkpoint) (faces degrees : List Item)
    → o1 ≡ old ++ codes "dressline checkpoint 2\n" ++ line_text (number_row (codes "run") c.run) ++ line_text (limits_row (limits_of c.request))
    → o2 ≡ o1 ++ line_text (set_row (codes "faces") faces) → o3 ≡ o2 ++ line_text (set_row (codes "degrees") degrees)
    → o4 ≡ o3 ++ line_text (number_row (codes "lines") c.lines) ++ line_text (number_row (codes "bytes") c.bytes) ++ line_text (place_row c.at)
    → o4 ≡ old ++ check_text c faces degrees
check_lines old o1 o2 o3 o4 c faces degrees e1 e2 e3 e4 =
    e4 ∙ ap (λ z. z ++ n ++ b ++ p) (e3 ∙ ap (λ z. z ++ d) (e2 ∙ ap (λ z. z ++ f) e1))
    ∙ regrouped old (codes "dressline checkpoint 2\n") r l f d n b p
  where
    r : Text
    r = line_text (number_row (codes "run") c.run)

    l : Text
    l = line_text (limits_row (limits_of c.request))

    f : Text
    f = line_text (set_row (codes "faces") faces)

    d : Text
    d = line_text (set_row (codes "degrees") degrees)

    n : Text
    n = line_text (number_row (codes "lines") c.lines)

    b : Text
    b = line_text (number_row (codes "bytes") c.bytes)

    p : Text
    p = line_text (place_row c.at)

    regrouped : (old h r l f d n b p : Text)
        → old ++ h ++ r ++ l ++ f ++ d ++ n ++ b ++ p ≡ old ++ (h ++ (r ++ (l ++ (f ++ (d ++ (n ++ (b ++ (p ++ []))))))))
    regrouped old h r l f d n b p = simp (append_assoc, append-nil) refl
