-- What the lines tell, the text stands for.
use Rattle.std.proofs.Common.{◌≡◌, ◌≢◌, ℕ, ◌-◌, ◌≤◌, List, [], ◌∷◌, ◌++◌, length, slice_index_or, refl, ap, ◌∙◌, arith}
use Rattle.std.specs.Prelude.{codes}
use Rattle.std.specs.List.{join_with_byte}
use Rattle.dd_model.specs.Allowed.{IsFrom}
use Rattle.dd_model.specs.Request.{HasNumber}
use Rattle.dd_model.specs.declared.allowed.Allowed.{Allowed}
use Rattle.dd_check.specs.declared.checkpoint.Checkpoint.{Checkpoint}
use Rattle.dd_check.specs.declared.raw_values.Item.{Item}
use Rattle.dd_check.specs.Texts.{Text, words_of, lines_of}
use Rattle.dd_check.specs.Sets.{low_of, AreItems, IsSetOf}
use Rattle.dd_check.specs.Rows.{number_row, limits_row, old_limits_row, set_row, place_row}
use Rattle.dd_check.specs.Checks.{limits_of, old_limits_of, check_text, old_check_text, StandsFor, OldStandsFor}
use Rattle.dd_check.specs.Faults.{Tells, IsNew, IsOld}
use Rattle.dd_check.specs.Readings.{TellsCheck, TellsOldCheck}
use Rattle.dd_check.proofs.JoinLemmas.{joined_parts, page_joined}
use Rattle.dd_check.proofs.SetReads.{number_first, ends_in_order}

-- the line that tells a value is the text of its row
line_is : {A : Type 0} (form : List Text → A → Type 0) (lines : List Text) (k : ℕ) (a : A) (row : List Text) (t : Tells form lines k a) → words_of t.line ≡ row
    → slice_index_or lines (k - 1) [] ≡ join_with_byte 32 row
line_is form lines k a row t e = t.is_line.line_is ∙ joined_parts 32 t.line row e

has_number : (items : List Item) (set : Allowed) → items ≢ [] → AreItems items → IsSetOf items set → HasNumber set
has_number [] set some are is = absurd (some refl)
has_number (item ∷ items) set some are is =
    (low_of item, (is (low_of item)).1 (number_first item items (low_of item) (omega arith, ends_in_order item are.each.0)))

has_number_from : (f : ℕ) (set : Allowed) → f ≤ 36 → IsFrom f set → HasNumber set
has_number_from f set small is = (f, (is f).1 (omega arith, omega arith))

nine_lines : (xs : List Text) → length xs ≡ 9 → (a b c d e f g h i : Text) → slice_index_or xs 0 [] ≡ a → slice_index_or xs 1 [] ≡ b → slice_index_or xs 2 [] ≡ c
    → slice_index_or xs 3 [] ≡ d → slice_index_or xs 4 [] ≡ e → slice_index_or xs 5 [] ≡ f → slice_index_or xs 6 [] ≡ g → slice_index_or xs 7 [] ≡ h → slice_index_or xs 8 [] ≡ i
    → xs ≡ a ∷ b ∷ c ∷ d ∷ e ∷ f ∷ g ∷ h ∷ i ∷ []
nine_lines (x0 ∷ x1 ∷ x2 ∷ x3 ∷ x4 ∷ x5 ∷ x6 ∷ x7 ∷ x8 ∷ []) n a b c d e f g h i p0 p1 p2 p3 p4 p5 p6 p7 p8 = cc
nine_lines xs n a b c d e f g h i p0 p1 p2 p3 p4 p5 p6 p7 p8 = absurd (omega arith)

seven_lines : (xs : List Text) → length xs ≡ 7 → (a b c d e f g : Text) → slice_index_or xs 0 [] ≡ a → slice_index_or xs 1 [] ≡ b → slice_index_or xs 2 [] ≡ c
    → slice_index_or xs 3 [] ≡ d → slice_index_or xs 4 [] ≡ e → slice_index_or xs 5 [] ≡ f → slice_index_or xs 6 [] ≡ g → xs ≡ a ∷ b ∷ c ∷ d ∷ e ∷ f ∷ g ∷ []
seven_lines (x0 ∷ x1 ∷ x2 ∷ x3 ∷ x4 ∷ x5 ∷ x6 ∷ []) n a b c d e f g p0 p1 p2 p3 p4 p5 p6 = cc
seven_lines xs n a b c d e f g p0 p1 p2 p3 p4 p5 p6 = absurd (omega arith)

text_of_lines : (text : Text) (c : Checkpoint) → IsNew (lines_of text) → (t : TellsCheck (lines_of text) c) → text ≡ check_text c t.faces.items t.degrees.items
text_of_lines text c new t =
    joined_parts 10 text _
    (nine_lines (lines_of text) t.end.count _ _ _ _ _ _ _ _ _ new.line_is
    (line_is _ _ 2 _ _ t.run.tells t.run.tells.form_is.words_are) (line_is _ _ 3 _ _ t.limits.tells t.limits.tells.form_is.words_are)
    (line_is _ _ 4 _ _ t.faces.tells t.faces.tells.form_is.words_are) (line_is _ _ 5 _ _ t.degrees.tells t.degrees.tells.form_is.words_are)
    (line_is _ _ 6 _ _ t.count.tells t.count.tells.form_is.words_are) (line_is _ _ 7 _ _ t.bytes.tells t.bytes.tells.form_is.words_are)
    (line_is _ _ 8 _ _ t.at.tells t.at.tells.form_is.words_are) t.end.empty)
    ∙ ap (λ z. codes "dressline checkpoint 2\n" ++ z) (page_joined rows)
  where
    rows : List (List Text)
    rows =
        number_row (codes "run") c.run ∷ limits_row (limits_of c.request) ∷ set_row (codes "faces") t.faces.items ∷ set_row (codes "degrees") t.degrees.items ∷
        number_row (codes "lines") c.lines ∷ number_row (codes "bytes") c.bytes ∷ place_row c.at ∷ []

pub stands_for : (text : Text) (c : Checkpoint) → IsNew (lines_of text) → TellsCheck (lines_of text) c → StandsFor text c
stands_for text c new t = record {
  check = record {
    faces = t.faces.items;
    degrees = t.degrees.items;
    are_faces = t.faces.are_items;
    are_degrees = t.degrees.are_items;
    face_set = t.faces.set_is;
    degree_set = t.degrees.set_is;
    text_is = text_of_lines text c new t;
  };
  counts = record { run = t.run.in_range; lines = t.count.in_range; bytes = t.bytes.in_range };
  valid = record {
    chambers = t.limits.in_range.chambers;
    tiles = t.limits.in_range.tiles;
    vertices = t.limits.in_range.vertices;
    faces = has_number t.faces.items c.request.faces t.faces.tells.form_is.some t.faces.are_items t.faces.set_is;
    degrees = has_number t.degrees.items c.request.degrees t.degrees.tells.form_is.some t.degrees.are_items t.degrees.set_is;
  };
  told = t.at.tells.form_is.told;
  place = t.at.in_range;
}

old_text_of_lines : (text : Text) (c : Checkpoint) → IsOld (lines_of text) → (t : TellsOldCheck (lines_of text) c) → text ≡ old_check_text c t.face t.degree
old_text_of_lines text c old t =
    joined_parts 10 text _
    (seven_lines (lines_of text) t.end.count _ _ _ _ _ _ _ old.line_is
    (line_is _ _ 2 _ _ t.run.tells t.run.tells.form_is.words_are) (line_is _ _ 3 _ _ t.limits.tells t.limits.tells.form_is.words_are)
    (line_is _ _ 4 _ _ t.count.tells t.count.tells.form_is.words_are) (line_is _ _ 5 _ _ t.bytes.tells t.bytes.tells.form_is.words_are)
    (line_is _ _ 6 _ _ t.at.tells t.at.tells.form_is.words_are) t.end.empty)
    ∙ ap (λ z. codes "dressline checkpoint 1\n" ++ z) (page_joined rows)
  where
    rows : List (List Text)
    rows =
        number_row (codes "run") c.run ∷ old_limits_row (old_limits_of c.request t.face t.degree) ∷
        number_row (codes "lines") c.lines ∷ number_row (codes "bytes") c.bytes ∷ place_row c.at ∷ []

pub old_stands_for : (text : Text) (c : Checkpoint) → IsOld (lines_of text) → TellsOldCheck (lines_of text) c → OldStandsFor text c
old_stands_for text c old t =
    let faces = t.limits.in_range.least_face in
    let degrees = t.limits.in_range.least_degree in
    record {
      face = t.face;
      degree = t.degree;
      face_range = faces;
      degree_range = degrees;
      face_set = t.face_set;
      degree_set = t.degree_set;
      text_is = old_text_of_lines text c old t;
      counts = record { run = t.run.in_range; lines = t.count.in_range; bytes = t.bytes.in_range };
      valid = record {
        chambers = t.limits.in_range.chambers;
        tiles = t.limits.in_range.tiles;
        vertices = t.limits.in_range.vertices;
        faces = has_number_from t.face c.request.faces faces.1 t.face_set;
        degrees = has_number_from t.degree c.request.degrees degrees.1 t.degree_set;
      };
      told = t.at.tells.form_is.told;
      place = t.at.in_range;
    }
