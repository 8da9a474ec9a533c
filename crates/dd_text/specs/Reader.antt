use Rattle.std.specs.Prelude.{◌≡◌, ℕ, ◌+◌, List, [], ◌∷◌, length}
use Rattle.dd_model.specs.Parts.{Cursor, digits, past_digits, first_part, after_part}
use Rattle.dd_model.specs.declared.tokens.Placed.{Placed}
use Rattle.dd_text.specs.declared.reader.Reader.{Reader}

-- where a reader stands
abbrev pub cursor_of : Reader → Cursor
cursor_of r = record { at = r.at; rest = r.rest.now }

-- it stands at this byte
pub record IsByteAt (r : Reader) (byte : ℕ) : Type 0 where
  pub after : List ℕ
  pub begins : r.rest.now ≡ byte ∷ after

-- one byte on, if there is one
abbrev pub step : ℕ → List ℕ → Cursor
step at [] = record { at = at; rest = [] }
step at (b ∷ bs) = record { at = at + 1; rest = bs }

-- one byte on, if there is one
abbrev pub stepped : Cursor → Cursor
stepped c = step c.at c.rest

-- after the digits
abbrev pub past_number : Cursor → Cursor
past_number c = record { at = c.at + length (digits c.rest); rest = past_digits c.rest }

-- p is the next part from c on, and after it the text goes on from d
pub record IsNextPart (c : Cursor) (p : Placed) (d : Cursor) : Type 0 where
  pub part : p ≡ first_part c
  pub rest : d ≡ after_part c
