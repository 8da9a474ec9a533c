-- The parts of a text: numbers and signs, with blanks between them.
use Rattle.std.specs.Prelude.{◌≡◌, ℕ, ◌+◌, ◌-◌, ◌*◌, Bool, ◌||◌, List, [], ◌∷◌, length, nat_le, ◌==◌, if◌then◌else◌}
use Rattle.std.specs.Char.{is_ascii_digit}
use Rattle.dd_model.specs.declared.tokens.Part.{Part}
use Rattle.dd_model.specs.declared.tokens.Part.TheVariants.{Sign, Number, Overlong, End}
use Rattle.dd_model.specs.declared.tokens.Placed.{Placed}

-- a place in a file, counted from 0, and the bytes from there on
pub record Cursor : Type 0 where
  pub at : ℕ
  pub rest : List ℕ

-- space, tab, carriage return and line feed
abbrev pub is_blank : ℕ → Bool
is_blank b = b == 32 || b == 9 || b == 13 || b == 10

-- the first place from here on at which no blank stands
abbrev pub past_blanks : ℕ → List ℕ → Cursor
past_blanks at [] = record { at = at; rest = [] }
past_blanks at (b ∷ bs) = if is_blank b then past_blanks (at + 1) bs else record { at = at; rest = b ∷ bs }

-- the digits at the front of a text
abbrev pub digits : List ℕ → List ℕ
digits [] = []
digits (b ∷ bs) = if is_ascii_digit b then b ∷ digits bs else []

-- the text after them
abbrev pub past_digits : List ℕ → List ℕ
past_digits [] = []
past_digits (b ∷ bs) = if is_ascii_digit b then past_digits bs else b ∷ bs

-- the number that decimal digits after a number v make
abbrev pub value_from : ℕ → List ℕ → ℕ
value_from v [] = v
value_from v (b ∷ bs) = value_from (10 * v + (b - 48)) bs

-- a number has at most 9 digits
abbrev pub number_of : List ℕ → Part
number_of ds = if nat_le (length ds) 9 then Number (value_from 0 ds) else Overlong

-- the part with which a text begins: all its first digits, or one byte
abbrev pub part_of : List ℕ → Part
part_of [] = End
part_of (b ∷ bs) = if is_ascii_digit b then number_of (digits (b ∷ bs)) else Sign b

-- where the text goes on after that part
abbrev pub rest_of : ℕ → List ℕ → Cursor
rest_of at [] = record { at = at; rest = [] }
rest_of at (b ∷ bs) =
    if is_ascii_digit b
    then record { at = at + length (digits (b ∷ bs)); rest = past_digits (b ∷ bs) }
    else record { at = at + 1; rest = bs }

-- the next part, with its place; blanks may stand before it
unfoldable pub first_part : Cursor → Placed
first_part c = let p = past_blanks c.at c.rest in record { at = p.at; part = part_of p.rest }

-- where the text goes on after the next part
unfoldable pub after_part : Cursor → Cursor
after_part c = let p = past_blanks c.at c.rest in rest_of p.at p.rest

-- the next parts are these, and after them the text goes on from d
abbrev pub Spells : Cursor → List Placed → Cursor → Type 0
Spells c [] d = c ≡ d
Spells c (p ∷ ps) d = (first_part c ≡ p) × Spells (after_part c) ps d
