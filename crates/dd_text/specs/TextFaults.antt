-- The faults in the text of a symbol, and their places.
use Rattle.std.specs.Prelude.{◌≡◌, ◌≢◌, ◌⊎◌, ℕ, ◌<◌, ◌≤◌, List, [], ◌∷◌, ◌++◌, Option, None}
use Rattle.dd_model.specs.declared.tokens.Part.TheVariants.{Overlong, End}
use Rattle.dd_model.specs.declared.tokens.Placed.{Placed}
use Rattle.dd_model.specs.declared.tokens.Numeral.{Numeral}
use Rattle.dd_model.specs.Parts.{Cursor, first_part, Spells}
use Rattle.dd_model.specs.Spelling.{Head, Shape, number_part, sign_part, with_head, parts_of}
use Rattle.dd_text.specs.declared.faults.Why.{Why}
use Rattle.dd_text.specs.declared.faults.Why.TheVariants.{Stray, UnexpectedEnd, NumberTooLong, Dimension, Size, Memory}

-- Some text of a symbol begins with these parts, and goes on with p. Its size and its dimension may be any numbers.
pub record MayStand (before : List Placed) (p : Placed) : Type 0 where
  pub shape : Shape
  pub after : List Placed
  pub parts : parts_of shape ≡ before ++ p ∷ after

-- a part that may not stand after these, nor may a number where it is one of too many digits
pub record IsStray (before : List Placed) (p : Placed) : Type 0 where
  pub some : p.part ≢ End
  pub misplaced : MayStand before p → ⊥
  pub overlong : p.part ≡ Overlong → (x : Numeral) → MayStand before (number_part x) → ⊥

-- a number of too many digits where a number may stand
pub record IsTooLong (before : List Placed) (p : Placed) : Type 0 where
  pub overlong : p.part ≡ Overlong
  pub number : Numeral
  pub may_stand : MayStand before (number_part number)

-- what is wrong with the next part
abbrev pub IsWrong : List Placed → Placed → Why → Type 0
IsWrong before p Stray = IsStray before p
IsWrong before p UnexpectedEnd = p.part ≡ End
IsWrong before p NumberTooLong = IsTooLong before p
IsWrong before p why = ⊥

-- After parts with which the text of a symbol may begin, and which do not end it, the next part is wrong.
pub record IsFormFault (c : Cursor) (why : Why) (at : ℕ) : Type 0 where
  pub before : List Placed
  pub here : Cursor
  pub spells : Spells c before here
  pub other : Placed
  pub may_go_on : MayStand before other
  pub wrong : IsWrong before (first_part here) why
  pub place : (first_part here).at ≡ at

-- The size is 0 or over 1,024. The first number is no size if a dot comes next.
pub record IsSizeFault (c : Cursor) (at : ℕ) : Type 0 where
  pub head : Option Head
  pub size : Numeral
  pub here : Cursor
  pub spells : Spells c (with_head head (number_part size ∷ [])) here
  pub no_prefix : head ≡ None → (m : ℕ) → first_part here ≢ sign_part 46 m
  pub bad : (size.value ≡ 0) ⊎ (1024 < size.value)
  pub place : size.at ≡ at

-- the size is right, and the number after it is not 2
pub record IsDimensionFault (c : Cursor) (at : ℕ) : Type 0 where
  pub head : Option Head
  pub size : Numeral
  pub dimension : Numeral
  pub here : Cursor
  pub spells : Spells c (with_head head (number_part size ∷ number_part dimension ∷ [])) here
  pub some : 1 ≤ size.value
  pub few : size.value ≤ 1024
  pub bad : dimension.value ≢ 2
  pub place : dimension.at ≡ at

-- the form is wrong, and no size or dimension before that place is
pub record IsFirstFormFault (c : Cursor) (why : Why) (at : ℕ) : Type 0 where
  pub form : IsFormFault c why at
  pub size : (place : ℕ) → IsSizeFault c place → ⊥
  pub dimension : (place : ℕ) → IsDimensionFault c place → ⊥

-- The first fault of a text of a symbol that goes on from c after its <. Want of memory may come anywhere.
abbrev pub IsTextFault : Cursor → Why → ℕ → Type 0
IsTextFault c Size at = IsSizeFault c at
IsTextFault c Dimension at = IsDimensionFault c at
IsTextFault c Stray at = IsFirstFormFault c Stray at
IsTextFault c UnexpectedEnd at = IsFirstFormFault c UnexpectedEnd at
IsTextFault c NumberTooLong at = IsFirstFormFault c NumberTooLong at
IsTextFault c Memory at = Unit {0}
IsTextFault c why at = ⊥
