-- What the methods that read the text of a symbol promise.
use Rattle.std.specs.Prelude.{◌≡◌, ◌≢◌, ℕ, ◌≤◌, List, [], ◌∷◌, map, Option, None, IfSome}
use Rattle.dd_model.specs.declared.tokens.Part.{Part}
use Rattle.dd_model.specs.declared.tokens.Part.TheVariants.{Number, Overlong, End}
use Rattle.dd_model.specs.declared.tokens.Placed.{Placed}
use Rattle.dd_model.specs.declared.tokens.Numeral.{Numeral}
use Rattle.dd_model.specs.Parts.{Cursor, first_part, after_part, Spells}
use Rattle.dd_model.specs.Spelling.{Told, Head, Shape, number_part, sign_part, with_head, with_dimension, parts_of, IsPlane}
use Rattle.dd_text.specs.declared.faults.Why.{Why}
use Rattle.dd_text.specs.declared.faults.Why.TheVariants.{Stray, UnexpectedEnd, NumberTooLong, Memory}
use Rattle.dd_text.specs.declared.faults.Fault.{Fault}
use Rattle.dd_text.specs.declared.lists.NumberList.{NumberList}
use Rattle.dd_text.specs.declared.symbol_text.SymbolText.{SymbolText}

-- why a part may not stand where a number may
abbrev pub no_number_why : Part → Why
no_number_why End = UnexpectedEnd
no_number_why Overlong = NumberTooLong
no_number_why p = Stray

-- why a part may not stand where no number may
abbrev pub no_sign_why : Part → Why
no_sign_why End = UnexpectedEnd
no_sign_why p = Stray

-- the fault of a part that is no number
pub record IsNoNumber (p : Placed) (fault : Fault) : Type 0 where
  pub place : fault.at ≡ p.at
  pub why : fault.why ≡ no_number_why p.part
  pub other : (v : ℕ) → p.part ≢ Number v

-- the fault of a part that is not this sign
pub record IsNoSign (p : Placed) (byte : ℕ) (fault : Fault) : Type 0 where
  pub place : fault.at ≡ p.at
  pub why : fault.why ≡ no_sign_why p.part
  pub other : (m : ℕ) → p ≢ sign_part byte m

-- a list without where it lies in memory
abbrev pub told_of : NumberList → Told
told_of l = record { numbers = l.numbers.items; end = l.end }

-- From c on stand numbers, and then a part that is neither a number nor the sign that ends the list.
pub record IsListCut (c : Cursor) (end : ℕ) (fault : Fault) : Type 0 where
  pub numbers : List Numeral
  pub here : Cursor
  pub spells : Spells c (map number_part numbers) here
  pub no_number : IsNoNumber (first_part here) fault
  pub no_end : (m : ℕ) → first_part here ≢ sign_part end m

-- a fault of a list, unless memory ran out
abbrev pub IsListFault : Cursor → ℕ → Fault → Type 0
IsListFault c end fault = fault.why ≢ Memory → IsListCut c end fault

-- From c on stand maybe a head, and the size; then comes next, and then the text goes on from d.
pub record IsHeadTo (c : Cursor) (size : Numeral) (next : Placed) (d : Cursor) : Type 0 where
  pub head : Option Head
  pub mid : Cursor
  pub spells : Spells c (with_head head (number_part size ∷ [])) mid
  pub no_prefix : head ≡ None → (m : ℕ) → next ≢ sign_part 46 m
  pub next_is : first_part mid ≡ next
  pub to : after_part mid ≡ d

-- From c to d stand maybe a head, the size n, maybe the dimension 2, and a colon.
pub record IsSizeTo (c : Cursor) (n : ℕ) (d : Cursor) : Type 0 where
  pub head : Option Head
  pub size : Numeral
  pub dimension : Option Numeral
  pub colon : ℕ
  pub spells : Spells c (with_head head (number_part size ∷ with_dimension dimension (sign_part 58 colon ∷ []))) d
  pub some : 1 ≤ size.value
  pub few : size.value ≤ 1024
  pub two : IfSome dimension (λ x. x.value ≡ 2)
  pub value : size.value ≡ n

-- the numbers of a shape
pub record IsTextOf (t : SymbolText) (x : Shape) : Type 0 where
  pub size : x.size.value ≡ t.size
  pub s0 : told_of t.s0 ≡ x.s0
  pub s1 : told_of t.s1 ≡ x.s1
  pub s2 : told_of t.s2 ≡ x.s2
  pub m01 : told_of t.m01 ≡ x.m01
  pub m12 : told_of t.m12 ≡ x.m12

-- from c to d stands the text of a symbol in the plane, with these numbers
pub record IsTextTo (c : Cursor) (t : SymbolText) (d : Cursor) : Type 0 where
  pub shape : Shape
  pub spells : Spells c (parts_of shape) d
  pub plane : IsPlane shape
  pub text : IsTextOf t shape
