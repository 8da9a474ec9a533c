-- Words that are numbers, sets of numbers or names.
use Rattle.std.specs.Prelude.{◌≡◌, ◌≢◌, ◌⊎◌, ◌↔◌, ℕ, ◌+◌, ◌-◌, ◌*◌, ◌≤◌, ◌==◌, List, [], ◌∷◌, ◌++◌, length, fold, All}
use Rattle.std.specs.Char.{IsAsciiDigit}
use Rattle.std.specs.List.{AllByRecursion, Contains, slice_split}
use Rattle.dd_model.specs.Allowed.{IsIn}
use Rattle.dd_model.specs.declared.allowed.Allowed.{Allowed}

-- the bytes of a word
abbrev pub Text : Type 0
Text = List ℕ

-- the value of decimal digits
abbrev pub value_of : Text → ℕ
value_of digits = fold (λ n digit. 10 * n + (digit - 48)) 0 digits

-- 1 to 10 decimal digits with this value; leading zeros are allowed
pub record IsNumber (word : Text) (n : ℕ) : Type 0 where
  pub some : 1 ≤ length word
  pub short : length word ≤ 10
  pub digits : All IsAsciiDigit word
  pub value : value_of word ≡ n

-- a number in a range
pub record IsNumberIn (low high : ℕ) (word : Text) (n : ℕ) : Type 0 where
  pub number : IsNumber word n
  pub from : low ≤ n
  pub to : n ≤ high

-- two numbers with a dash between them
pub record IsRange (low high : ℕ) (word : Text) : Type 0 where
  pub from : Text
  pub to : Text
  pub is_from : IsNumber from low
  pub is_to : IsNumber to high
  pub spelled : word ≡ from ++ 45 ∷ to

-- one number, or two with a dash
abbrev pub AreBounds : ℕ → ℕ → Text → Type 0
AreBounds low high word = (IsNumber word low × (high ≡ low)) ⊎ IsRange low high word

-- one number, or two with a dash, from 1 to 216 and in order
pub record IsItem (low high : ℕ) (word : Text) : Type 0 where
  pub bounds : AreBounds low high word
  pub positive : 1 ≤ low
  pub ordered : low ≤ high
  pub small : high ≤ 216

-- the word is an item of a set
pub record AsksForNumbers (word : Text) : Type 0 where
  pub low : ℕ
  pub high : ℕ
  pub item : IsItem low high word

-- one of the words asks for the number
pub record IsCovered (words : List Text) (m : ℕ) : Type 0 where
  pub word : Text
  pub low : ℕ
  pub high : ℕ
  pub contains : Contains words word
  pub item : IsItem low high word
  pub from : low ≤ m
  pub to : m ≤ high

-- the parts of a word between its commas
abbrev pub items_of : Text → List Text
items_of = slice_split (λ byte. byte == 44)

-- the set has the numbers of the word beside those that it had
pub record IsAdded (word : Text) (before after : Allowed) : Type 0 where
  pub item : AsksForNumbers word
  pub members : (m : ℕ) → IsIn after m ↔ (IsIn before m ⊎ IsCovered (word ∷ []) m)

-- one or more items, parted by commas; the set is their union
pub record IsSetWord (word : Text) (a : Allowed) : Type 0 where
  pub items : AllByRecursion AsksForNumbers (items_of word)
  pub members : (m : ℕ) → IsIn a m ↔ IsCovered (items_of word) m

-- not empty, and without a dash in front
abbrev pub IsName : Text → Type 0
IsName [] = ⊥
IsName (byte ∷ bytes) = byte ≢ 45
