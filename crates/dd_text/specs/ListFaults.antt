-- How lists are read, and their faults.
use Rattle.std.specs.Prelude.{◌≡◌, ℕ, ◌<◌, List, ◌∷◌, ◌++◌, length}
use Rattle.dd_model.specs.Symbol.{Symbol}
use Rattle.dd_model.specs.Cell.{AreCells}
use Rattle.dd_model.specs.Spelling.{Told, values}
use Rattle.dd_model.specs.declared.pair.Pair.{Pair}
use Rattle.dd_model.specs.declared.tokens.Numeral.{Numeral}
use Rattle.dd_text.specs.declared.faults.Why.{Why}
use Rattle.dd_text.specs.declared.faults.Why.TheVariants.{ListShort, ListLong, Image, Memory}
use Rattle.dd_text.specs.ToldImages.{IsFirstUnknown, AllKnown, IsFree, Say, Nothing, numbers_of}

-- the list ends, and some chamber has no image
pub record IsShortList (n : ℕ) (l : Told) (at : ℕ) : Type 0 where
  pub known : List ℕ
  pub say : Say (Nothing n) (values l) known
  pub chamber : ℕ
  pub unknown : IsFirstUnknown known chamber
  pub place : l.end ≡ at

-- a number comes when all images are known
pub record IsLongList (n : ℕ) (l : Told) (at : ℕ) : Type 0 where
  pub before : List Numeral
  pub number : Numeral
  pub after : List Numeral
  pub numbers : l.numbers ≡ before ++ number ∷ after
  pub known : List ℕ
  pub say : Say (Nothing n) (numbers_of before) known
  pub all : AllKnown known
  pub place : number.at ≡ at

-- a number comes that is no chamber, or a chamber whose image is known
pub record IsWrongImage (n : ℕ) (l : Told) (at : ℕ) : Type 0 where
  pub before : List Numeral
  pub number : Numeral
  pub after : List Numeral
  pub numbers : l.numbers ≡ before ++ number ∷ after
  pub known : List ℕ
  pub say : Say (Nothing n) (numbers_of before) known
  pub chamber : ℕ
  pub unknown : IsFirstUnknown known chamber
  pub taken : IsFree known number.value → ⊥
  pub place : number.at ≡ at

-- the first fault of a list of images of n chambers
abbrev pub IsImagesFault : ℕ → Told → Why → ℕ → Type 0
IsImagesFault n l ListShort at = IsShortList n l at
IsImagesFault n l ListLong at = IsLongList n l at
IsImagesFault n l Image at = IsWrongImage n l at
IsImagesFault n l Memory at = Unit {0}
IsImagesFault n l why at = ⊥

-- there are fewer numbers than cells
pub record IsShortOfCells (s : Symbol) (p : Pair) (l : Told) (at : ℕ) : Type 0 where
  pub cells : List ℕ
  pub are_cells : AreCells s p cells
  pub short : length l.numbers < length cells
  pub place : l.end ≡ at

-- there are more numbers than cells: the first that is too many has the place
pub record IsBeyondCells (s : Symbol) (p : Pair) (l : Told) (at : ℕ) : Type 0 where
  pub cells : List ℕ
  pub are_cells : AreCells s p cells
  pub before : List Numeral
  pub number : Numeral
  pub after : List Numeral
  pub numbers : l.numbers ≡ before ++ number ∷ after
  pub enough : length before ≡ length cells
  pub place : number.at ≡ at

-- the fault of a list of degrees
abbrev pub IsDegreesFault : Symbol → Pair → Told → Why → ℕ → Type 0
IsDegreesFault s p l ListShort at = IsShortOfCells s p l at
IsDegreesFault s p l ListLong at = IsBeyondCells s p l at
IsDegreesFault s p l Memory at = Unit {0}
IsDegreesFault s p l why at = ⊥
