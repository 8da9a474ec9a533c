-- The first fault of a file.
use Rattle.std.specs.Prelude.{◌≡◌, ◌≢◌, ◌⊎◌, ℕ, ◌+◌, ◌<◌, ◌≤◌, false, List, ◌∷◌, length}
use Rattle.dd_model.specs.Symbol.{Symbol}
use Rattle.dd_model.specs.Parts.{Cursor, is_blank}
use Rattle.dd_model.specs.Reading.{ReadsTo, most_bytes}
use Rattle.dd_text.specs.declared.faults.Why.{Why}
use Rattle.dd_text.specs.declared.faults.Why.TheVariants.{Stray, UnexpectedEnd, NumberTooLong, Dimension, Size, ListShort, ListLong, Image, Symbol as Refused, TooManySymbols, Long, Memory}
use Rattle.dd_text.specs.declared.faults.FileFault.{FileFault}
use Rattle.dd_text.specs.TextFaults.{IsTextFault}
use Rattle.dd_text.specs.SymbolFaults.{IsSymbolFault}

-- the text of the symbol that begins at c with < has this fault
pub record IsFaultAfter (c : Cursor) (why : Why) (at : ℕ) : Type 0 where
  pub after : List ℕ
  pub begins : c.rest ≡ 60 ∷ after
  pub fault : IsTextFault (record { at = c.at + 1; rest = after }) why at

-- a byte that may not stand between symbols
pub record IsStrayBetween (c : Cursor) (at : ℕ) : Type 0 where
  pub byte : ℕ
  pub after : List ℕ
  pub begins : c.rest ≡ byte ∷ after
  pub no_blank : is_blank byte ≡ false
  pub no_comment : byte ≢ 35
  pub no_symbol : byte ≢ 60
  pub place : c.at ≡ at

-- one symbol too many begins
pub record IsOneTooMany (c : Cursor) (count at : ℕ) : Type 0 where
  pub after : List ℕ
  pub begins : c.rest ≡ 60 ∷ after
  pub full : count ≡ 1000000
  pub place : c.at ≡ at

-- What is wrong from c on, after so many symbols. Faults of the text come before those of the symbol.
abbrev pub IsNextFault : Cursor → ℕ → Why → ℕ → Type 0
IsNextFault c count Stray at = IsStrayBetween c at ⊎ ((count < 1000000) × IsFaultAfter c Stray at)
IsNextFault c count UnexpectedEnd at = (count < 1000000) × IsFaultAfter c UnexpectedEnd at
IsNextFault c count NumberTooLong at = (count < 1000000) × IsFaultAfter c NumberTooLong at
IsNextFault c count Dimension at = (count < 1000000) × IsFaultAfter c Dimension at
IsNextFault c count Size at = (count < 1000000) × IsFaultAfter c Size at
IsNextFault c count ListShort at = (count < 1000000) × IsSymbolFault c ListShort at
IsNextFault c count ListLong at = (count < 1000000) × IsSymbolFault c ListLong at
IsNextFault c count Image at = (count < 1000000) × IsSymbolFault c Image at
IsNextFault c count (Refused why) at = (count < 1000000) × IsSymbolFault c (Refused why) at
IsNextFault c count TooManySymbols at = IsOneTooMany c count at
IsNextFault c count Long at = ⊥
IsNextFault c count Memory at = Unit {0}

-- up to the fault the file is a row of blanks, comments and symbols
pub record IsFaultWithin (bytes : List ℕ) (fault : FileFault) : Type 0 where
  pub short : length bytes ≤ most_bytes
  pub symbols : List Symbol
  pub here : Cursor
  pub row : ReadsTo bytes symbols here
  pub few : length symbols ≤ 1000000
  pub next : IsNextFault here (length symbols) fault.why fault.at
  pub number : fault.symbol ≡ length symbols + 1

-- the file is too long
pub record IsTooLongFile (bytes : List ℕ) (fault : FileFault) : Type 0 where
  pub long : most_bytes < length bytes
  pub symbol : fault.symbol ≡ 0
  pub place : fault.at ≡ most_bytes

-- the fault of a file, of this kind
abbrev pub IsFileFaultOf : List ℕ → FileFault → Why → Type 0
IsFileFaultOf bytes fault Long = IsTooLongFile bytes fault
IsFileFaultOf bytes fault Memory = Unit {0}
IsFileFaultOf bytes fault why = IsFaultWithin bytes fault

-- The first fault of a file. Want of memory may come anywhere.
abbrev pub IsFileFault : List ℕ → FileFault → Type 0
IsFileFault bytes fault = IsFileFaultOf bytes fault fault.why
