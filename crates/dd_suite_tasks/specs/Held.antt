-- What a command makes of what a name holds. Bytes are what was fetched: where the store tells, what it holds.
use Rattle.std.specs.Prelude.{◌≡◌, ◌<◌, ℕ, List, Option, Some, Bool, true, length}
use Rattle.std.specs.Io.KnownBytes.{Appends}
use Rattle.dd_ports.specs.Grows.{GrowsByPrefix}
use Rattle.dd_text.specs.declared.faults.FileFault.{FileFault}
use Rattle.dd_suite_commands.specs.declared.commands.FileCommand.{FileCommand}
use Rattle.dd_suite_commands.specs.declared.refusals.SymbolRefusal.{SymbolRefusal}
use Rattle.dd_suite_commands.specs.Files.{IsFileText, IsFaulty, IsRefused}

-- bytes that were fetched: what the name holds, if the store tells
abbrev pub AreFetched : Bool → Option (List ℕ) → List ℕ → Type 0
AreFetched tells held bytes = tells ≡ true → held ≡ Some bytes

-- a name holds more bytes than so many
pub record HoldsMore (tells : Bool) (held : Option (List ℕ)) (most : ℕ) : Type 0 where
  pub bytes : List ℕ
  pub fetched : AreFetched tells held bytes
  pub more : most < length bytes

-- what a command writes of the file that a name holds
pub record IsTextOfHeld (command : FileCommand) (tells : Bool) (held : Option (List ℕ)) (text : List ℕ) : Type 0 where
  pub bytes : List ℕ
  pub fetched : AreFetched tells held bytes
  pub is_text : IsFileText command bytes text

-- a name holds a file with this fault
pub record HoldsFaulty (tells : Bool) (held : Option (List ℕ)) (fault : FileFault) : Type 0 where
  pub bytes : List ℕ
  pub fetched : AreFetched tells held bytes
  pub faulty : IsFaulty bytes fault

-- a name holds a file with this symbol, the first of which the command makes nothing
pub record HoldsRefused (command : FileCommand) (tells : Bool) (held : Option (List ℕ)) (r : SymbolRefusal) : Type 0 where
  pub bytes : List ℕ
  pub fetched : AreFetched tells held bytes
  pub refused : IsRefused command bytes r

-- known bytes grew by the text of the file that a name held
pub record AppendsFileText (command : FileCommand) (tells : Bool) (held old new : Option (List ℕ)) : Type 0 where
  pub text : List ℕ
  pub is_text : IsTextOfHeld command tells held text
  pub appended : Appends old new text

-- known bytes grew by a prefix of the text of the file that a name held
pub record AppendsPart (command : FileCommand) (tells : Bool) (held old new : Option (List ℕ)) : Type 0 where
  pub text : List ℕ
  pub is_text : IsTextOfHeld command tells held text
  pub grown : GrowsByPrefix old new text
