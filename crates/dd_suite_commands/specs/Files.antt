-- What a command writes of a file.
use Rattle.std.specs.Prelude.{◌≢◌, ℕ, List}
use Rattle.dd_model.specs.Symbol.{Symbol}
use Rattle.dd_model.specs.Text.{AreLines}
use Rattle.dd_model.specs.Reading.{Reads}
use Rattle.dd_text.specs.declared.faults.FileFault.{FileFault}
use Rattle.dd_text.specs.declared.faults.Why.TheVariants.{Memory}
use Rattle.dd_text.specs.FileFaults.{IsFileFault}
use Rattle.dd_suite_commands.specs.declared.commands.FileCommand.{FileCommand}
use Rattle.dd_suite_commands.specs.declared.commands.FileCommand.TheVariants.{Symbols, Info, Sheets, Draw}
use Rattle.dd_suite_commands.specs.declared.commands.SymbolCommand.{SymbolCommand}
use Rattle.dd_suite_commands.specs.declared.refusals.SymbolRefusal.{SymbolRefusal}
use Rattle.dd_suite_commands.specs.Drawings.{AreDrawings, IsFirstUndrawn}
use Rattle.dd_suite_commands.specs.InTurn.{AreInTurn}
use Rattle.dd_suite_commands.specs.Made.{IsMade, IsFirstFault}
use Rattle.dd_suite_commands.specs.Info.{IsInfo}
use Rattle.dd_suite_commands.specs.SheetLines.{AreSheetLines, IsFirstCurved}

-- the lines of what a command makes of symbols, numbered from 1
pub record AreLinesOfMade (command : SymbolCommand) (symbols : List Symbol) (text : List ℕ) : Type 0 where
  pub made : List Symbol
  pub are_made : AreInTurn (IsMade command) symbols made
  pub lines : AreLines 0 made text

-- what a command writes of symbols
abbrev pub IsTextOf : FileCommand → List Symbol → List ℕ → Type 0
IsTextOf (Symbols command) symbols text = AreLinesOfMade command symbols text
IsTextOf Info symbols text = IsInfo symbols text
IsTextOf Sheets symbols text = AreSheetLines 1 symbols text
IsTextOf (Draw shape) symbols text = AreDrawings shape symbols text

-- the first symbol of which a command makes nothing
abbrev pub IsRefusalOf : FileCommand → List Symbol → SymbolRefusal → Type 0
IsRefusalOf (Symbols command) symbols r = IsFirstFault command 1 symbols r
IsRefusalOf Info symbols r = ⊥
IsRefusalOf Sheets symbols r = IsFirstCurved 1 symbols r
IsRefusalOf (Draw shape) symbols r = IsFirstUndrawn shape 1 symbols r

-- what a command writes of the symbols of a file
pub record IsFileText (command : FileCommand) (bytes text : List ℕ) : Type 0 where
  pub symbols : List Symbol
  pub reads : Reads bytes symbols
  pub written : IsTextOf command symbols text

-- no list of symbols is spelled by a file, and this is its first fault, which is no want of memory
pub record IsFaulty (bytes : List ℕ) (fault : FileFault) : Type 0 where
  pub none : (ss : List Symbol) → Reads bytes ss → ⊥
  pub first : IsFileFault bytes fault
  pub no_memory : fault.why ≢ Memory

-- a file spells symbols, and this is the first of which a command makes nothing
pub record IsRefused (command : FileCommand) (bytes : List ℕ) (r : SymbolRefusal) : Type 0 where
  pub symbols : List Symbol
  pub reads : Reads bytes symbols
  pub first : IsRefusalOf command symbols r
