-- Why a command has no text for a file.
use Rattle.std.specs.Prelude.{ℕ, List}
use Rattle.dd_text.specs.declared.faults.FileFault.{FileFault}
use Rattle.dd_text.specs.declared.faults.Why.{Why}
use Rattle.dd_text.specs.declared.faults.Why.TheVariants.{Memory as NoRoom}
use Rattle.dd_suite_commands.specs.declared.command_fault.CommandFault.{CommandFault}
use Rattle.dd_suite_commands.specs.declared.command_fault.CommandFault.TheVariants.{File, Symbol, Memory}
use Rattle.dd_suite_commands.specs.declared.commands.FileCommand.{FileCommand}
use Rattle.dd_suite_commands.specs.Files.{IsFaulty, IsRefused}

-- the first fault of the file, or its first symbol of which the command makes nothing, or memory is wanting
abbrev pub IsCommandFault : FileCommand → CommandFault → List ℕ → Type 0
IsCommandFault command (File fault) bytes = IsFaulty bytes fault
IsCommandFault command (Symbol refusal) bytes = IsRefused command bytes refusal
IsCommandFault command Memory bytes = Unit {0}

-- a fault of a file as the fault of a command: want of memory is no refusal
abbrev pub fault_of_why : Why → FileFault → CommandFault
fault_of_why NoRoom fault = Memory
fault_of_why why fault = File fault
