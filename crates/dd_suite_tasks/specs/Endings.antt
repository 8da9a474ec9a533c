-- What an ending says, and what has caused it.
use Rattle.std.specs.Prelude.{ℕ, List, [], ◌++◌, codes, decimal, Result, Ok, Err}
use Rattle.dd_pages_and_checkpoints.specs.declared.fault.RunFault.{RunFault}
use Rattle.dd_pages_and_checkpoints.specs.declared.fault.RunFault.TheVariants as fault
use Rattle.dd_pages_and_checkpoints.specs.declared.finish.Finish.{Finish}
use Rattle.dd_pages_and_checkpoints.specs.declared.finish.Finish.TheVariants as finish
use Rattle.dd_check.specs.declared.faults.ShardFault.{ShardFault}
use Rattle.dd_check.specs.ShardFaults.{shard_fault_text}
use Rattle.dd_suite_commands.specs.declared.command_fault.CommandFault.{CommandFault}
use Rattle.dd_suite_commands.specs.declared.command_fault.CommandFault.TheVariants.{File, Symbol, Memory as NoRoom}
use Rattle.dd_text.specs.declared.faults.FileFault.{FileFault}
use Rattle.dd_text.specs.Messages.{fault_text}
use Rattle.dd_suite_commands.specs.declared.refusals.SymbolRefusal.{SymbolRefusal}
use Rattle.dd_suite_commands.specs.Messages.{symbol_refusal_text, merge_refusal_text}
use Rattle.dd_suite_commands.specs.declared.merge_refusal.MergeRefusal.{MergeRefusal}
use Rattle.dd_suite_tasks.specs.declared.status.Status.{Status}
use Rattle.dd_suite_tasks.specs.declared.status.Status.TheVariants as status
use Rattle.dd_suite_tasks.specs.declared.ending.Ending.{Ending}
use Rattle.dd_suite_tasks.specs.declared.ending.Ending.TheVariants.{Done, Usage, Refused, RefusedSymbol, RefusedCheck, RefusedMerge}
use Rattle.dd_suite_tasks.specs.declared.ending.Ending.TheVariants.{Paused, StoreFault, SinkFault, Memory, TooManyLines}

-- the status without its cause
abbrev pub status_of : Ending → Status
status_of Done = status.Done
status_of Usage = status.Usage
status_of (Refused fault) = status.Refused
status_of (RefusedSymbol refusal) = status.Refused
status_of (RefusedCheck fault) = status.Refused
status_of (RefusedMerge refusal) = status.Refused
status_of (Paused lines) = status.Paused
status_of StoreFault = status.StoreFault
status_of SinkFault = status.SinkFault
status_of Memory = status.Memory
status_of TooManyLines = status.TooManyLines

-- the line that tells of a refused file
abbrev pub fault_line : FileFault → List ℕ
fault_line fault = codes "dressline: file: " ++ (fault_text fault ++ codes "\n")

-- the line that tells of a symbol of which nothing is made
abbrev pub refusal_line : SymbolRefusal → List ℕ
refusal_line refusal = codes "dressline: " ++ (symbol_refusal_text refusal ++ codes "\n")

-- the line that tells of a text that is no checkpoint text
abbrev pub check_line : ShardFault → List ℕ
check_line fault = codes "dressline: checkpoint: " ++ (shard_fault_text fault ++ codes "\n")

-- the line that tells why files are not merged
abbrev pub merge_line : MergeRefusal → List ℕ
merge_line refusal = codes "dressline: " ++ (merge_refusal_text refusal ++ codes "\n")

-- the line that tells after how many lines of its chain a run paused
abbrev pub pause_line : ℕ → List ℕ
pause_line lines = codes "dressline: paused at " ++ (decimal lines ++ codes " lines\n")

-- the line on the error stream
abbrev pub message_of : Ending → List ℕ
message_of Done = []
message_of Usage = codes "dressline: words not taken\n"
message_of (Refused fault) = fault_line fault
message_of (RefusedSymbol refusal) = refusal_line refusal
message_of (RefusedCheck fault) = check_line fault
message_of (RefusedMerge refusal) = merge_line refusal
message_of (Paused lines) = pause_line lines
message_of StoreFault = codes "dressline: store failed\n"
message_of SinkFault = codes "dressline: sink failed\n"
message_of Memory = codes "dressline: out of memory\n"
message_of TooManyLines = codes "dressline: too many lines\n"

-- how a command ends that has no text for a file
abbrev pub fault_ending : CommandFault → Ending
fault_ending (File fault) = Refused fault
fault_ending (Symbol refusal) = RefusedSymbol refusal
fault_ending NoRoom = Memory

-- how a run ends whose pause comes after the line of this number
abbrev pub run_ending : Result Finish RunFault → ℕ → Ending
run_ending (Ok finish.Whole) last = Done
run_ending (Ok finish.Paused) last = Paused last
run_ending (Ok finish.CutShort) last = TooManyLines
run_ending (Err fault.Store) last = StoreFault
run_ending (Err fault.Sink) last = SinkFault
run_ending (Err fault.Memory) last = Memory
