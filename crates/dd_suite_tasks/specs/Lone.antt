-- What a catalogue or a shard without a checkpoint has written.
use Rattle.std.specs.Prelude.{◌≡◌, ℕ, List, None, Option, Result, Ok, Err}
use Rattle.dd_front_jobs.specs.declared.portions.Portion.{Portion}
use Rattle.dd_ports.specs.declared.sink.SinkFault.{SinkFault}
use Rattle.dd_ports.specs.declared.sink.SinkFault.TheVariants as sink
use Rattle.dd_ports.specs.Causes.{Rose}
use Rattle.dd_check.specs.ChainStarts.{first_start}
use Rattle.dd_pages_and_checkpoints.specs.declared.fault.RunFault.{RunFault}
use Rattle.dd_pages_and_checkpoints.specs.declared.fault.RunFault.TheVariants as fault
use Rattle.dd_pages_and_checkpoints.specs.declared.finish.Finish.{Finish}
use Rattle.dd_pages_and_checkpoints.specs.Outputs.{IsOutput}
use Rattle.dd_suite_tasks.specs.declared.ending.Ending.{Ending}
use Rattle.dd_suite_tasks.specs.declared.ending.Ending.TheVariants.{SinkFault as Sank}
use Rattle.dd_suite_tasks.specs.Endings.{run_ending}

-- the fault of a run whose sink has this fault
abbrev pub run_fault : SinkFault → RunFault
run_fault sink.Failed = fault.Sink
run_fault sink.Memory = fault.Memory

abbrev pub run_result : Result Finish SinkFault → Result Finish RunFault
run_result (Ok finish) = Ok finish
run_result (Err fault) = Err (run_fault fault)

-- a front of the text from the beginning was written, without a pause, and a write failed only where it was counted
pub record IsLoneEnding (ending : Ending) (p : Portion) (old new : Option (List ℕ)) (before now : ℕ) : Type 0 where
  pub output : List ℕ
  pub result : Result Finish SinkFault
  pub ending_is : ending ≡ run_ending (run_result result) 0
  pub is_output : IsOutput (first_start p) None old new result output
  pub cause : ending ≡ Sank → Rose before now
