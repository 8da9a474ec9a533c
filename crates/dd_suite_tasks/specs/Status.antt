-- What tells of a status outside the program.
use Rattle.std.specs.Prelude.{ℕ}
use Rattle.dd_suite_tasks.specs.declared.status.Status.{Status}
use Rattle.dd_suite_tasks.specs.declared.status.Status.TheVariants.{Done, Refused, Usage, Paused, StoreFault, SinkFault, Memory, TooManyLines}

-- the exit status of the program
abbrev pub number_of : Status → ℕ
number_of Done = 0
number_of Refused = 1
number_of Usage = 2
number_of Paused = 3
number_of StoreFault = 4
number_of SinkFault = 5
number_of Memory = 6
number_of TooManyLines = 7
