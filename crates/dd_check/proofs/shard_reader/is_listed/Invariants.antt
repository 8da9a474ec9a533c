use Rattle.std.proofs.Common.{take}
use Rattle.std.specs.List.{Contains}
use Rattle.dd_check.proofs.shard_reader.is_listed.Given as goal

abbrev pub invariant-loop-job : goal.invariant-loop-job
invariant-loop-job l = Contains (take l.job-index l.jobs) (record { size = l.size; prefix = l.numbers }) → ⊥
