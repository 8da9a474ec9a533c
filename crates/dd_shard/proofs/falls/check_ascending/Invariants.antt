use Rattle.std.proofs.Common.{take}
use Rattle.std.specs.List.{AllByRecursion}
use Rattle.dd_model.specs.Wanted.{IsAscending}
use Rattle.dd_shard.specs.Members.{lists_of}
use Rattle.dd_shard.proofs.falls.check_ascending.Given as goal

abbrev pub invariant-loop-before : goal.invariant-loop-before
invariant-loop-before l = AllByRecursion IsAscending (take l.before (lists_of l.lists))
