use Rattle.std.proofs.Common.{◌≡◌, ◌-◌, ◌++◌, length}
use Rattle.dd_plain.specs.Choices.{choices}
use Rattle.dd_plain.proofs.choices.list_of.Given as goal

abbrev pub invariant-loop : goal.invariant-loop
invariant-loop l = record {
  length : length l.list.items ≡ l.counter;
  items : l.list.items ++ choices l.table (l.count - l.counter) l.rest ≡ choices l.table l.count l.number;
}
