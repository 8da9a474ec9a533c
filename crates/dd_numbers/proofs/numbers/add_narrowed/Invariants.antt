use Rattle.std.proofs.Common.{◌≡◌, ◌+◌, ◌-◌, ◌≤◌, ◌++◌, take, length}
use Rattle.dd_numbers.proofs.numbers.add_narrowed.Given as goal

abbrev pub invariant-loop-number : goal.invariant-loop-number
invariant-loop-number l = (l.bytes.items ≡ l.initial.bytes.items ++ take l.number-index l.numbers) × (length l.bytes.items + (length l.numbers - l.number-index) ≤ l.bytes.capacity)
