use Rattle.std.proofs.Common.{◌≡◌, take}
use Rattle.dd_numbers.proofs.numbers.Numbers.has_front_of.Given as goal

abbrev pub invariant-loop-place : goal.invariant-loop-place
invariant-loop-place l = take l.place l.self ≡ take l.place l.other
