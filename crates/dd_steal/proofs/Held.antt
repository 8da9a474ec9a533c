-- What a worker has in hand after a step.
use Rattle.std.proofs.Common.{◌≡◌, ℕ, ◌+◌, Option, Some, None, MatchOption, arith}
use Rattle.dd_steal.specs.Worker.{held_by}

-- a ticket that is popped is in hand
pub popped_held : {T : Type 0} (ticket : Option T) (popped popped' : ℕ) → MatchOption ticket (popped' ≡ popped) (λ _. popped' ≡ popped + 1) → popped' ≡ popped + held_by ticket
popped_held None popped popped' same = omega (arith, same)
popped_held (Some ticket) popped popped' more = more
