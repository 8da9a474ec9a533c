-- What a worker does with its tickets.
use Rattle.std.specs.Prelude.{◌≡◌, ℕ, ◌+◌, Option, Some, None, Result, Ok, Err}
use Rattle.dd_model.specs.declared.memory.Memory.{Memory as OutOfMemory}
use Rattle.dd_front.specs.declared.naming.Naming.{Ghosts}
use Rattle.dd_board.specs.declared.seat.Seat.{Seat}
use Rattle.dd_steal_deques.specs.declared.hand.Hand.{Hand}
use Rattle.dd_steal_deques.specs.Hands.{hand_pushed, hand_popped, hand_stolen}
use Rattle.dd_steal.specs.declared.ended.Ended.{Ended}
use Rattle.dd_steal.specs.declared.ended.Ended.TheVariants.{Idle, Memory}

-- how many tickets a worker got: it took, popped or stole them
abbrev pub got : {K L S D B N : Type 0} {names : Ghosts N} → Seat K L S D B → Hand N names → ℕ
got seat hand = seat.shares.take.amount + hand_popped hand + hand_stolen hand

-- how many it parted with: it pushed, split, finished or gave them back
abbrev pub parted : {K L S D B N : Type 0} {names : Ghosts N} → Seat K L S D B → Hand N names → ℕ
parted seat hand = hand_pushed hand + seat.shares.split.amount + seat.shares.finish.amount + seat.shares.back.amount

-- over a call, it got as many tickets as it parted with, and so many more
abbrev pub IsLeftWith : {K L S D B N : Type 0} {names : Ghosts N} → ℕ → Seat K L S D B → Hand N names → Seat K L S D B → Hand N names → Type 0
IsLeftWith k seat hand seat' hand' = got seat' hand' + parted seat hand ≡ parted seat' hand' + got seat hand + k

-- how many tickets are in hand
abbrev pub held_by : {T : Type 0} → Option T → ℕ
held_by None = 0
held_by (Some ticket) = 1

abbrev pub held_at_end : {N : Type 0} {names : Ghosts N} → Ended N names → ℕ
held_at_end Idle = 0
held_at_end (Memory ticket) = held_by ticket

-- no job was open
abbrev pub IsIdle : {N : Type 0} {names : Ghosts N} → Ended N names → Type 0
IsIdle Idle = Unit {0}
IsIdle (Memory ticket) = ⊥

abbrev pub held_after : {T : Type 0} → Result (Option T) OutOfMemory → ℕ
held_after (Ok ticket) = held_by ticket
held_after (Err why) = 0
