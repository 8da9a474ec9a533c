use Rattle.std.proofs.Common.{◌≡◌, ◌+◌, ◌≤◌, length, map, vec_capacity}
use Rattle.dd_model.specs.Code.{count_from}
use Rattle.dd_board.specs.Shares.{HaveAmounts}
use Rattle.dd_board.specs.Seats.{HaveSums}
use Rattle.dd_board.proofs.seats.seats_of.Given as goal

-- each seat made has one part of each, and nothing is counted yet
abbrev pub invariant-loop-index : goal.invariant-loop-index
invariant-loop-index g l =
    (l.shares.take.parts + l.index ≡ l.fn.count) × (l.shares.look.parts + l.index ≡ l.fn.count) × (l.shares.split.parts + l.index ≡ l.fn.count)
    × (l.shares.finish.parts + l.index ≡ l.fn.count) × (l.shares.back.parts + l.index ≡ l.fn.count)
    × HaveAmounts l.shares 0 0 0 0 0 × (length l.seats.items ≡ l.index) × (map (λ s. s.worker) l.seats.items ≡ count_from 1 l.index)
    × HaveSums l.seats.items 0 0 0 0 0 × (l.fn.count ≤ vec_capacity l.seats)
