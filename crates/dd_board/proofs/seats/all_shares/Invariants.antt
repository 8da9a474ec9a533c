use Rattle.std.proofs.Common.{◌≡◌, ◌+◌, vec_len, sum_by}
use Rattle.dd_board.proofs.seats.all_shares.Given as goal

-- what was merged, with what is left, is all
abbrev pub invariant-loop-seats : goal.invariant-loop-seats
invariant-loop-seats g l =
    (l.shares.take.parts + vec_len l.seats ≡ vec_len l.fn.seats) × (l.shares.look.parts + vec_len l.seats ≡ vec_len l.fn.seats)
    × (l.shares.split.parts + vec_len l.seats ≡ vec_len l.fn.seats) × (l.shares.finish.parts + vec_len l.seats ≡ vec_len l.fn.seats)
    × (l.shares.back.parts + vec_len l.seats ≡ vec_len l.fn.seats)
    × (l.shares.take.amount + sum_by (λ s. s.shares.take.amount) l.seats.items ≡ sum_by (λ s. s.shares.take.amount) l.fn.seats.items)
    × (l.shares.look.amount + sum_by (λ s. s.shares.look.amount) l.seats.items ≡ sum_by (λ s. s.shares.look.amount) l.fn.seats.items)
    × (l.shares.split.amount + sum_by (λ s. s.shares.split.amount) l.seats.items ≡ sum_by (λ s. s.shares.split.amount) l.fn.seats.items)
    × (l.shares.finish.amount + sum_by (λ s. s.shares.finish.amount) l.seats.items ≡ sum_by (λ s. s.shares.finish.amount) l.fn.seats.items)
    × (l.shares.back.amount + sum_by (λ s. s.shares.back.amount) l.seats.items ≡ sum_by (λ s. s.shares.back.amount) l.fn.seats.items)

abbrev pub decreases-loop-seats : goal.decreases-loop-seats
decreases-loop-seats g l = vec_len l.seats
