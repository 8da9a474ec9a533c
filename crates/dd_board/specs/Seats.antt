-- The seats at a board.
use Rattle.std.specs.Prelude.{◌≡◌, ℕ, List, sum_by}
use Rattle.dd_board.specs.declared.seat.Seat.{Seat}

-- what the seats have counted of each kind adds up to this
abbrev pub HaveSums : {K L S D B : Type 0} → List (Seat K L S D B) → ℕ → ℕ → ℕ → ℕ → ℕ → Type 0
HaveSums seats takes looks splits finishes backs =
    (sum_by (λ s. s.shares.take.amount) seats ≡ takes) × (sum_by (λ s. s.shares.look.amount) seats ≡ looks)
    × (sum_by (λ s. s.shares.split.amount) seats ≡ splits) × (sum_by (λ s. s.shares.finish.amount) seats ≡ finishes)
    × (sum_by (λ s. s.shares.back.amount) seats ≡ backs)
