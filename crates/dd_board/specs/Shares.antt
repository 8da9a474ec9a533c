-- Shares of the five ledgers of a board.
use Rattle.std.specs.Prelude.{◌≡◌, ℕ, ◌+◌}
use Rattle.dd_board.specs.declared.shares.Shares.{Shares}

-- each has so many parts
abbrev pub HaveParts : {K L S D B : Type 0} → Shares K L S D B → ℕ → Type 0
HaveParts s n = (s.take.parts ≡ n) × (s.look.parts ≡ n) × (s.split.parts ≡ n) × (s.finish.parts ≡ n) × (s.back.parts ≡ n)

-- they have these amounts
abbrev pub HaveAmounts : {K L S D B : Type 0} → Shares K L S D B → ℕ → ℕ → ℕ → ℕ → ℕ → Type 0
HaveAmounts s takes looks splits finishes backs =
    (s.take.amount ≡ takes) × (s.look.amount ≡ looks) × (s.split.amount ≡ splits) × (s.finish.amount ≡ finishes) × (s.back.amount ≡ backs)

-- parts and amounts of the first two, added up, are those of the third
abbrev pub AreAdded : {K L S D B : Type 0} → Shares K L S D B → Shares K L S D B → Shares K L S D B → Type 0
AreAdded a b s =
    ((s.take.parts ≡ a.take.parts + b.take.parts) × (s.take.amount ≡ a.take.amount + b.take.amount))
    × ((s.look.parts ≡ a.look.parts + b.look.parts) × (s.look.amount ≡ a.look.amount + b.look.amount))
    × ((s.split.parts ≡ a.split.parts + b.split.parts) × (s.split.amount ≡ a.split.amount + b.split.amount))
    × ((s.finish.parts ≡ a.finish.parts + b.finish.parts) × (s.finish.amount ≡ a.finish.amount + b.finish.amount))
    × ((s.back.parts ≡ a.back.parts + b.back.parts) × (s.back.amount ≡ a.back.amount + b.back.amount))
