-- New ledgers, and those that types name.
use Rattle.std.specs.Prelude.{◌≡◌, ℕ}
use Rattle.std.specs.declared.sync.ledger.Blank.{Blank}
use Rattle.dd_board.specs.declared.books.Blanks.{Blanks}

-- the new ledger has this name, and this many parts
abbrev pub IsLedger : Blank → ℕ × ℕ → Type 0
IsLedger blank named = (blank.name ≡ named.0) × (blank.parts ≡ named.1)

-- each of the five has the name and the parts of a ledger that a type names
abbrev pub AreLedgers : Blanks → ℕ × ℕ → ℕ × ℕ → ℕ × ℕ → ℕ × ℕ → ℕ × ℕ → Type 0
AreLedgers blanks take look split finish back =
    IsLedger blanks.take take × IsLedger blanks.look look × IsLedger blanks.split split × IsLedger blanks.finish finish × IsLedger blanks.back back

-- each of the five is in this many parts
abbrev pub AreInParts : Blanks → ℕ → Type 0
AreInParts blanks n =
    (blanks.take.parts ≡ n) × (blanks.look.parts ≡ n) × (blanks.split.parts ≡ n) × (blanks.finish.parts ≡ n) × (blanks.back.parts ≡ n)
