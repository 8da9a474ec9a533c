-- Numbers as they are kept.
use Rattle.std.specs.Prelude.{ℕ, List}
use Rattle.dd_numbers.specs.declared.numbers.Held.{Held}
use Rattle.dd_numbers.specs.declared.numbers.Held.TheVariants.{Bytes, Words}
use Rattle.dd_numbers.specs.declared.numbers_ref.NumbersRef.{NumbersRef}
use Rattle.dd_numbers.specs.declared.numbers_ref.NumbersRef.TheVariants.{Bytes as LentBytes, Words as LentWords}

-- the numbers, in whichever form they are kept
abbrev pub held_items : Held → List ℕ
held_items (Bytes bytes) = bytes.items
held_items (Words words) = words.items

-- the numbers that are lent
abbrev pub lent_items : NumbersRef → List ℕ
lent_items (LentBytes bytes) = bytes.now
lent_items (LentWords words) = words.now
