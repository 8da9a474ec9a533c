-- The draws of an exercise, which a number alone decides.
use Rattle.std.specs.Prelude.{ℕ, zero, suc, ◌+◌, ◌*◌, ◌/◌, ◌%◌}

-- the number that follows a number
unfoldable pub next : ℕ → ℕ
next z = (z * 1103515245 + 12345) % 2147483648

-- what a draw below k answers at a number: the next number is made, and read without its last 16 binary digits
unfoldable pub answer : ℕ → ℕ → ℕ
answer z k = next z / 65536 % k

-- the number after so many draws
abbrev pub after_draws : ℕ → ℕ → ℕ
after_draws zero z = z
after_draws (suc n) z = after_draws n (next z)
