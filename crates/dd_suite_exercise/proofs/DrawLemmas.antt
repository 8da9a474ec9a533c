-- Draws, one after the other.
use Rattle.std.proofs.Common.{◌≡◌, ℕ, zero, suc, ◌+◌, ap, arith}
use Rattle.dd_suite_exercise.specs.Draws.{next, after_draws}

-- n draws, and then m more
pub draws_joined : (n m k z : ℕ) → k ≡ n + m → after_draws m (after_draws n z) ≡ after_draws k z
draws_joined zero m k z e = let same : m ≡ k = omega (arith, e) in ap (λ j. after_draws j z) same
draws_joined (suc n) m zero z e = absurd (omega (arith, e))
draws_joined (suc n) m (suc k) z e = draws_joined n m k (next z) (omega (arith, e))
