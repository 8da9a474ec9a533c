-- Symbols with the same parts are equal.
use Rattle.std.proofs.Common.{◌≡◌}
use Rattle.dd_model.specs.Symbol.{Symbol}

pub same_fields : (s t : Symbol) → s.size ≡ t.size → s.s0 ≡ t.s0 → s.s1 ≡ t.s1 → s.s2 ≡ t.s2 → s.m01 ≡ t.m01 → s.m12 ≡ t.m12 → s ≡ t
same_fields s t n a b c d e = λ x. record { size = n x; s0 = a x; s1 = b x; s2 = c x; m01 = d x; m12 = e x }
