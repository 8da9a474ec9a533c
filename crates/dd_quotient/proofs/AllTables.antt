-- It is decided whether five lists are a symbol.
use Rattle.std.proofs.Common.{◌≡◌, ℕ, length}
use Rattle.std.proofs.lemmas.Bool.{cases_eq}
use Rattle.dd_model.specs.declared.index.Index.{Index}
use Rattle.dd_model.specs.declared.pair.Pair.{Pair}
use Rattle.dd_model.specs.Symbol.{Symbol, IsChamber, IsInvolution, HasDegree, IsTable, IsSymbol, first, second, turn, operation, op, act, power, degree}
use Rattle.dd_model.proofs.CellSearch.{Decided, decide_chamber}
use Rattle.dd_quotient.proofs.Deciding.{decide_after, decide_same, decide_at_most, decide_each_index, decide_each_pair, decide_each}

decide_involution : (s : Symbol) (i : Index) → Decided (IsInvolution s i)
decide_involution s i =
    decide_after (decide_each (λ d. IsChamber s (op s i d)) s.size (λ d h. decide_chamber s (op s i d))) (λ within.
    decide_same (decide_each (λ d. op s i (op s i d) ≡ d) s.size (λ d h. cases_eq (op s i (op s i d)) d))
    (λ back. record { within = within; involutive = back })
    (λ is. is.involutive))
    (λ is. is.within)

decide_table : (s : Symbol) → Decided (IsTable s)
decide_table s =
    decide_after (decide_at_most 1 s.size) (λ some.
    decide_after (decide_each_index (λ i. length (operation s i) ≡ s.size) (λ i. cases_eq (length (operation s i)) s.size)) (λ lengths.
    decide_after (cases_eq (length s.m01) s.size) (λ m01.
    decide_after (cases_eq (length s.m12) s.size) (λ m12.
    decide_same (decide_each_index (IsInvolution s) (decide_involution s))
    (λ inv. record { chambers = some; lengths = lengths; m01_length = m01; m12_length = m12; involutions = inv })
    (λ is. is.involutions))
    (λ is. is.m12_length))
    (λ is. is.m01_length))
    (λ is. is.lengths))
    (λ is. is.chambers)

decide_degree : (s : Symbol) (p : Pair) (d : ℕ) → Decided (HasDegree s p d)
decide_degree s p d =
    decide_after (decide_at_most 1 (degree s p d)) (λ positive.
    decide_after (cases_eq (degree s p (op s (first p) d)) (degree s p d)) (λ along_first.
    decide_after (cases_eq (degree s p (op s (second p) d)) (degree s p d)) (λ along_second.
    decide_same (cases_eq (act s (power (turn p) (degree s p d)) d) d)
    (λ turns. record { positive = positive; along_first = along_first; along_second = along_second; turns = turns })
    (λ has. has.turns))
    (λ has. has.along_second))
    (λ has. has.along_first))
    (λ has. has.positive)

pub decide_symbol : (s : Symbol) → Decided (IsSymbol s)
decide_symbol s =
    decide_after (decide_table s) (λ table.
    decide_same (decide_each_pair (λ p. (d : ℕ) → IsChamber s d → HasDegree s p d) (λ p. decide_each (HasDegree s p) s.size (λ d h. decide_degree s p d)))
    (λ degrees. record { table = table; degrees = degrees })
    (λ is. is.degrees))
    (λ is. is.table)
