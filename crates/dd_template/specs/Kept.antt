-- What a lawful table keeps of a symbol.
use Rattle.std.specs.Prelude.{◌≡◌, ℕ, ◌+◌, ◌*◌, ◌≤◌}
use Rattle.dd_model.specs.Symbol.{Symbol, IsChamber}
use Rattle.dd_model.specs.Cell.{IsBranching}
use Rattle.dd_model.specs.Flat.{all_degrees, reciprocals}
use Rattle.dd_model.specs.declared.pair.Pair.{Pair}

-- all branching values are at most 30
abbrev pub HasSmallBranching : Symbol → Type 0
HasSmallBranching s = (p : Pair) (d v : ℕ) → IsChamber s d → IsBranching s p d v → v ≤ 30

-- The curvature of a symbol of n chambers is (2 Q - n P) / 2 P, where P is the product of all degrees and
-- Q the sum of the reciprocals in parts of it. Two such fractions are compared by their products with the
-- other's P, and what is taken away stands on the other side.
abbrev pub HaveSameCurvature : Symbol → Symbol → Type 0
HaveSameCurvature s t =
    2 * reciprocals s * all_degrees t + t.size * all_degrees t * all_degrees s
    ≡ 2 * reciprocals t * all_degrees s + s.size * all_degrees s * all_degrees t
