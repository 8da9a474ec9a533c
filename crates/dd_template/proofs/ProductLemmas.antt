-- The product of all degrees is a positive multiple of each.
use Rattle.std.proofs.Common.{◌≡◌, ℕ, zero, suc, ◌-◌, ◌*◌, ◌/◌, ◌<◌, ◌≤◌, List, [], ◌∷◌, length, get_or, refl, sym, ap, ◌∙◌, arith}
use Rattle.std.proofs.Math.Nat.{mul-div_cancel_left, mul_left_comm, mul_assoc}
use Rattle.dd_model.specs.Symbol.{Symbol, IsSymbol, IsChamber, item}
use Rattle.dd_model.specs.declared.pair.Pair.TheVariants.{Tile, Vertex}
use Rattle.dd_model.specs.Flat.{product, all_degrees}

-- the product as a multiple of one factor
record IsMultiple (p m : ℕ) : Type 0 where
  pub quotient : ℕ
  pub whole : p ≡ m * quotient

factor : (xs : List ℕ) (i : ℕ) → i < length xs → IsMultiple (product xs) (get_or xs i 0)
factor [] i h = absurd (omega arith)
factor (x ∷ xs) zero h = record { quotient = product xs; whole = refl }
factor (x ∷ xs) (suc i) h =
    let rest = factor xs i (omega arith) in
    record { quotient = x * rest.quotient; whole = ap (λ m. x * m) rest.whole ∙ mul_left_comm x (get_or xs i 0) rest.quotient }

divided : (p m : ℕ) → 1 ≤ m → IsMultiple p m → m * (p / m) ≡ p
divided p m pos is =
    let q : p / m ≡ is.quotient = ap (λ z. z / m) is.whole ∙ mul-div_cancel_left is.quotient pos in
    ap (λ z. m * z) q ∙ sym is.whole

-- the degree of a tile divides the product
pub tile_divides : (s : Symbol) → IsSymbol s → (d : ℕ) → IsChamber s d → item s.m01 d * (all_degrees s / item s.m01 d) ≡ all_degrees s
tile_divides s is d h =
    let long = is.table.m01_length in
    let f = factor s.m01 (d - 1) (omega arith) in
    divided (all_degrees s) (item s.m01 d) (is.degrees Tile d h).positive
    (record { quotient = f.quotient * product s.m12; whole = ap (λ z. z * product s.m12) f.whole ∙ mul_assoc (item s.m01 d) f.quotient (product s.m12) })

-- the degree of a vertex divides the product
pub vertex_divides : (s : Symbol) → IsSymbol s → (d : ℕ) → IsChamber s d → item s.m12 d * (all_degrees s / item s.m12 d) ≡ all_degrees s
vertex_divides s is d h =
    let long = is.table.m12_length in
    let f = factor s.m12 (d - 1) (omega arith) in
    divided (all_degrees s) (item s.m12 d) (is.degrees Vertex d h).positive
    (record { quotient = product s.m01 * f.quotient; whole = ap (λ z. product s.m01 * z) f.whole ∙ mul_left_comm (product s.m01) (item s.m12 d) f.quotient })
