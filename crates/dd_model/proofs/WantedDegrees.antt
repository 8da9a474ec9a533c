-- How large the degrees are where branching values are 1, 2, 3, 4 or 6, and what sets without a greatest number ask for.
use Rattle.std.proofs.Common.{◌≡◌, ℕ, zero, suc, ◌*◌, ◌<◌, ◌≤◌, ◌↔◌, [], ◌∷◌, slice_index_or, subst, sym, arith}
use Rattle.std.proofs.Math.Nat.{mul-le-mul_left, mul-le-mul_right}
use Rattle.dd_model.specs.declared.allowed.Allowed.{Allowed}
use Rattle.dd_model.specs.declared.requests.Request.{Request}
use Rattle.dd_model.specs.declared.pair.Pair.{Pair}
use Rattle.dd_model.specs.declared.pair.Pair.TheVariants.{Tile, Vertex}
use Rattle.dd_model.specs.Symbol.{Symbol, IsSymbol, IsChamber, item, degree}
use Rattle.dd_model.specs.Cell.{IsBranching}
use Rattle.dd_model.specs.Allowed.{IsIn, IsFrom}
use Rattle.dd_model.specs.Request.{IsValid}
use Rattle.dd_model.specs.Wanted.{IsCrystallographic, Wanted, WantedOfAnyDegrees, HasDegreesFrom}
use Rattle.dd_model.proofs.Branching.{branching_exists}
use Rattle.dd_model.proofs.Turns.{IsLeastTurns-from_period, least_turns_unique}
use Rattle.dd_model.proofs.CellWalks.{has_period}

-- what holds of 1, 2, 3, 4 and 6 holds of each branching value
pub by_value : (P : ℕ → Type 0) → P 1 → P 2 → P 3 → P 4 → P 6 → (v : ℕ) → IsCrystallographic v → P v
by_value P a b c d e v (zero, h, x) = subst P x a
by_value P a b c d e v (suc zero, h, x) = subst P x b
by_value P a b c d e v (suc (suc zero), h, x) = subst P x c
by_value P a b c d e v (suc (suc (suc zero)), h, x) = subst P x d
by_value P a b c d e v (suc (suc (suc (suc zero))), h, x) = subst P x e
by_value P a b c d e v (suc (suc (suc (suc (suc k)))), h, x) = absurd (omega (arith, h))

one_of_five : (v k : ℕ) → k < 5 → slice_index_or (1 ∷ 2 ∷ 3 ∷ 4 ∷ 6 ∷ []) k v ≡ v → v ≤ 6
one_of_five v zero h e = omega (arith, e)
one_of_five v (suc zero) h e = omega (arith, e)
one_of_five v (suc (suc zero)) h e = omega (arith, e)
one_of_five v (suc (suc (suc zero))) h e = omega (arith, e)
one_of_five v (suc (suc (suc (suc zero)))) h e = omega (arith, e)
one_of_five v (suc (suc (suc (suc (suc k))))) h e = absurd (omega arith)

product_bound : (v r m n : ℕ) → v ≤ 6 → r ≤ n → v * r ≡ m → m ≤ 6 * n
product_bound v r m n hv hr e =
    let a = mul-le-mul_right r hv in
    let b = mul-le-mul_left 6 hr in
    omega (arith, a, b, e)

-- A degree is the branching value, at most 6, times the turns of the cell, at most the chambers.
pub degree_bound : (s : Symbol) → IsSymbol s → (p : Pair) (d : ℕ) → IsChamber s d → ((v : ℕ) → IsBranching s p d v → IsCrystallographic v)
    → degree s p d ≤ 6 * s.size
degree_bound s is p d h crystal =
    let b = branching_exists s is p d h in
    let crystallographic = crystal b.0 b.1 in
    let r = has_period s is.table.involutions p d h in
    let same = least_turns_unique s p d b.1.r r.r b.1.least_turns (IsLeastTurns-from_period s is.table.involutions p d r.r h r.period) in
    product_bound b.0 b.1.r (degree s p d) s.size
    (one_of_five b.0 crystallographic.0 crystallographic.1 crystallographic.2)
    (subst (λ k. k ≤ s.size) (sym same) r.bound)
    b.1.quotient

-- without what the sets say
any_degrees : (q : Request) (s : Symbol) → Wanted q s → WantedOfAnyDegrees q s
any_degrees q s w = record {
  symbol = w.symbol;
  connected = w.connected;
  chambers = w.chambers;
  tiles = w.tiles;
  vertices = w.vertices;
  face_branching = w.face_branching;
  vertex_branching = w.vertex_branching;
  flat = w.flat;
  minimal = w.minimal;
}

in_set : (f m n c : ℕ) (a : Allowed) → IsFrom f a → m ≤ 6 * n → n ≤ c → c ≤ 36 → f ≤ m → IsIn a m
in_set f m n c a from bound few most low = (from m).1 (low, omega arith)

pub wanted_by_least_degrees : (q : Request) (s : Symbol) (f g : ℕ) → IsValid q → IsFrom f q.faces → IsFrom g q.degrees
    → Wanted q s ↔ (WantedOfAnyDegrees q s × HasDegreesFrom f g s)
wanted_by_least_degrees q s f g valid faces degrees = (
  λ w. (
    any_degrees q s w,
    record {
      faces = λ d h. ((faces (item s.m01 d)).0 (w.faces d h)).0;
      degrees = λ d h. ((degrees (item s.m12 d)).0 (w.degrees d h)).0;
    },
  ),
  λ both.
      let w = both.0 in
      let from = both.1 in
      record {
        symbol = w.symbol;
        connected = w.connected;
        chambers = w.chambers;
        tiles = w.tiles;
        vertices = w.vertices;
        faces = λ d h.
            in_set f (item s.m01 d) s.size q.chambers q.faces faces
            (degree_bound s w.symbol Tile d h (λ v. w.face_branching d v h)) w.chambers valid.chambers.1 (from.faces d h);
        degrees = λ d h.
            in_set g (item s.m12 d) s.size q.chambers q.degrees degrees
            (degree_bound s w.symbol Vertex d h (λ v. w.vertex_branching d v h)) w.chambers valid.chambers.1 (from.degrees d h);
        face_branching = w.face_branching;
        vertex_branching = w.vertex_branching;
        flat = w.flat;
        minimal = w.minimal;
      },
)
