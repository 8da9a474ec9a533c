-- What the levels of a search weigh falls with each number that is tried.
use Rattle.std.proofs.Common.{◌≡◌, ℕ, suc, ◌+◌, ◌-◌, ◌*◌, ◌^◌, ◌<◌, ◌≤◌, List, [], ◌∷◌, length, ap, ◌∙◌, arith}
use Rattle.std.proofs.Math.Nat.{pow-succ', one-le-pow}
use Rattle.dd_branch_tables.specs.Chambers.{HasNone}
use Rattle.dd_branch_tables.specs.declared.level.Level.{Level}
use Rattle.dd_branch_tables.specs.Levels.{weight, weight_of, weight_before}

-- less is left of a digit
less_left : (a b w rest : ℕ) → b < a → 1 ≤ w → 2 * b * w + rest + 1 < 2 * a * w + rest + 1
less_left a b w rest less some =
    let e = a - b - 1 in
    let whole : a ≡ b + 1 + e = omega arith in
    let product : 2 * a * w ≡ 2 * (b + 1 + e) * w = ap (λ z. 2 * z * w) whole in
    omega arith

-- less is left of a digit, and the next one is new
less_before : (a b c w v base rest : ℕ) → b < a → w ≡ base * v → 2 * c < base → 1 ≤ v → 2 * c * v + ((2 * b + 1) * w + rest) + 1 < 2 * a * w + rest + 1
less_before a b c w v base rest less is small some =
    let e = a - b - 1 in
    let f = base - 2 * c - 1 in
    let whole : a ≡ b + 1 + e = omega arith in
    let product : 2 * a * w ≡ 2 * (b + 1 + e) * w = ap (λ z. 2 * z * w) whole in
    let wide : base ≡ 2 * c + 1 + f = omega arith in
    let parts : w ≡ (2 * c + 1 + f) * v = is ∙ ap (λ z. z * v) wide in
    omega arith

some_weight : (levels : List Level) → 1 ≤ weight_of levels
some_weight levels = one-le-pow (109 - length levels) (2 ^ 65) (omega arith)

next_weight : (level : Level) (levels : List Level) → length levels < 109 → weight_of levels ≡ 2 ^ 65 * weight_of (level ∷ levels)
next_weight level levels few =
    let e : 109 - length levels ≡ suc (109 - suc (length levels)) = omega arith in
    ap (λ k. (2 ^ 65) ^ k) e ∙ pow-succ' (2 ^ 65) (109 - suc (length levels))

-- a level at which nothing is left is taken away
pub lighter_popped : (level : Level) (levels : List Level) → HasNone level.left → weight levels < weight (level ∷ levels)
lighter_popped level [] empty = omega arith
lighter_popped level (below ∷ levels) empty =
    let w = some_weight levels in
    let v = weight_of levels in
    let gone : 2 * level.left.bits * weight_of (below ∷ levels) ≡ 2 * 0 * weight_of (below ∷ levels) = ap (λ z. 2 * z * weight_of (below ∷ levels)) empty in
    omega arith

-- a number that was left was tried
pub lighter_tried : (level later : Level) (levels : List Level) → later.left.bits < level.left.bits → weight (later ∷ levels) < weight (level ∷ levels)
lighter_tried level later levels less = less_left level.left.bits later.left.bits (weight_of levels) (weight_before levels) less (some_weight levels)

-- a number that was left led to a new level
pub lighter_entered : (level later new : Level) (levels : List Level) → later.left.bits < level.left.bits → new.left.bits < 2 ^ 64 → length levels < 109
    → weight (new ∷ later ∷ levels) < weight (level ∷ levels)
lighter_entered level later new levels less small few =
    less_before level.left.bits later.left.bits new.left.bits (weight_of levels) (weight_of (later ∷ levels)) (2 ^ 65) (weight_before levels) less
    (next_weight later levels few) (omega arith) (some_weight (later ∷ levels))
