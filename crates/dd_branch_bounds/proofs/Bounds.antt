-- The shares of the chambers of a partial table, and what they add up to.
use Rattle.std.proofs.Common.{◌≡◌, ℕ, zero, suc, ◌+◌, ◌-◌, ◌*◌, ◌/◌, ◌<◌, ◌≤◌, ◌⊎◌, List, [], ◌∷◌, length, get_or, refl, sym, ap, ◌∙◌, subst, ⊎_elim, arith}
use Rattle.std.proofs.lemmas.List.Sums.{sum_by-cons}
use Rattle.std.proofs.Math.Nat.{mul-le-mul_left}
use Rattle.std.specs.List.{sum, sum_by}
use Rattle.dd_model.specs.declared.pair.Pair.{Pair}
use Rattle.dd_model.specs.declared.pair.Pair.TheVariants.{Tile, Vertex, Edge}
use Rattle.dd_model.specs.declared.requests.Request.{Request}
use Rattle.dd_model.specs.Symbol.{Symbol, IsSymbol, IsChamber, item, degree}
use Rattle.dd_model.specs.Code.{count_from, chambers}
use Rattle.dd_model.specs.Flat.{all_degrees}
use Rattle.dd_model.specs.Wanted.{Wanted}
use Rattle.dd_branch_bounds.specs.Shares.{IsAllowed, degrees_of}
use Rattle.dd_branch_bounds.proofs.FlatBound.{part, add_parts}

-- a quotient, rounded up
pub rounded : (L den m : ℕ) → 1 ≤ den → den ≤ m → L + 1 ≤ (L / den + 1) * m
rounded L den m pos below =
    let whole : L + 1 ≤ (L / den + 1) * den = grind arith in
    let up : (L / den + 1) * den ≤ (L / den + 1) * m = mul-le-mul_left (L / den + 1) below in
    omega (arith, whole, up)

-- a degree of a wanted symbol is allowed
pub wanted_allowed : (q : Request) (s : Symbol) (p : Pair) (d : ℕ) → Wanted q s → IsChamber s d → IsAllowed q p (degree s p d)
wanted_allowed q s Tile d wanted h = wanted.faces d h
wanted_allowed q s Vertex d wanted h = wanted.degrees d h
wanted_allowed q s Edge d wanted h = refl

-- ## Totals

-- the reciprocals of a list of degrees are at most its shares
sum_of_parts : (D L : ℕ) (ms shares : List ℕ) → length ms ≤ length shares → ((j : ℕ) → j < length ms → L ≤ get_or shares j 0 * get_or ms j 0)
    → sum_by (λ m. D / m) ms * L ≤ D * sum shares
sum_of_parts D L [] shares room each = let e : 0 * L ≡ 0 = omega arith in omega (arith, e)
sum_of_parts D L (m ∷ ms) [] room each = absurd (omega arith)
sum_of_parts D L (m ∷ ms) (a ∷ shares) room each =
    let e = sum_by-cons (λ m. D / m) m ms in
    let f = sum_by-cons (λ (x : ℕ). x) a shares in
    let rest = sum_of_parts D L ms shares (omega arith) (λ j low. each (suc j) (omega arith)) in
    let both = add_parts D L (D / m) (sum_by (λ m. D / m) ms) a (sum shares) (part D L a m (each 0 (omega arith))) rest in
    subst (λ x. x * L ≤ D * sum (a ∷ shares)) (sym e) (subst (λ y. (D / m + sum_by (λ m. D / m) ms) * L ≤ D * y) (sym f) both)

degree_at : (s : Symbol) (p : Pair) (k : ℕ) → (p ≡ Tile) ⊎ (p ≡ Vertex) → get_or (degrees_of s p) k 0 ≡ degree s p (k + 1)
degree_at s p k which =
    let e : k + 1 - 1 ≡ k = omega arith in
    ⊎_elim
    (λ is. subst (λ p. get_or (degrees_of s p) k 0 ≡ degree s p (k + 1)) (sym is) (ap (λ j. get_or s.m01 j 0) (sym e)))
    (λ is. subst (λ p. get_or (degrees_of s p) k 0 ≡ degree s p (k + 1)) (sym is) (ap (λ j. get_or s.m12 j 0) (sym e)))
    which

length-degrees : (s : Symbol) → IsSymbol s → (p : Pair) → length (degrees_of s p) ≡ s.size
length-degrees s is Tile = is.table.m01_length
length-degrees s is Vertex = is.table.m12_length
length-degrees s is Edge = is.table.m01_length

-- the shares of the chambers of a symbol bound what its degrees add
pub bounds_of_shares : (s : Symbol) → IsSymbol s → (p : Pair) (L : ℕ) (shares : List ℕ) → (p ≡ Tile) ⊎ (p ≡ Vertex) → s.size ≤ length shares
    → ((d : ℕ) → 1 ≤ d → d ≤ s.size → L ≤ item shares d * degree s p d) → sum_by (λ m. all_degrees s / m) (degrees_of s p) * L ≤ all_degrees s * sum shares
bounds_of_shares s is p L shares which room each =
    let len = length-degrees s is p in
    sum_of_parts (all_degrees s) L (degrees_of s p) shares (omega (arith, len, room))
    (λ j low.
    let e : j + 1 - 1 ≡ j = omega arith in
    let share = each (j + 1) (omega arith) (omega (arith, low, len)) in
    subst (λ m. L ≤ get_or shares j 0 * m) (sym (degree_at s p j which)) (subst (λ i. L ≤ get_or shares i 0 * degree s p (j + 1)) e share))

-- ## Totals of cells

sum_of_degrees : (w : ℕ → ℕ) (ms : List ℕ) (n k : ℕ) (at : ℕ → ℕ) → length ms ≡ n → ((j : ℕ) → j < n → at (k + j) ≡ get_or ms j 0)
    → sum_by (λ d. w (at d)) (count_from k n) ≡ sum_by w ms
sum_of_degrees w [] zero k at len each = refl
sum_of_degrees w [] (suc n) k at len each = absurd (omega arith)
sum_of_degrees w (m ∷ ms) zero k at len each = absurd (omega arith)
sum_of_degrees w (m ∷ ms) (suc n) k at len each =
    let none : k + 0 ≡ k = omega arith in
    let first = ap w (ap at (sym none) ∙ each 0 (omega arith)) in
    let rest = sum_of_degrees w ms n (k + 1) at (omega arith) (λ j low. let e : k + 1 + j ≡ k + suc j = omega arith in ap at e ∙ each (suc j) (omega arith)) in
    let a = sum_by-cons (λ d. w (at d)) k (count_from (k + 1) n) in
    let b = sum_by-cons w m ms in
    omega (arith, first, rest, a, b)

-- the sum over the chambers is that over the list of degrees
pub sum_over_degrees : (s : Symbol) → IsSymbol s → (p : Pair) (w : ℕ → ℕ) → (p ≡ Tile) ⊎ (p ≡ Vertex) → sum_by (λ d. w (degree s p d)) (chambers s) ≡ sum_by w (degrees_of s p)
sum_over_degrees s is p w which =
    sum_of_degrees w (degrees_of s p) s.size 1 (degree s p) (length-degrees s is p)
    (λ j low. let e : 1 + j ≡ j + 1 = omega arith in ap (degree s p) e ∙ sym (degree_at s p j which))
