-- The orbits of an involution: twice their number is the number of the chambers and of the fixed chambers.
use Rattle.std.proofs.Common.{◌≡◌, ℕ, ◌+◌, ◌*◌, ◌<◌, nat_le, eqb, length, map, get_or, refl, sym, ap, ◌∙◌, subst, ⊎_elim, arith}
use Rattle.std.specs.List.{Contains, sum_by}
use Rattle.std.proofs.lemmas.Bool.{cases_eq, cases_lt}
use Rattle.std.proofs.lemmas.List.{get_or-map, get_or_default, length-map}
use Rattle.dd_model.specs.declared.index.Index.{Index}
use Rattle.dd_model.specs.Symbol.{Symbol, AreInvolutions, IsChamber, op}
use Rattle.dd_model.specs.Code.{chambers}
use Rattle.dd_model.proofs.Counts.{AreApart, same_totals}
use Rattle.dd_model.proofs.CountFrom.{length-count_from, get_or-count_from}
use Rattle.dd_cells.specs.Euler.{orbits}
use Rattle.dd_cells.specs.Surface.{fixed_chambers}
use Rattle.dd_cells.proofs.CellSums.{sum_by_listed, sum_by_equal, sum_by_both, sum_by_same, sum_by-map, chamber_listed, listed_chamber}
use Rattle.dd_cells.proofs.FixedFlags.{one_if, fixed_flag}

-- the image of chamber number k + 1
image_at : (s : Symbol) (i : Index) (k : ℕ) → k < s.size → get_or (map (op s i) (chambers s)) k 0 ≡ op s i (k + 1)
image_at s i k below =
    let size = length-count_from 1 s.size in
    get_or-map (op s i) (chambers s) k 0 0 (omega arith) ∙ ap (op s i) (get_or-count_from 1 s.size k below ∙ omega arith)

length-images : (s : Symbol) (i : Index) → length (map (op s i) (chambers s)) ≡ s.size
length-images s i = length-map (chambers s) (op s i) ∙ length-count_from 1 s.size

images_apart : (s : Symbol) → AreInvolutions s → (i : Index) → AreApart (map (op s i) (chambers s))
images_apart s inv i j k low high same =
    let size = length-images s i in
    let hj : IsChamber s (j + 1) = (omega arith, omega arith) in
    let hk : IsChamber s (k + 1) = (omega arith, omega arith) in
    let equal = ap (op s i) (sym (image_at s i j (omega arith)) ∙ same ∙ image_at s i k (omega arith)) in
    let back = sym ((inv i).involutive (j + 1) hj) ∙ equal ∙ (inv i).involutive (k + 1) hk in
    omega arith

images_within : (s : Symbol) → AreInvolutions s → (i : Index) (z : ℕ) → Contains (map (op s i) (chambers s)) z → Contains (chambers s) z
images_within s inv i z (k, below, e) =
    let size = length-images s i in
    let h : IsChamber s (k + 1) = (omega arith, omega arith) in
    let at : op s i (k + 1) ≡ z = sym (image_at s i k (omega arith)) ∙ get_or_default (map (op s i) (chambers s)) k 0 z below ∙ e in
    chamber_listed s z (subst (IsChamber s) at ((inv i).within (k + 1) h))

-- A sum over the images is the sum over the chambers.
pub sum_over_images : (s : Symbol) → AreInvolutions s → (i : Index) (g : ℕ → ℕ) → sum_by (λ d. g (op s i d)) (chambers s) ≡ sum_by g (chambers s)
sum_over_images s inv i g =
    let images = map (op s i) (chambers s) in
    let totals = same_totals (λ x. x) g images (chambers s) (images_apart s inv i) (images_within s inv i) (length-images s i ∙ sym (length-count_from 1 s.size)) in
    sym (sum_by-map g (op s i) (chambers s)) ∙ sym (sum_by-map (λ x. x) g images) ∙ totals.sum ∙ sum_by-map (λ x. x) g (chambers s)

-- one of the two is smaller, or they are equal
both_ways : (a b : ℕ) → one_if (nat_le a b) + one_if (nat_le b a) ≡ 1 + one_if (eqb b a)
both_ways a b =
    ⊎_elim
    (λ e. grind arith)
    (λ ne. ⊎_elim (λ low. grind arith) (λ high. grind arith) (cases_lt a b))
    (cases_eq a b)

pub twice_orbits : (s : Symbol) → AreInvolutions s → (i : Index) → s.size + fixed_chambers s i ≡ 2 * orbits s i
unfolding orbits
twice_orbits s inv i =
    let g : ℕ → ℕ = λ d. one_if (nat_le d (op s i d)) in
    let h : ℕ → ℕ = λ d. one_if (nat_le (op s i d) d) in
    let size = length-count_from 1 s.size in
    let turned : sum_by h (chambers s) ≡ sum_by g (chambers s) =
    sum_by_listed h (λ d. g (op s i d)) (chambers s)
    (λ d listed. ap (λ e. one_if (nat_le (op s i d) e)) (sym ((inv i).involutive d (listed_chamber s d listed))))
    ∙ sum_over_images s inv i g in
    let both = sum_by_both g h (chambers s) in
    let split = sum_by_both (λ _. 1) (fixed_flag s i) (chambers s) in
    let ones = sum_by_same (λ _. 1) 1 (chambers s) (λ _ _. refl) in
    let same = sum_by_equal (λ d. g d + h d) (λ d. 1 + fixed_flag s i d) (λ d. both_ways d (op s i d)) (chambers s) in
    omega arith
