-- Links of which each joins two labels: n of them need n + 1 numbers.
use Rattle.std.proofs.Common.{◌≡◌, ◌≢◌, ℕ, ◌+◌, ◌≤◌, cond, eqb, List, [], ◌∷◌, length, refl, sym, ap, ◌∙◌, subst, ⊎_elim, arith}
use Rattle.std.proofs.lemmas.Bool.{cases_eq, eq-eqb, ne_eqb}
use Rattle.std.proofs.lemmas.List.Sums.{sum_by-cons}
use Rattle.std.specs.List.{Contains, sum_by}
use Rattle.std.specs.List.Sorted.{IsStrictlyIncreasing}
use Rattle.dd_model.proofs.Lists.{Contains-none, Contains-head, Contains-later, Contains-cases}
use Rattle.dd_cells.proofs.CellSums.{sum_by_listed, sum_by_both}
use Rattle.dd_covers.proofs.Labels.{Link, labels, linked, label_value}
use Rattle.dd_covers.proofs.Solving.{one_hit}

-- each link joins two labels that those after it in the list give
abbrev pub AreFresh : List Link → Type 0
AreFresh [] = Unit {0}
AreFresh (e ∷ es) = (labels es e.from ≢ labels es e.to) × AreFresh es

-- the ends are among the numbers
abbrev pub AreAmong : List ℕ → List Link → Type 0
AreAmong vs es = (e : Link) → Contains es e → Contains vs e.from × Contains vs e.to

label_again : (es : List Link) (v : ℕ) → labels es (labels es v) ≡ labels es v
label_again es v = label_value es (labels es) (linked es) v

labels_among : (vs : List ℕ) (es : List Link) → AreAmong vs es → (v : ℕ) → Contains vs v → Contains vs (labels es v)
labels_among vs [] among v here = here
labels_among vs (e ∷ es) among v here =
    let rest = labels_among vs es (λ x later. among x (Contains-later e x es later)) in
    let to = rest e.to (among e (Contains-head e es)).1 in
    ⊎_elim
    (λ at. subst (Contains vs) (sym (ap (λ t. cond t (labels es e.to) (labels es v)) (eq-eqb (labels es v) (labels es e.from) at))) to)
    (λ other. subst (Contains vs) (sym (ap (λ t. cond t (labels es e.to) (labels es v)) (ne_eqb (labels es v) (labels es e.from) other))) (rest v here))
    (cases_eq (labels es v) (labels es e.from))

-- 1 for a number that is its own label
abbrev own : List Link → ℕ → ℕ
own es v = cond (eqb (labels es v) v) 1 0

own_yes : (es : List Link) (v : ℕ) → labels es v ≡ v → own es v ≡ 1
own_yes es v e = ap (λ t. cond t 1 0) (eq-eqb (labels es v) v e)

own_no : (es : List Link) (v : ℕ) → labels es v ≢ v → own es v ≡ 0
own_no es v e = ap (λ t. cond t 1 0) (ne_eqb (labels es v) v e)

hit_yes : (a v : ℕ) → a ≡ v → ◌≡◌ {A = ℕ} (cond (eqb a v) 1 0) 1
hit_yes a v e = ap (λ t. cond t 1 0) (eq-eqb a v e)

hit_no : (a v : ℕ) → a ≢ v → ◌≡◌ {A = ℕ} (cond (eqb a v) 1 0) 0
hit_no a v e = ap (λ t. cond t 1 0) (ne_eqb a v e)

-- a link takes its first end's label away, and no other
one_gone : (e : Link) (es : List Link) → labels es e.from ≢ labels es e.to → (v : ℕ) → own (e ∷ es) v + cond (eqb (labels es e.from) v) 1 0 ≡ own es v
one_gone e es fresh v =
    let a = labels es e.from in
    let b = labels es e.to in
    ⊎_elim
    (λ label. let new : labels (e ∷ es) v ≡ b = ap (λ t. cond t b (labels es v)) (eq-eqb (labels es v) a label) in
    ⊎_elim
    (λ at.
    let gone = own_no (e ∷ es) v (λ same. fresh (at ∙ sym same ∙ new)) in
    let had = own_yes es v (label ∙ at) in
    let hit = hit_yes a v at in
    omega arith)
    (λ off.
    let none = own_no es v (λ same. off (sym label ∙ same)) in
    let miss = hit_no a v off in
    let still = own_no (e ∷ es) v (λ same.
    let is : b ≡ v = sym new ∙ same in
    off (sym label ∙ ap (labels es) (sym is) ∙ label_again es e.to ∙ is)) in
    omega arith)
    (cases_eq a v))
    (λ other.
    let kept : labels (e ∷ es) v ≡ labels es v = ap (λ t. cond t b (labels es v)) (ne_eqb (labels es v) a other) in
    let same : own (e ∷ es) v ≡ own es v = ap (λ z. cond (eqb z v) 1 0) kept in
    let miss = hit_no a v (λ at. other (ap (labels es) (sym at) ∙ label_again es e.from)) in
    omega arith)
    (cases_eq (labels es v) a)

all_own : (vs : List ℕ) → sum_by (own []) vs ≡ length vs
all_own [] = refl
all_own (v ∷ vs) = let split = sum_by-cons (own []) v vs in let one = own_yes [] v refl in let rest = all_own vs in omega arith

own_count : (vs : List ℕ) → IsStrictlyIncreasing vs → (es : List Link) → AreFresh es → AreAmong vs es → sum_by (own es) vs + length es ≡ length vs
own_count vs up [] fresh among = let all = all_own vs in omega arith
own_count vs up (e ∷ es) fresh among =
    let later : AreAmong vs es = λ x here. among x (Contains-later e x es here) in
    let before = own_count vs up es fresh.1 later in
    let a = labels es e.from in
    let here = labels_among vs es later e.from (among e (Contains-head e es)).0 in
    let hit = one_hit a 0 vs up here (λ v. 1) in
    let both = sum_by_both (own (e ∷ es)) (λ v. cond (eqb a v) 1 0) vs in
    let same = sum_by_listed (λ v. own (e ∷ es) v + cond (eqb a v) 1 0) (own es) vs (λ v listed. one_gone e es fresh.0 v) in
    omega arith

pub at_least : (f : ℕ → ℕ) (xs : List ℕ) (x : ℕ) → Contains xs x → f x ≤ sum_by f xs
at_least f [] x here = absurd (Contains-none x here)
at_least f (y ∷ xs) x here =
    let split = sum_by-cons f y xs in
    ⊎_elim
    (λ same. let e = ap f same in omega arith)
    (λ later. let rest = at_least f xs x later in omega arith)
    (Contains-cases y x xs here)

pub fresh_links : (vs : List ℕ) → IsStrictlyIncreasing vs → (v : ℕ) → Contains vs v → (es : List Link) → AreFresh es → AreAmong vs es → length es + 1 ≤ length vs
fresh_links vs up v here es fresh among =
    let count = own_count vs up es fresh among in
    let head = at_least (own es) vs (labels es v) (labels_among vs es among v here) in
    let one = own_yes es (labels es v) (label_again es v) in
    omega arith
