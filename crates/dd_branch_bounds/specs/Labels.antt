-- Labels of the chambers of a table.
use Rattle.std.specs.Prelude.{ℕ, List, cond, nat_eq}
use Rattle.std.specs.List.{sum_by}

-- how many of some chambers have the label
abbrev pub count_label : (ℕ → ℕ) → ℕ → List ℕ → ℕ
count_label f a ds = sum_by (λ d. cond (nat_eq (f d) a) 1 0) ds

-- the label a in place of b
abbrev pub relabel : (ℕ → ℕ) → ℕ → ℕ → ℕ → ℕ
relabel f a b d = cond (nat_eq (f d) b) a (f d)

-- the share v for the label a
abbrev pub reshare : (ℕ → ℕ) → ℕ → ℕ → ℕ → ℕ
reshare g a v l = cond (nat_eq l a) v (g l)
