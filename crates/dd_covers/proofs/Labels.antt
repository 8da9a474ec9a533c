-- Links between numbers: n of them join n + 1 numbers at most.
use Rattle.std.proofs.Common.{◌≡◌, ℕ, suc, ◌+◌, ◌<◌, ◌≤◌, Bool, true, false, not, cond, eqb, List, [], ◌∷◌, ◌++◌, length, map, refl, sym, ap, ◌∙◌, subst, ⊎_elim, arith}
use Rattle.std.proofs.lemmas.Bool.{cases_eq, eq-eqb, ne_eqb}
use Rattle.std.proofs.lemmas.List.Kept.{IsStrictlyIncreasing-filter}
use Rattle.std.proofs.lemmas.List.Elements.{Contains-append_cases}
use Rattle.std.specs.List.{Contains, filter}
use Rattle.std.specs.List.Sorted.{IsStrictlyIncreasing}
use Rattle.dd_model.proofs.CellLists.{increasing-head, increasing-tail, increasing-cons}
use Rattle.dd_model.proofs.Lists.{Contains-none, Contains-head, Contains-later, Contains-cases}
use Rattle.dd_covers.proofs.Mapped.{Contains-from_map}
use Rattle.dd_cells.proofs.CellSums.{Contains-from_filter}

-- two numbers that are joined
pub record Link : Type 0 where
  pub from : ℕ
  pub to : ℕ

-- Each link gives the numbers that are labeled as its one end the label of its other end.
abbrev pub labels : List Link → ℕ → ℕ
labels [] v = v
labels (e ∷ es) v = cond (eqb (labels es v) (labels es e.from)) (labels es e.to) (labels es v)

-- ## Linked numbers have one label

relabeled : (a b v : ℕ) → v ≡ a → cond (eqb v a) b v ≡ b
relabeled a b v e = ap (λ t. cond t b v) (eq-eqb v a e)

kept : (a b v : ℕ) → (v ≡ a → ⊥) → cond (eqb v a) b v ≡ v
kept a b v e = ap (λ t. cond t b v) (ne_eqb v a e)

-- the end to which a link leads has a label that stays
end_label : (a b : ℕ) → cond (eqb b a) b b ≡ b
end_label a b = elim (eqb b a) as (λ t. cond t b b ≡ b) [ true ↦ refl | false ↦ refl ]

pub linked : (es : List Link) (e : Link) → Contains es e → labels es e.from ≡ labels es e.to
linked [] e here = absurd (Contains-none e here)
linked (x ∷ es) e here =
    ⊎_elim
    (λ same.
    let own = relabeled (labels es x.from) (labels es x.to) (labels es x.from) refl ∙ sym (end_label (labels es x.from) (labels es x.to)) in
    subst (λ (y : Link). labels (x ∷ es) y.from ≡ labels (x ∷ es) y.to) same own)
    (λ later. ap (λ v. cond (eqb v (labels es x.from)) (labels es x.to) v) (linked es e later))
    (Contains-cases x e es here)

-- what is equal along the links is that of the label
pub label_value : (es : List Link) (h : ℕ → ℕ) → ((e : Link) → Contains es e → h e.from ≡ h e.to) → (v : ℕ) → h (labels es v) ≡ h v
label_value [] h same v = refl
label_value (e ∷ es) h same v =
    let before = label_value es h (λ x later. same x (Contains-later e x es later)) in
    ⊎_elim
    (λ at. ap h (relabeled (labels es e.from) (labels es e.to) (labels es v) at) ∙ before e.to ∙ sym (same e (Contains-head e es)) ∙ sym (before e.from) ∙ ap h (sym at) ∙ before v)
    (λ other. ap h (kept (labels es e.from) (labels es e.to) (labels es v) other) ∙ before v)
    (cases_eq (labels es v) (labels es e.from))

-- ## Each link takes one label away

length-filter_all : (p : ℕ → Bool) (xs : List ℕ) → ((x : ℕ) → Contains xs x → p x ≡ true) → length (filter p xs) ≡ length xs
length-filter_all p [] all = refl
length-filter_all p (x ∷ xs) all =
    let rest = length-filter_all p xs (λ y later. all y (Contains-later x y xs later)) in
    ap (λ t. length (cond t (x ∷ filter p xs) (filter p xs))) (all x (Contains-head x xs)) ∙ ap suc rest

abbrev other_than : ℕ → ℕ → Bool
other_than a z = not (eqb z a)

one_fewer : (a : ℕ) (xs : List ℕ) → IsStrictlyIncreasing xs → length xs ≤ length (filter (other_than a) xs) + 1
one_fewer a [] up = omega arith
one_fewer a (x ∷ xs) up =
    ⊎_elim
    (λ here.
    let gone : length (filter (other_than a) (x ∷ xs)) ≡ length (filter (other_than a) xs) =
    ap (λ t. length (cond (not t) (x ∷ filter (other_than a) xs) (filter (other_than a) xs))) (eq-eqb x a here) in
    let rest = length-filter_all (other_than a) xs (λ y later. let above = increasing-head x y xs up later in ap not (ne_eqb y a (λ e. absurd (omega arith)))) in
    omega arith)
    (λ other.
    let stays : length (filter (other_than a) (x ∷ xs)) ≡ suc (length (filter (other_than a) xs)) =
    ap (λ t. length (cond (not t) (x ∷ filter (other_than a) xs) (filter (other_than a) xs))) (ne_eqb x a other) in
    let rest = one_fewer a xs (increasing-tail x xs up) in
    omega arith)
    (cases_eq x a)

-- some of the numbers, all but one for each link, keep themselves for labels
pub record AreKept (es : List Link) (vs : List ℕ) : Type 0 where
  pub kept : List ℕ
  pub ascending : IsStrictlyIncreasing kept
  pub among : (v : ℕ) → Contains kept v → Contains vs v
  pub own : (v : ℕ) → Contains kept v → labels es v ≡ v
  pub many : length vs ≤ length kept + length es

pub some_are_kept : (es : List Link) (vs : List ℕ) → IsStrictlyIncreasing vs → AreKept es vs
some_are_kept [] vs up = record { kept = vs; ascending = up; among = λ v here. here; own = λ v here. refl; many = omega arith }
some_are_kept (e ∷ es) vs up =
    let before = some_are_kept es vs up in
    let a = labels es e.from in
    let rest = filter (other_than a) before.kept in
    let few = one_fewer a before.kept before.ascending in
    let many = before.many in
    record {
      kept = rest;
      ascending = IsStrictlyIncreasing-filter (other_than a) before.kept before.ascending;
      among = λ v here. before.among v (Contains-from_filter (other_than a) before.kept v here).0;
      own = λ v here.
          let from = Contains-from_filter (other_than a) before.kept v here in
          let same = before.own v from.0 in
          kept a (labels es e.to) (labels es v) (λ at. let t = eq-eqb v a (sym same ∙ at) in let n : not (eqb v a) ≡ true = from.1 in let f : not (eqb v a) ≡ false = ap not t in absurd (cc)) ∙ same;
      many = omega arith;
    }

one_at_most : (xs : List ℕ) (c : ℕ) → IsStrictlyIncreasing xs → ((x : ℕ) → Contains xs x → x ≡ c) → length xs ≤ 1
one_at_most [] c up same = omega arith
one_at_most (x ∷ []) c up same = omega arith
one_at_most (x ∷ y ∷ xs) c up same =
    let above = increasing-head x y (y ∷ xs) up (Contains-head y xs) in
    let a = same x (Contains-head x (y ∷ xs)) in
    let b = same y (Contains-later x y (y ∷ xs) (Contains-head y xs)) in
    absurd (omega arith)

-- Numbers that links give one label are one more than the links at most.
pub joined_by_links : (es : List Link) (vs : List ℕ) (c : ℕ) → IsStrictlyIncreasing vs → ((v : ℕ) → Contains vs v → labels es v ≡ c) → length vs ≤ length es + 1
joined_by_links es vs c up same =
    let left = some_are_kept es vs up in
    let one = one_at_most left.kept c left.ascending (λ v here. sym (left.own v here) ∙ same v (left.among v here)) in
    let many = left.many in
    omega arith

-- ## Ascending lists put together

pub increasing_append : (xs ys : List ℕ) → IsStrictlyIncreasing xs → IsStrictlyIncreasing ys → ((x y : ℕ) → Contains xs x → Contains ys y → x < y) → IsStrictlyIncreasing (xs ++ ys)
increasing_append [] ys up above apart = above
increasing_append (x ∷ xs) ys up above apart =
    increasing-cons x (xs ++ ys)
    (λ z here. ⊎_elim (λ one. increasing-head x z xs up one) (λ two. apart x z (Contains-head x xs) two) (Contains-append_cases xs ys z here))
    (increasing_append xs ys (increasing-tail x xs up) above (λ a b ha hb. apart a b (Contains-later x a xs ha) hb))

pub increasing_map : (f : ℕ → ℕ) → ((x y : ℕ) → x < y → f x < f y) → (xs : List ℕ) → IsStrictlyIncreasing xs → IsStrictlyIncreasing (map f xs)
increasing_map f rises [] up = up
increasing_map f rises (x ∷ xs) up =
    increasing-cons (f x) (map f xs)
    (λ z here. let from = Contains-from_map f xs z here in subst (λ y. f x < y) from.2 (rises x from.0 (increasing-head x from.0 xs up from.1)))
    (increasing_map f rises xs (increasing-tail x xs up))
