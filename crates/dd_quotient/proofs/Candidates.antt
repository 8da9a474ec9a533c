-- Lists of all that may be a member: five lists of numbers up to a bound.
use Rattle.std.proofs.Common.{◌≡◌, ℕ, zero, suc, ◌+◌, ◌-◌, ◌<◌, ◌≤◌, List, [], ◌∷◌, ◌++◌, map, length, get_or, subst, ⊎_elim, arith}
use Rattle.std.proofs.lemmas.Bool.{cases_eq}
use Rattle.std.proofs.lemmas.List.Elements.{Contains-append_left, Contains-append_right}
use Rattle.std.specs.List.{Contains}
use Rattle.dd_model.specs.declared.index.Index.{Index}
use Rattle.dd_model.specs.declared.index.Index.TheVariants.{Zero, One, Two}
use Rattle.dd_model.specs.declared.requests.Request.{Request}
use Rattle.dd_model.specs.Symbol.{Symbol, IsChamber, IsTable, item, operation}
use Rattle.dd_model.specs.Code.{count_from}
use Rattle.dd_model.specs.Wanted.{IsMember}
use Rattle.dd_model.proofs.AllowedLemmas.{in_small}
use Rattle.dd_model.proofs.CountFrom.{count_contains}
use Rattle.dd_model.proofs.Lists.{Contains-none, Contains-cases, Contains-head, Contains-map}

-- each function at each value
applied : {A B : Type 0} → List (A → B) → List A → List B
applied [] xs = []
applied (f ∷ fs) xs = map f xs ++ applied fs xs

Contains-applied : {A B : Type 0} (fs : List (A → B)) (xs : List A) (f : A → B) (x : A) → Contains fs f → Contains xs x → Contains (applied fs xs) (f x)
unfolding applied
Contains-applied [] xs f x hf hx = absurd (Contains-none f hf)
Contains-applied (g ∷ fs) xs f x hf hx =
    ⊎_elim
    (λ first. Contains-append_left (map g xs) (applied fs xs) (f x) (subst (λ h. Contains (map g xs) (h x)) first (Contains-map g xs x hx)))
    (λ later. Contains-append_right (map g xs) (applied fs xs) (f x) (Contains-applied fs xs f x later hx))
    (Contains-cases g f fs hf)

cons : ℕ → List ℕ → List ℕ
cons x xs = x ∷ xs

-- all lists of n numbers below a bound
rows_below : ℕ → ℕ → List (List ℕ)
rows_below bound zero = [] ∷ []
rows_below bound (suc n) = applied (map cons (count_from 0 bound)) (rows_below bound n)

Contains-rows : (bound n : ℕ) (xs : List ℕ) → length xs ≡ n → ((k : ℕ) → k < length xs → get_or xs k 0 < bound) → Contains (rows_below bound n) xs
unfolding rows_below cons
Contains-rows bound zero [] e below = Contains-head [] []
Contains-rows bound zero (x ∷ xs) e below = absurd (omega arith)
Contains-rows bound (suc n) [] e below = absurd (omega arith)
Contains-rows bound (suc n) (x ∷ xs) e below =
    Contains-applied (map cons (count_from 0 bound)) (rows_below bound n) (cons x) xs
    (Contains-map cons (count_from 0 bound) x (count_contains 0 bound x (omega arith) (let low = below 0 (omega arith) in omega arith)))
    (Contains-rows bound n xs (omega arith) (λ k h. below (suc k) (omega arith)))

of_lists : ℕ → List ℕ → List ℕ → List ℕ → List ℕ → List ℕ → Symbol
of_lists n s0 s1 s2 m01 m12 = record { size = n; s0 = s0; s1 = s1; s2 = s2; m01 = m01; m12 = m12 }

-- all that have n chambers and numbers below a bound
of_size : ℕ → ℕ → List Symbol
of_size bound n =
    let rows = rows_below bound n in
    applied (applied (applied (applied (map (of_lists n) rows) rows) rows) rows) rows

-- and all that have at most n
up_to_size : ℕ → ℕ → List Symbol
up_to_size bound zero = of_size bound zero
up_to_size bound (suc n) = of_size bound (suc n) ++ up_to_size bound n

record IsBounded (bound : ℕ) (s : Symbol) : Type 0 where
  pub s0 : Contains (rows_below bound s.size) s.s0
  pub s1 : Contains (rows_below bound s.size) s.s1
  pub s2 : Contains (rows_below bound s.size) s.s2
  pub m01 : Contains (rows_below bound s.size) s.m01
  pub m12 : Contains (rows_below bound s.size) s.m12

Contains-of_size : (bound : ℕ) (s : Symbol) → IsBounded bound s → Contains (of_size bound s.size) s
unfolding of_size of_lists
Contains-of_size bound s b =
    let n = s.size in
    let rows = rows_below bound n in
    let one = map (of_lists n) rows in
    let two = applied one rows in
    let three = applied two rows in
    let four = applied three rows in
    Contains-applied four rows (of_lists n s.s0 s.s1 s.s2 s.m01) s.m12
    (Contains-applied three rows (of_lists n s.s0 s.s1 s.s2) s.m01
    (Contains-applied two rows (of_lists n s.s0 s.s1) s.s2
    (Contains-applied one rows (of_lists n s.s0) s.s1 (Contains-map (of_lists n) rows s.s0 b.s0) b.s1)
    b.s2)
    b.m01)
    b.m12

Contains-up_to_size : (bound n : ℕ) (s : Symbol) → s.size ≤ n → IsBounded bound s → Contains (up_to_size bound n) s
unfolding up_to_size
Contains-up_to_size bound zero s few b =
    let e : s.size ≡ zero = omega arith in
    subst (λ k. Contains (of_size bound k) s) e (Contains-of_size bound s b)
Contains-up_to_size bound (suc n) s few b =
    ⊎_elim
    (λ last. Contains-append_left (of_size bound (suc n)) (up_to_size bound n) s (subst (λ k. Contains (of_size bound k) s) last (Contains-of_size bound s b)))
    (λ other. Contains-append_right (of_size bound (suc n)) (up_to_size bound n) s (Contains-up_to_size bound n s (omega arith) b))
    (cases_eq s.size (suc n))

-- ## Members are among them

row_of : (s : Symbol) (bound : ℕ) (xs : List ℕ) → length xs ≡ s.size → ((d : ℕ) → IsChamber s d → item xs d < bound) → Contains (rows_below bound s.size) xs
row_of s bound xs e below = Contains-rows bound s.size xs e (λ k h.
    let place : k + 1 - 1 ≡ k = omega arith in
    subst (λ j. get_or xs j 0 < bound) place (below (k + 1) (omega arith, omega arith)))

-- The bound is over all images, which are at most the chambers that are asked for, and over all degrees, which are at most 216.
pub candidates : Request → List Symbol
candidates q = up_to_size (q.chambers + 217) q.chambers

pub members_are_candidates : (q : Request) (s : Symbol) → IsMember q s → Contains (candidates q) s
unfolding candidates
members_are_candidates q s member = Contains-up_to_size (q.chambers + 217) q.chambers s few (record {
  s0 = images Zero;
  s1 = images One;
  s2 = images Two;
  m01 = row_of s (q.chambers + 217) s.m01 table.m01_length (λ d h. let small = in_small q.faces (item s.m01 d) (member.wanted.faces d h) in omega arith);
  m12 = row_of s (q.chambers + 217) s.m12 table.m12_length (λ d h. let small = in_small q.degrees (item s.m12 d) (member.wanted.degrees d h) in omega arith);
})
  where
    few : s.size ≤ q.chambers
    few = member.wanted.chambers

    table : IsTable s
    table = member.wanted.symbol.table

    images : (i : Index) → Contains (rows_below (q.chambers + 217) s.size) (operation s i)
    images i = row_of s (q.chambers + 217) (operation s i) (table.lengths i) (λ d h. let high = ((table.involutions i).within d h).1 in omega arith)
