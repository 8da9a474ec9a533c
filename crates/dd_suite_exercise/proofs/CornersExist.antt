-- The corners of boundaries can be written.
use Rattle.std.proofs.Common.{◌≡◌, ℕ, zero, suc, ◌+◌, ◌≤◌, List, [], ◌∷◌, ◌++◌, length, subst, ⊎_elim, arith}
use Rattle.std.specs.Prelude.{reverse}
use Rattle.std.specs.Cmp.Lexicographic.{nat_list_cmp_total}
use Rattle.std.specs.Ordering.{is_lt, is_gt}
use Rattle.std.proofs.lemmas.Bool.{cases_Bool}
use Rattle.dd_name.specs.declared.joints.Joint.{Joint}
use Rattle.dd_name.specs.Rounds.{corners}
use Rattle.dd_name.specs.Arranged.{dictionary, IsGreatestRotation, IsGreatestTurned}
use Rattle.dd_name.specs.Boundaries.{AreWritten, AreBoundaries}
use Rattle.dd_name.proofs.RotationLemmas.{part, IsBestBelow, best_starts, best_goes, best_stays, best_of_all, turned_forward, turned_backward}
use Rattle.dd_suite_exercise.proofs.SortExists.{descending_exists}

record HasBest (doubled : List ℕ) (n k : ℕ) : Type 0 where
  pub best : ℕ
  pub is : IsBestBelow doubled n k best

best_below : (doubled : List ℕ) (n m : ℕ) → m ≤ n → HasBest doubled n (m + 1)
best_below doubled n zero low = record { best = 0; is = best_starts doubled n }
best_below doubled n (suc m) low =
    let before = best_below doubled n m (omega (arith, low)) in
    let best = before.best in
    let next : m + 1 + 1 ≡ suc m + 1 = omega arith in
    subst (HasBest doubled n) next
    (⊎_elim
    (λ better. record { best = m + 1; is = best_goes doubled n (m + 1) best before.is (omega (arith, low)) better })
    (λ worse. record { best = best; is = best_stays doubled n (m + 1) best before.is worse })
    (cases_Bool (is_gt (dictionary (part doubled n (m + 1)) (part doubled n best)))))

record HasGreatestRotation (xs : List ℕ) : Type 0 where
  pub list : List ℕ
  pub is : IsGreatestRotation xs list

greatest_rotation : (xs : List ℕ) → HasGreatestRotation xs
greatest_rotation xs =
    let n = length xs in
    let b = best_below (xs ++ xs) n n (omega arith) in
    record { list = part (xs ++ xs) n b.best; is = best_of_all xs (n + 1) b.best (omega arith) (omega arith) b.is }

record HasGreatestTurned (xs : List ℕ) : Type 0 where
  pub list : List ℕ
  pub is : IsGreatestTurned xs list

greatest_turned : (xs : List ℕ) → HasGreatestTurned xs
greatest_turned xs =
    let forward = greatest_rotation xs in
    let backward = greatest_rotation (reverse xs) in
    ⊎_elim
    (λ low. record { list = backward.list; is = turned_backward xs forward.list backward.list forward.is backward.is low })
    (λ high. record { list = forward.list; is = turned_forward xs forward.list backward.list forward.is backward.is high })
    (cases_Bool (is_lt (dictionary forward.list backward.list)))

record HasWritten (rounds : List (List Joint)) : Type 0 where
  pub lists : List (List ℕ)
  pub are : AreWritten rounds lists

written_exist : (rounds : List (List Joint)) → HasWritten rounds
written_exist [] = record { lists = []; are = tt }
written_exist (r ∷ rounds) =
    let c = greatest_turned (corners r) in
    let rest = written_exist rounds in
    record { lists = c.list ∷ rest.lists; are = (c.is, rest.are) }

pub record HasBoundaries (rounds : List (List Joint)) : Type 0 where
  pub boundaries : List (List ℕ)
  pub are : AreBoundaries rounds boundaries

pub boundaries_exist : (rounds : List (List Joint)) → HasBoundaries rounds
boundaries_exist rounds =
    let w = written_exist rounds in
    let d = descending_exists dictionary nat_list_cmp_total w.lists in
    record { boundaries = d.arrangement; are = record { lists = w.lists; written = w.are; descending = d.is } }
