use Rattle.std.proofs.Common.{◌≡◌, ◌<◌, ◌≤◌, ◌↔◌, ◌+◌, ℕ, IsTrue, Bool, false, get_or, refl, sym, subst, ⊎_elim, arith}
use Rattle.std.proofs.lemmas.Bool.{cases_lt}
use Rattle.dd_model.specs.FirstVisit.{Grows}
use Rattle.dd_branch_tables.proofs.MostLemmas.{grows_each}
use Rattle.dd_branch_tables.proofs.first_numbers.FirstNumbers.grows.Goals as goal
use Rattle.dd_branch_tables.proofs.first_numbers.FirstNumbers.grows.Goals.{then-saturating_sub-self, else-saturating_sub-self}

false_is_no : IsTrue false → ⊥
false_is_no f = cc

pub loop-place-init : goal.loop-place-init
loop-place-init c = ((λ _ u low. absurd (omega arith)), (λ _. refl))

pub loop-place-preserved : goal.loop-place-preserved
loop-place-preserved c =
    let numbers = c.self.inside.numbers in
    let mosts = c.self.inside.mosts in
    let p = c.loop-place.place in
    let i = c.loop-place.invariant in
    let less = c.saturating_sub.ensures in
    elim c.if-saturating_sub-self.branch [
      | then-saturating_sub-self w ↦
          subst (λ (b : Bool). IsTrue b ↔ ((u : ℕ) → u < p + 1 → get_or numbers u 0 ≤ get_or mosts u 0 + 1)) (sym w.grows-is)
          ((λ false_. absurd (false_is_no false_)), (λ each. let here = each p (omega arith) in let more = w.if-saturating_sub-self in absurd (omega (arith, less, here, more))))
      | else-saturating_sub-self w ↦
          subst (λ (b : Bool). IsTrue b ↔ ((u : ℕ) → u < p + 1 → get_or numbers u 0 ≤ get_or mosts u 0 + 1)) (sym w.grows-is) (
            (λ yes u low. ⊎_elim (λ (before : u < p). i.0 yes u before)
                (λ (past : p ≤ u). let same : u ≡ p = omega arith in let most = w.if-saturating_sub-self in
                subst (λ v. get_or numbers v 0 ≤ get_or mosts v 0 + 1) (sym same) (omega (arith, less, most)))
                (cases_lt u p)),
            (λ each. i.1 (λ u low. each u (omega arith))),
          )
    ]

pub returns : goal.returns
returns c =
    let each = grows_each c.self.inside.count c.self.inside.numbers c.self.inside.mosts c.self.invariant in
    let past = c.loop-place-test.false in
    let i = c.loop-place.invariant in (
      (λ yes. subst (Grows 1) c.self.view_is (each.0 (λ u low. i.0 yes u (omega arith)))),
      (λ grows. i.1 (λ u low. each.1 (subst (Grows 1) (sym c.self.view_is) grows) u (omega (arith, c.loop-place.auto.place-end)))),
    )
