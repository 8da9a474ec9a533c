-- The greatest of the first numbers, for each length.
use Rattle.std.proofs.Common.{◌≡◌, ℕ, ◌+◌, ◌<◌, ◌≤◌, ◌↔◌, length, max, List, get_or, set, take, sym, ap, ◌∙◌, ⊎_elim, arith}
use Rattle.std.proofs.lemmas.Bool.{cases_lt}
use Rattle.std.proofs.lemmas.List.{get_or-take, take-take, length-take-le, get_or-set_same, get_or-set_other, length-set, take-set-le, take_more_set}
use Rattle.dd_front_jobs.specs.FirstVisit.{greatest}
use Rattle.dd_branch_tables.specs.Mosts.{AreMosts}
use Rattle.dd_model.specs.FirstVisit.{Grows}
use Rattle.dd_front_jobs.proofs.Growth.{greatest_push, grows_at, grows_from, one_le_greatest}

pub mosts_more : (count : ℕ) (numbers mosts : List ℕ) (x most : ℕ) → AreMosts count numbers mosts → count < 108 → most ≡ max (greatest (take count numbers)) x
    → AreMosts (count + 1) (set numbers count x) (set mosts (count + 1) most)
mosts_more count numbers mosts x most are low new =
    let room = are.room in
    let mosts_room = are.mosts_room in
    record {
      short = omega arith;
      room = length-set numbers count x ∙ room;
      mosts_room = length-set mosts (count + 1) most ∙ mosts_room;
      most = λ k inside. ⊎_elim
          (λ before.
          get_or-set_other mosts (count + 1) k most 0 (λ same. absurd (omega arith)) ∙ are.most k (omega arith) ∙ ap greatest (sym (take-set-le k numbers count x (omega arith))))
          (λ last.
          let here : k ≡ count + 1 = omega arith in
          ap (λ j. get_or (set mosts (count + 1) most) j 0) here ∙ get_or-set_same mosts (count + 1) most 0 (omega arith) ∙ new ∙ sym (greatest_push (take count numbers) x)
          ∙ ap greatest (sym (take_more_set numbers count x (omega arith))) ∙ ap (λ j. greatest (take j (set numbers count x))) (sym here))
          (cases_lt k (count + 1));
    }

-- each number is at most one more than the greatest before it
pub grows_each : (count : ℕ) (numbers mosts : List ℕ) → AreMosts count numbers mosts
    → ((u : ℕ) → u < count → get_or numbers u 0 ≤ get_or mosts u 0 + 1) ↔ Grows 1 (take count numbers)
grows_each count numbers mosts are =
    let short = are.short in
    let room = are.room in
    let size : length (take count numbers) ≡ count = length-take-le count numbers (omega arith) in (
      (λ each. grows_from 1 (take count numbers) (omega arith) (λ t low.
          let here = get_or-take count numbers t 0 (omega arith) in
          let front = ap greatest (take-take t count numbers (omega arith)) in
          let most = are.most t (omega arith) in
          let step = each t (omega arith) in
          omega (arith, here, front, most, step))),
      (λ grows u low.
          let here = get_or-take count numbers u 0 low in
          let front = ap greatest (take-take u count numbers (omega arith)) in
          let most = are.most u (omega arith) in
          let one = one_le_greatest (take u numbers) in
          let step = grows_at 1 (take count numbers) u (omega arith) grows (omega arith) in
          omega (arith, here, front, most, one, step)),
    )
