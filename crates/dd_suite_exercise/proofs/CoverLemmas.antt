-- A cover that draws pick.
use Rattle.std.proofs.Common.{◌≡◌, ◌<◌, ℕ, List, get_or, length, Some, slice_get, refl, sym, ap, ◌∙◌, subst, arith}
use Rattle.std.proofs.lemmas.Option.{slice_get_read}
use Rattle.dd_model.specs.Symbol.{Symbol}
use Rattle.dd_suite_exercise.specs.declared.changes.Change.{Change}
use Rattle.dd_suite_exercise.specs.declared.coverings.Covering.{Covering}
use Rattle.dd_suite_exercise.specs.Draws.{next, answer}
use Rattle.dd_suite_exercise.specs.Choices.{change_at, changed, covering_at, IsCoverBy}
use Rattle.dd_suite_exercise.specs.Items.{drawn, IsCover}
use Rattle.dd_suite_exercise.specs.Seeds.{AreSeeds}
use Rattle.dd_suite_exercise.proofs.ChangeLemmas.{changed_base}
use Rattle.dd_suite_exercise.proofs.SeedLemmas.{IsBase, seed_base}

pub picked : (seeds : List Symbol) (p : ℕ) (seed : Symbol) → p < length seeds → seed ≡ get_or seeds p seed → slice_get seeds p ≡ Some seed
picked seeds p seed below is = slice_get_read seeds (length seeds) p seed refl below is

pub picked_base : (seeds : List Symbol) (p : ℕ) (seed : Symbol) → AreSeeds seeds → p < length seeds → seed ≡ get_or seeds p seed → IsBase 2 seed
picked_base seeds p seed a below is = seed_base seeds p seed a (picked seeds p seed below is)

pub first_base : (seed first : Symbol) (u : Change) → IsBase 2 seed → first ≡ changed u seed → IsBase 8 first
first_base seed first u b is = subst (IsBase 8) (sym is) (changed_base u 2 8 seed (omega arith) refl b)

pub second_base : (first second : Symbol) (v : Change) → IsBase 8 first → second ≡ changed v first → IsBase 32 second
second_base first second v b is = subst (IsBase 32) (sym is) (changed_base v 8 32 first (omega arith) refl b)

-- the number that was there before a draw is known by what came before it
change_drawn : (u : Change) (a n m : ℕ) → u ≡ change_at a → a ≡ answer n 5 → n ≡ m → u ≡ change_at (answer m 5)
change_drawn u a n m is drew same = is ∙ ap change_at (drew ∙ ap (λ k. answer k 5) same)

pub cover_made : (seeds : List Symbol) (z n1 n2 n3 p a b k : ℕ) (seed first second cover : Symbol) (u v : Change) (w : Covering)
    → slice_get seeds p ≡ Some seed → p ≡ answer z (length seeds) → n1 ≡ next z
    → a ≡ answer n1 5 → n2 ≡ next n1 → u ≡ change_at a → first ≡ changed u seed
    → b ≡ answer n2 5 → n3 ≡ next n2 → v ≡ change_at b → second ≡ changed v first
    → k ≡ answer n3 3 → w ≡ covering_at k → IsCoverBy w second cover → IsCover seeds z cover
cover_made seeds z n1 n2 n3 p a b k seed first second cover u v w at drew0 to1 drew1 to2 is_u is_first drew2 to3 is_v is_second drew3 is_w is =
    let at2 : n2 ≡ next (next z) = to2 ∙ ap next to1 in
    let at3 : n3 ≡ next (next (next z)) = to3 ∙ ap next at2 in
    let eu : u ≡ change_at (drawn z 1 5) = change_drawn u a n1 (next z) is_u drew1 to1 in
    let ev : v ≡ change_at (drawn z 2 5) = change_drawn v b n2 (next (next z)) is_v drew2 at2 in
    let ew : w ≡ covering_at (drawn z 3 3) = is_w ∙ ap covering_at (drew3 ∙ ap (λ n. answer n 3) at3) in
    let made : second ≡ changed (change_at (drawn z 2 5)) (changed (change_at (drawn z 1 5)) seed) =
    is_second ∙ ap (λ c. changed c first) ev ∙ ap (changed (change_at (drawn z 2 5))) (is_first ∙ ap (λ c. changed c seed) eu) in
    record {
      seed = seed;
      picked = subst (λ j. slice_get seeds j ≡ Some seed) drew0 at;
      is_cover = subst (λ s. IsCoverBy (covering_at (drawn z 3 3)) s cover) made (subst (λ c. IsCoverBy c second cover) ew is);
    }
