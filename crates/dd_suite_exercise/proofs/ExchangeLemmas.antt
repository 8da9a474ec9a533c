-- Exchanged items are a bijection still.
use Rattle.std.proofs.Common.{◌≡◌, ℕ, zero, suc, ◌+◌, ◌-◌, ◌<◌, ◌≤◌, List, get_or, length, refl, sym, ap, ◌∙◌, subst, ⊎_elim, arith}
use Rattle.std.specs.List.{swap}
use Rattle.std.proofs.lemmas.Bool.{cases_eq}
use Rattle.std.proofs.lemmas.Bool.Decides.{nat_tests}
use Rattle.std.proofs.lemmas.List.{ext_get_or, length-map}
use Rattle.std.proofs.lemmas.List.Edits.{length-swap, swapped_from_swap}
use Rattle.dd_model.specs.Symbol.{item}
use Rattle.dd_model.specs.Isomorphic.{IsBijection}
use Rattle.dd_model.specs.Code.{count_from}
use Rattle.dd_model.proofs.Bijections.{after, composite, identity, item-after}
use Rattle.dd_model.proofs.Exchanges.{item-table, length-table, swap_bijection, swapped, swapped_first, swapped_other}
use Rattle.dd_model.proofs.Exchanges.{swap as exchange}
use Rattle.dd_suite_exercise.specs.Draws.{next, answer, after_draws}
use Rattle.dd_suite_exercise.specs.Renumbering.{exchanged, renumbering}

swapped_second : (a b : ℕ) → swapped a b b ≡ a
swapped_second a b = grind (arith, nat_tests)

module _ (n : ℕ) (xs : List ℕ) (a b : ℕ) (la : a < n) (lb : b < n) (is : IsBijection n xs) where
  f : List ℕ
  f = exchange (a + 1) (b + 1) n

  whole : List ℕ
  whole = after xs f

  long : length whole ≡ n
  unfolding f whole
  long = length-map f (item xs) ∙ length-table (swapped (a + 1) (b + 1)) n

  -- the exchange first, and then the list
  at : (i : ℕ) → i < n → item whole (i + 1) ≡ item xs (swapped (a + 1) (b + 1) (i + 1))
  unfolding f whole
  at i l =
      item-after xs f n (i + 1) (length-table (swapped (a + 1) (b + 1)) n) (omega arith) (omega (arith, l))
      ∙ ap (item xs) (item-table (swapped (a + 1) (b + 1)) n (i + 1) (omega arith) (omega (arith, l)))

  to_place : (ys : List ℕ) (i : ℕ) → item ys (i + 1) ≡ get_or ys i 0
  to_place ys i = let same : i + 1 - 1 ≡ i = omega arith in ap (λ j. get_or ys j 0) same

  each : (i : ℕ) → i < n → get_or whole i 0 ≡ get_or (swap xs a b) i 0
  each i l =
      let long_xs = is.images in
      let moves = swapped_from_swap xs (swap xs a b) a b 0 (omega (arith, la, long_xs)) (omega (arith, lb, long_xs)) refl in
      sym (to_place whole i) ∙ at i l ∙
      ⊎_elim
      (λ same. ap (λ j. item xs (swapped (a + 1) (b + 1) (j + 1))) same ∙ ap (item xs) (swapped_first (a + 1) (b + 1)) ∙ to_place xs b ∙ sym moves.0 ∙ ap (λ j. get_or (swap xs a b) j 0) (sym same))
      (λ apart. ⊎_elim
      (λ same. ap (λ j. item xs (swapped (a + 1) (b + 1) (j + 1))) same ∙ ap (item xs) (swapped_second (a + 1) (b + 1)) ∙ to_place xs a ∙ sym moves.1 ∙ ap (λ j. get_or (swap xs a b) j 0) (sym same))
      (λ other. ap (item xs) (swapped_other (a + 1) (b + 1) (i + 1) (λ e. apart (omega (arith, e))) (λ e. other (omega (arith, e)))) ∙ to_place xs i ∙ sym (moves.2 i apart other))
      (cases_eq i b))
      (cases_eq i a)

  pub swap_keeps : IsBijection n (swap xs a b)
  unfolding f whole
  swap_keeps =
      let same : whole ≡ swap xs a b = ext_get_or 0 whole (swap xs a b) (long ∙ sym (length-swap xs a b ∙ is.images)) (λ i l. each i (omega (arith, l, long))) in
      subst (IsBijection n) same (composite n f xs (swap_bijection (a + 1) (b + 1) n (omega arith) (omega (arith, la)) (omega arith) (omega (arith, lb))) is)

-- the draws below the draws' own limits are places of the list
pub exchanged_bijection : (n k z : ℕ) (xs : List ℕ) → ((z i : ℕ) → 1 ≤ i → answer z i < i) → k < n → IsBijection n xs → IsBijection n (exchanged k z xs)
exchanged_bijection n zero z xs below l is = is
exchanged_bijection n (suc k) z xs below l is =
    let other = below z (suc k + 1) (omega arith) in
    exchanged_bijection n k (next z) (swap xs (suc k) (answer z (suc k + 1))) below (omega (arith, l))
    (swap_keeps n xs (suc k) (answer z (suc k + 1)) l (omega (arith, l, other)) is)

pub answer_below : (z i : ℕ) → 1 ≤ i → answer z i < i
unfolding answer
answer_below z i some = omega (arith, some)

pub renumbering_bijection : (n z : ℕ) → 1 ≤ n → IsBijection n (renumbering n z)
renumbering_bijection n z some = exchanged_bijection n (n - 1) z (count_from 1 n) answer_below (omega (arith, some)) (identity n)

-- So many exchanges are left of a list at a number, which give what those of another at another do.
pub record IsExchanging (left z : ℕ) (xs : List ℕ) (all start : ℕ) (ys : List ℕ) : Type 0 where
  pub long : length xs ≡ length ys
  pub within : left < length xs
  pub list : exchanged left z xs ≡ exchanged all start ys
  pub draws : after_draws left z ≡ after_draws all start
