-- Rows that grow by one number.
use Rattle.std.proofs.Common.{◌≡◌, ℕ, ◌+◌, ◌<◌, pos, List, [], ◌∷◌, ◌++◌, length, get_or, sym, ◌∙◌, subst, below_more, arith}
use Rattle.std.proofs.lemmas.List.{length-append, get_or_append_left, get_or_push, get_or_default}
use Rattle.dd_cells.specs.declared.fractions.Fraction.{Fraction}
use Rattle.dd_draw.specs.Elimination.{Ratio}
use Rattle.dd_draw.specs.Limit.{IsNarrow}
use Rattle.dd_draw.specs.Rows.{AreMade, number_at}

pub made_more : (r : ℕ → Ratio) (Wide : ℕ → Type 0) (n : ℕ) (xs ys : List Fraction) (x : Fraction) → ys ≡ xs ++ x ∷ []
    → AreMade r Wide n xs → IsNarrow x (r n) → ¬ Wide n → AreMade r Wide (n + 1) ys
made_more r Wide n xs ys x e made here slim = subst (AreMade r Wide (n + 1)) (sym e) (record {
  many = let m = made.many in omega (arith, length-append xs (x ∷ []));
  each = below_more (λ j. IsNarrow (number_at (xs ++ x ∷ []) j) (r j)) n
      (λ j l. let m = made.many in
      subst (λ y. IsNarrow y (r j)) (sym (get_or_append_left xs (x ∷ []) (record { num = pos 0; den = pos 0 }) j (omega arith))) (made.each j l))
      (subst (λ y. IsNarrow y (r n)) (sym (last n made.many)) here);
  none_wide = below_more (λ j. ¬ Wide j) n made.none_wide slim;
})
  where
    last : (n : ℕ) → length xs ≡ n → number_at (xs ++ x ∷ []) n ≡ x
    last n m = get_or_push xs x (record { num = pos 0; den = pos 0 }) n m

-- a number that was read from a row
pub read_number : (row : List Fraction) (j : ℕ) (x : Fraction) → j < length row → x ≡ get_or row j x → x ≡ number_at row j
read_number row j x inside e = e ∙ get_or_default row j x (record { num = pos 0; den = pos 0 }) inside
