-- Different symbols have different lines.
use Rattle.std.proofs.Common.{◌≡◌, ℕ, ◌+◌, true, cond, List, [], ◌∷◌, length, refl, sym, ap, ◌∙◌, subst, append-nil, true≢false, ⊎_elim, arith, inl, inr}
use Rattle.std.specs.List.{AllByRecursion, Contains}
use Rattle.std.specs.Str.{bytes_eq}
use Rattle.dd_model.specs.Symbol.{Symbol}
use Rattle.dd_model.specs.Line.{IsLine}
use Rattle.dd_model.specs.Small.{IsSmallSymbol}
use Rattle.dd_model.proofs.LinesDetermined.{line_determines}
use Rattle.dd_model.proofs.Lists.{Contains-none, Contains-head, Contains-later, Contains-cases}
use Rattle.dd_model.proofs.Texts.{lines_unique}
use Rattle.dd_suite_commands.specs.Totals.{is_among, first_seen}
use Rattle.dd_suite_commands.proofs.TotalsLemmas.{by_test, same_name, equal_to_itself}
use Rattle.dd_suite_exercise.specs.Counting.{AreNew}

-- the lines of symbols, each as if it were the first
abbrev pub AreTheirLines : List Symbol → List (List ℕ) → Type 0
AreTheirLines [] [] = Unit {0}
AreTheirLines [] (l ∷ ls) = ⊥
AreTheirLines (s ∷ ss) [] = ⊥
AreTheirLines (s ∷ ss) (l ∷ ls) = IsLine 1 s l × AreTheirLines ss ls

line_once : (s : Symbol) (k l : List ℕ) → IsLine 1 s k → IsLine 1 s l → k ≡ l
line_once s k l a b =
    lines_unique 0 (s ∷ []) k l (k, [], a, refl, sym (append-nil k)) (l, [], b, refl, sym (append-nil l))

-- whose line is among them stands among them
among : (ss : List Symbol) (ls : List (List ℕ)) (s : Symbol) (l : List ℕ) → AreTheirLines ss ls → AllByRecursion IsSmallSymbol ss → IsSmallSymbol s → IsLine 1 s l
    → is_among l ls ≡ true → Contains ss s
among [] [] s l a all small is e = absurd (true≢false (sym e))
among [] (k ∷ ls) s l a all small is e = absurd a
among (t ∷ ss) [] s l a all small is e = absurd a
among (t ∷ ss) (k ∷ ls) s l a all small is e =
    by_test (bytes_eq l k)
    (λ y.
    let same : t ≡ s = (line_determines 1 1 t s l (omega arith) (omega arith) all.0 small (subst (IsLine 1 t) (sym (same_name l k y)) a.0) is).1 in
    subst (Contains (t ∷ ss)) same (Contains-head t ss))
    (λ n. Contains-later t s ss (among ss ls s l a.1 all.1 small is (sym (ap (λ b. cond b true (is_among l ls)) n) ∙ e)))

-- who stands among them, his line does
stands : (ss : List Symbol) (ls : List (List ℕ)) (s : Symbol) (l : List ℕ) → AreTheirLines ss ls → IsLine 1 s l → Contains ss s → is_among l ls ≡ true
stands [] ls s l a is in_list = absurd (Contains-none s in_list)
stands (t ∷ ss) [] s l a is in_list = absurd a
stands (t ∷ ss) (k ∷ ls) s l a is in_list =
    ⊎_elim
    (λ same.
    let equal : l ≡ k = line_once s l k is (subst (λ u. IsLine 1 u k) same a.0) in
    ap (λ b. cond b true (is_among l ls)) (subst (λ x. bytes_eq l x ≡ true) equal (equal_to_itself l)))
    (λ later.
    by_test (bytes_eq l k) (λ y. ap (λ b. cond b true (is_among l ls)) y)
    (λ n. ap (λ b. cond b true (is_among l ls)) n ∙ stands ss ls s l a.1 is later))
    (Contains-cases t s ss in_list)

-- so many symbols are new as lines are seen first
pub new_by_lines : (before ss : List Symbol) (seen ls : List (List ℕ)) → AreTheirLines before seen → AreTheirLines ss ls
    → AllByRecursion IsSmallSymbol before → AllByRecursion IsSmallSymbol ss → AreNew before ss (length (first_seen seen ls))
new_by_lines before [] seen [] a b small all = refl
new_by_lines before [] seen (l ∷ ls) a b small all = absurd b
new_by_lines before (s ∷ ss) seen [] a b small all = absurd b
new_by_lines before (s ∷ ss) seen (l ∷ ls) a b small all =
    let rest = new_by_lines (s ∷ before) ss (l ∷ seen) ls (b.0, a) b.1 (all.0, small) all.1 in
    by_test (is_among l seen)
    (λ y. inl (among before seen s l a small all.0 b.0 y, subst (λ c. AreNew (s ∷ before) ss (length (cond c (first_seen (l ∷ seen) ls) (l ∷ first_seen (l ∷ seen) ls)))) (sym y) rest))
    (λ n. inr (
      (λ in_list. true≢false (sym (stands before seen s l a b.0 in_list) ∙ n)),
      length (first_seen (l ∷ seen) ls),
      (ap (λ c. length (cond c (first_seen (l ∷ seen) ls) (l ∷ first_seen (l ∷ seen) ls))) n ∙ one_more (first_seen (l ∷ seen) ls)),
      rest,
    ))
  where
    one_more : (xs : List (List ℕ)) → length (l ∷ xs) ≡ length xs + 1
    one_more xs = omega arith
