-- Members in spans that follow each other.
use Rattle.std.proofs.Common.{◌≡◌, ℕ, ◌+◌, ◌<◌, ◌≤◌, List, [], ◌∷◌, ◌++◌, length, get_or, take, drop, set, refl, sym, ap, ◌∙◌, subst, append-nil, ⊎_elim, arith}
use Rattle.std.proofs.lemmas.List.{take-append-drop, take-append-le, drop-append-le, drop_more, take_all, length-append, get_or-append-add, get_or_append_left, get_or_default}
use Rattle.std.proofs.lemmas.List.Concat.{flat_map-append}
use Rattle.std.proofs.lemmas.Grind.{take_at_read, take-set_at}
use Rattle.std.proofs.Math.Seq.{drop-append-add, take-append-add}
use Rattle.std.proofs.lemmas.Bool.{cases_lt}
use Rattle.std.specs.List.{AllByRecursion}
use Rattle.dd_model.specs.Symbol.{Symbol, IsSymbol}
use Rattle.dd_model.specs.Lists.{IsWithout}
use Rattle.dd_model.specs.Position.{IsBefore}
use Rattle.dd_model.specs.Wanted.{IsAscending}
use Rattle.dd_model.specs.declared.jobs.Position.{Position}
use Rattle.dd_model.proofs.Ascending.{all-append}
use Rattle.dd_front.specs.Spans.{IsCut, joined_spans}
use Rattle.dd_front.proofs.Skipped.{without_front}

pub joined-append : (xs ys : List (List Symbol)) → joined_spans (xs ++ ys) ≡ joined_spans xs ++ joined_spans ys
joined-append xs ys = flat_map-append (λ s. s) xs ys

pub joined_one : (xs : List Symbol) → joined_spans (xs ∷ []) ≡ xs
joined_one xs = append-nil xs

-- the first spans, and the others
pub joined_parts : (xs : List (List Symbol)) (k : ℕ) → joined_spans xs ≡ joined_spans (take k xs) ++ joined_spans (drop k xs)
joined_parts xs k = ap joined_spans (sym (take-append-drop k xs)) ∙ joined-append (take k xs) (drop k xs)

-- one span more
pub joined_more : (xs : List (List Symbol)) (k : ℕ) (d : List Symbol) → k < length xs → joined_spans (take (k + 1) xs) ≡ joined_spans (take k xs) ++ get_or xs k d
joined_more xs k d low =
    ap joined_spans (take_at_read xs k d low).1 ∙ joined-append (take k xs) (get_or xs k d ∷ [])
    ∙ ap (λ ss. joined_spans (take k xs) ++ ss) (joined_one (get_or xs k d))

pub length_more : (xs : List (List Symbol)) (k : ℕ) (d : List Symbol) → k < length xs → length (joined_spans (take (k + 1) xs)) ≡ length (joined_spans (take k xs)) + length (get_or xs k d)
length_more xs k d low = ap length (joined_more xs k d low) ∙ length-append (joined_spans (take k xs)) (get_or xs k d)

-- a span, and those after it
pub joined_from : (xs : List (List Symbol)) (k : ℕ) (d : List Symbol) → k < length xs → joined_spans (drop k xs) ≡ get_or xs k d ++ joined_spans (drop (k + 1) xs)
joined_from xs k d low = ap joined_spans (drop_more xs k d low)

-- a span has no more than all of them
pub span_within : (xs : List (List Symbol)) (k : ℕ) (d : List Symbol) → k < length xs → length (joined_spans (take k xs)) + length (get_or xs k d) ≤ length (joined_spans xs)
span_within xs k d low =
    let all = ap length (joined_parts xs (k + 1)) ∙ length-append (joined_spans (take (k + 1) xs)) (joined_spans (drop (k + 1) xs)) in
    omega (arith, all, length_more xs k d low)

-- ## Cuts

pub cut_here : (xs : List (List Symbol)) (count k rest : ℕ) (d : List Symbol) → k < length xs → count ≡ length (joined_spans (take k xs)) + rest → rest < length (get_or xs k d) → IsCut xs count k rest
cut_here xs count k rest d low is inside = record {
  within = omega arith;
  count_is = is;
  inside = λ there. subst (λ s. rest < length s) (get_or_default xs k d [] low) inside;
  end = λ past. absurd (omega arith);
}

pub cut_end : (xs : List (List Symbol)) (count k rest : ℕ) → length xs ≤ k → count ≤ length (joined_spans xs) → count ≡ length (joined_spans (take k xs)) + rest → IsCut xs count (length xs) 0
cut_end xs count k rest past few is =
    let all = ap (λ ss. length (joined_spans ss)) (take_all k xs past) in
    let whole = ap (λ ss. length (joined_spans ss)) (take_all (length xs) xs (omega arith)) in
    record {
      within = omega arith;
      count_is = omega (arith, is, all, whole);
      inside = λ there. absurd (omega arith);
      end = λ past. refl;
    }

pub cut_drop : (xs : List (List Symbol)) (count k rest : ℕ) → IsCut xs count k rest → drop count (joined_spans xs) ≡ drop rest (joined_spans (drop k xs))
cut_drop xs count k rest cut =
    ap (λ n. drop n (joined_spans xs)) cut.count_is
    ∙ ap (drop (length (joined_spans (take k xs)) + rest)) (joined_parts xs k)
    ∙ drop-append-add (joined_spans (take k xs)) (joined_spans (drop k xs)) rest

pub cut_take : (xs : List (List Symbol)) (count k rest : ℕ) → IsCut xs count k rest → take count (joined_spans xs) ≡ joined_spans (take k xs) ++ take rest (joined_spans (drop k xs))
cut_take xs count k rest cut =
    ap (λ n. take n (joined_spans xs)) cut.count_is
    ∙ ap (take (length (joined_spans (take k xs)) + rest)) (joined_parts xs k)
    ∙ take-append-add (joined_spans (take k xs)) (joined_spans (drop k xs)) rest

-- where something of a span is cut off, there is one
pub cut_low : (xs : List (List Symbol)) (count k rest : ℕ) → IsCut xs count k rest → 0 < rest → k < length xs
cut_low xs count k rest cut some = ⊎_elim (λ low. low) (λ past. let none = cut.end (omega (arith, past, cut.within)) in absurd (omega arith)) (cases_lt k (length xs))

pub cut_inside : (xs : List (List Symbol)) (count k rest : ℕ) (d : List Symbol) → IsCut xs count k rest → k < length xs → rest < length (get_or xs k d)
cut_inside xs count k rest d cut low = subst (λ s. rest < length s) (get_or_default xs k [] d low) (cut.inside low)

-- the member at a place
pub cut_get : (xs : List (List Symbol)) (count k rest : ℕ) (d : List Symbol) (s : Symbol) → IsCut xs count k rest → k < length xs → get_or (joined_spans xs) count s ≡ get_or (get_or xs k d) rest s
cut_get xs count k rest d s cut low =
    ap (λ n. get_or (joined_spans xs) n s) cut.count_is
    ∙ ap (λ ss. get_or ss (length (joined_spans (take k xs)) + rest) s) (joined_parts xs k)
    ∙ get_or-append-add (joined_spans (take k xs)) (joined_spans (drop k xs)) rest s
    ∙ ap (λ ss. get_or ss rest s) (joined_from xs k d low)
    ∙ get_or_append_left (get_or xs k d) (joined_spans (drop (k + 1) xs)) s rest (cut_inside xs count k rest d cut low)

-- a place that a member has is in a span
pub cut_some : (xs : List (List Symbol)) (count k rest : ℕ) → IsCut xs count k rest → count < length (joined_spans xs) → k < length xs
cut_some xs count k rest cut some = ⊎_elim (λ low. low)
    (λ past.
    let is : k ≡ length xs = omega (arith, past, cut.within) in
    let none = cut.end is in
    let all = ap (λ ss. length (joined_spans ss)) (take_all k xs (omega (arith, is))) in
    absurd (omega (arith, cut.count_is, none, all, some)))
    (cases_lt k (length xs))

-- ## What is left

-- without the spans before, and without so many of the first
pub cut_skip : (xs : List (List Symbol)) (count k rest : ℕ) (d : List Symbol) → IsCut xs count k rest → k < length xs → joined_spans (set (drop k xs) 0 (drop rest (get_or xs k d))) ≡ drop count (joined_spans xs)
cut_skip xs count k rest d cut low =
    ap (λ ss. joined_spans (set ss 0 (drop rest (get_or xs k d)))) (drop_more xs k d low)
    ∙ sym (drop-append-le rest (get_or xs k d) (joined_spans (drop (k + 1) xs)) (omega (arith, cut_inside xs count k rest d cut low)))
    ∙ ap (drop rest) (sym (joined_from xs k d low))
    ∙ sym (cut_drop xs count k rest cut)

-- where none of the first is to be left out
pub cut_skip_whole : (xs : List (List Symbol)) (count k rest : ℕ) → IsCut xs count k rest → rest ≡ 0 → joined_spans (drop k xs) ≡ drop count (joined_spans xs)
cut_skip_whole xs count k rest cut none = sym (cut_drop xs count k rest cut ∙ ap (λ n. drop n (joined_spans (drop k xs))) none)

-- the spans before, and so many of the next
pub cut_keep : (xs : List (List Symbol)) (count k rest : ℕ) (d : List Symbol) → IsCut xs count k rest → k < length xs → joined_spans (take (k + 1) (set xs k (take rest (get_or xs k d)))) ≡ take count (joined_spans xs)
cut_keep xs count k rest d cut low =
    ap joined_spans (take-set_at xs k (k + 1) (take rest (get_or xs k d)) refl low)
    ∙ joined-append (take k xs) (take rest (get_or xs k d) ∷ [])
    ∙ ap (λ ss. joined_spans (take k xs) ++ ss)
    (joined_one (take rest (get_or xs k d))
    ∙ sym (take-append-le rest (get_or xs k d) (joined_spans (drop (k + 1) xs)) (omega (arith, cut_inside xs count k rest d cut low)))
    ∙ ap (take rest) (sym (joined_from xs k d low)))
    ∙ sym (cut_take xs count k rest cut)

pub cut_keep_whole : (xs : List (List Symbol)) (count k rest : ℕ) → IsCut xs count k rest → rest ≡ 0 → joined_spans (take k xs) ≡ take count (joined_spans xs)
cut_keep_whole xs count k rest cut none =
    sym (cut_take xs count k rest cut ∙ ap (λ n. joined_spans (take k xs) ++ take n (joined_spans (drop k xs))) none ∙ append-nil (joined_spans (take k xs)))

-- ## A walk over all members

pub take_within : (xs : List (List Symbol)) (k j : ℕ) (d : List Symbol) → k < length xs → j ≤ length (get_or xs k d) → take (length (joined_spans (take k xs)) + j) (joined_spans xs) ≡ joined_spans (take k xs) ++ take j (get_or xs k d)
take_within xs k j d low inside =
    ap (take (length (joined_spans (take k xs)) + j)) (joined_parts xs k)
    ∙ take-append-add (joined_spans (take k xs)) (joined_spans (drop k xs)) j
    ∙ ap (λ ss. joined_spans (take k xs) ++ take j ss) (joined_from xs k d low)
    ∙ ap (λ ss. joined_spans (take k xs) ++ ss) (take-append-le j (get_or xs k d) (joined_spans (drop (k + 1) xs)) inside)

pub get_within : (xs : List (List Symbol)) (k j : ℕ) (d : List Symbol) (s : Symbol) → k < length xs → j < length (get_or xs k d) → get_or (joined_spans xs) (length (joined_spans (take k xs)) + j) s ≡ get_or (get_or xs k d) j s
get_within xs k j d s low inside =
    ap (λ ss. get_or ss (length (joined_spans (take k xs)) + j) s) (joined_parts xs k)
    ∙ get_or-append-add (joined_spans (take k xs)) (joined_spans (drop k xs)) j s
    ∙ ap (λ ss. get_or ss j s) (joined_from xs k d low)
    ∙ get_or_append_left (get_or xs k d) (joined_spans (drop (k + 1) xs)) s j inside

-- the walk stands at a member that is not before the position, and all those that it has met are
pub walk_here : (at : Position) (xs : List (List Symbol)) (whole own : List Symbol) (i j count : ℕ) (s : Symbol) → joined_spans xs ≡ whole → IsAscending whole → AllByRecursion IsSymbol whole
    → i < length xs → own ≡ get_or xs i own → j < length own → count ≡ length (joined_spans (take i xs)) + j
    → AllByRecursion (IsBefore at) (joined_spans (take i xs)) → AllByRecursion (IsBefore at) (take j own) → s ≡ get_or own j s → ¬ IsBefore at s → IsWithout (IsBefore at) whole (drop count whole)
walk_here at xs whole own i j count s all ascending symbols low here inside is before part read not =
    let inside' : j < length (get_or xs i own) = subst (λ ss. j < length ss) here inside in
    let taken : take count whole ≡ joined_spans (take i xs) ++ take j own =
    ap (λ n. take n whole) is ∙ ap (take (length (joined_spans (take i xs)) + j)) (sym all) ∙ take_within xs i j own low (omega (arith, inside'))
    ∙ ap (λ ss. joined_spans (take i xs) ++ take j ss) (sym here) in
    let there : get_or whole count s ≡ s =
    ap (λ n. get_or whole n s) is ∙ ap (λ ss. get_or ss (length (joined_spans (take i xs)) + j) s) (sym all) ∙ get_within xs i j own s low inside'
    ∙ ap (λ ss. get_or ss j s) (sym here) ∙ sym read in
    without_front at whole count s ascending symbols
    (subst (AllByRecursion (IsBefore at)) (sym taken) (all-append (IsBefore at) (joined_spans (take i xs)) (take j own) before part))
    (λ is_before. not (subst (IsBefore at) there is_before))

-- the walk has met so many as there are
pub walk_within : (xs : List (List Symbol)) (whole own : List Symbol) (i j count : ℕ) → joined_spans xs ≡ whole → i < length xs → own ≡ get_or xs i own → j < length own
    → count ≡ length (joined_spans (take i xs)) + j → count < length whole
walk_within xs whole own i j count all low here inside is =
    let inside' : j < length (get_or xs i own) = subst (λ ss. j < length ss) here inside in
    omega (arith, span_within xs i own low, ap length all, is, inside')

-- one span was walked
pub walk_more : (at : Position) (xs : List (List Symbol)) (own : List Symbol) (i : ℕ) → i < length xs → own ≡ get_or xs i own
    → AllByRecursion (IsBefore at) (joined_spans (take i xs)) → AllByRecursion (IsBefore at) own → AllByRecursion (IsBefore at) (joined_spans (take (i + 1) xs))
walk_more at xs own i low here before part =
    subst (AllByRecursion (IsBefore at)) (sym (joined_more xs i own low ∙ ap (λ ss. joined_spans (take i xs) ++ ss) (sym here)))
    (all-append (IsBefore at) (joined_spans (take i xs)) own before part)
