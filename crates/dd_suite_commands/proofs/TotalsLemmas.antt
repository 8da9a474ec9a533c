-- Counting names one after the other gives their totals.
use Rattle.std.proofs.Common.{◌≡◌, ℕ, ◌+◌, ◌<◌, ◌≤◌, Bool, true, false, cond, List, [], ◌∷◌, ◌++◌, map, length, refl, sym, ap, ◌∙◌, subst, true≢false, arith}
use Rattle.std.specs.List.{AllByRecursion}
use Rattle.std.specs.Str.{bytes_eq}
use Rattle.std.proofs.lemmas.Slice.Eq.{bytes_eq-Decides}
use Rattle.std.proofs.lemmas.List.{map-append}
use Rattle.dd_suite_commands.specs.Totals.{times, is_among, first_seen, totals_of, counted}

-- a fact by the two values of a test
pub by_test : {P : Type 0} (b : Bool) → (b ≡ true → P) → (b ≡ false → P) → P
by_test true holds fails = holds refl
by_test false holds fails = fails refl

pub same_name : (g h : List ℕ) → bytes_eq g h ≡ true → g ≡ h
same_name g h e = (bytes_eq-Decides g h).0 e

pub equal_to_itself : (g : List ℕ) → bytes_eq g g ≡ true
equal_to_itself g = (bytes_eq-Decides g g).1 refl

turned_round : (g h : List ℕ) → bytes_eq g h ≡ false → bytes_eq h g ≡ false
turned_round g h e =
    by_test (bytes_eq h g) (λ y. absurd (true≢false (sym (equal_to_itself g) ∙ ap (bytes_eq g) (sym (same_name h g y)) ∙ e))) (λ n. n)

times_more : (g h : List ℕ) (names : List (List ℕ)) → times g (names ++ h ∷ []) ≡ times g names + cond (bytes_eq g h) 1 0
times_more g h [] = omega arith
times_more g h (x ∷ xs) = let rest = times_more g h xs in omega arith

times_absent : (g : List ℕ) (names : List (List ℕ)) → is_among g names ≡ false → times g names ≡ 0
times_absent g [] e = refl
times_absent g (h ∷ hs) e =
    by_test (bytes_eq g h) (λ y. absurd (true≢false (sym (ap (λ b. cond b true (is_among g hs)) y) ∙ e)))
    (λ n. ap (λ b. cond b 1 0 + times g hs) n ∙ (let rest = times_absent g hs (sym (ap (λ b. cond b true (is_among g hs)) n) ∙ e) in omega arith))

times_few : (g : List ℕ) (names : List (List ℕ)) → times g names ≤ length names
times_few g [] = omega arith
times_few g (h ∷ hs) =
    let rest = times_few g hs in
    by_test (bytes_eq g h) (λ y. subst (λ b. cond b 1 0 + times g hs ≤ length (h ∷ hs)) (sym y) (omega arith))
    (λ n. subst (λ b. cond b 1 0 + times g hs ≤ length (h ∷ hs)) (sym n) (omega arith))

-- a name among those before, or among those of the list, is not seen again
seen_again : (before names : List (List ℕ)) (g : List ℕ) → is_among g before ≡ true → first_seen before (names ++ g ∷ []) ≡ first_seen before names
seen_again before [] g e = ap (λ b. cond b [] (g ∷ [])) e
seen_again before (h ∷ hs) g e =
    let later : is_among g (h ∷ before) ≡ true =
    by_test (bytes_eq g h) (λ y. ap (λ b. cond b true (is_among g before)) y) (λ n. ap (λ b. cond b true (is_among g before)) n ∙ e) in
    ap (λ xs. cond (is_among h before) xs (h ∷ xs)) (seen_again (h ∷ before) hs g later)

stands_before : (before names : List (List ℕ)) (g : List ℕ) → is_among g names ≡ true → first_seen before (names ++ g ∷ []) ≡ first_seen before names
stands_before before [] g e = absurd (true≢false (sym e))
stands_before before (h ∷ hs) g e =
    ap (λ xs. cond (is_among h before) xs (h ∷ xs))
    (by_test (bytes_eq g h) (λ y. seen_again (h ∷ before) hs g (ap (λ b. cond b true (is_among g before)) y))
    (λ n. stands_before (h ∷ before) hs g (sym (ap (λ b. cond b true (is_among g hs)) n) ∙ e)))

-- a new name is seen last
seen_last : (before names : List (List ℕ)) (g : List ℕ) → is_among g before ≡ false → is_among g names ≡ false
    → first_seen before (names ++ g ∷ []) ≡ first_seen before names ++ g ∷ []
seen_last before [] g e f = ap (λ b. cond b [] (g ∷ [])) e
seen_last before (h ∷ hs) g e f =
    by_test (bytes_eq g h) (λ y. absurd (true≢false (sym (ap (λ b. cond b true (is_among g hs)) y) ∙ f)))
    (λ n.
    let later : is_among g (h ∷ before) ≡ false = ap (λ b. cond b true (is_among g before)) n ∙ e in
    let rest = seen_last (h ∷ before) hs g later (sym (ap (λ b. cond b true (is_among g hs)) n) ∙ f) in
    ap (λ xs. cond (is_among h before) xs (h ∷ xs)) rest ∙ out (is_among h before) h (first_seen (h ∷ before) hs) g)
  where
    out : (b : Bool) (h : List ℕ) (xs : List (List ℕ)) (g : List ℕ) → cond b (xs ++ g ∷ []) (h ∷ (xs ++ g ∷ [])) ≡ cond b xs (h ∷ xs) ++ g ∷ []
    out true h xs g = refl
    out false h xs g = refl

-- what is seen first in a list stands in it
not_seen : (before names : List (List ℕ)) (g : List ℕ) → is_among g names ≡ false → is_among g (first_seen before names) ≡ false
not_seen before [] g f = refl
not_seen before (h ∷ hs) g f =
    by_test (bytes_eq g h) (λ y. absurd (true≢false (sym (ap (λ b. cond b true (is_among g hs)) y) ∙ f)))
    (λ n.
    let rest = not_seen (h ∷ before) hs g (sym (ap (λ b. cond b true (is_among g hs)) n) ∙ f) in
    by_test (is_among h before) (λ y. ap (λ b. is_among g (cond b (first_seen (h ∷ before) hs) (h ∷ first_seen (h ∷ before) hs))) y ∙ rest)
    (λ m. ap (λ b. is_among g (cond b (first_seen (h ∷ before) hs) (h ∷ first_seen (h ∷ before) hs))) m ∙ ap (λ b. cond b true (is_among g (first_seen (h ∷ before) hs))) n ∙ rest))

not_again : (before names : List (List ℕ)) (g : List ℕ) → is_among g before ≡ true → is_among g (first_seen before names) ≡ false
not_again before [] g e = refl
not_again before (h ∷ hs) g e =
    let later : is_among g (h ∷ before) ≡ true =
    by_test (bytes_eq g h) (λ y. ap (λ b. cond b true (is_among g before)) y) (λ n. ap (λ b. cond b true (is_among g before)) n ∙ e) in
    let rest = not_again (h ∷ before) hs g later in
    by_test (is_among h before) (λ y. ap (λ b. is_among g (cond b (first_seen (h ∷ before) hs) (h ∷ first_seen (h ∷ before) hs))) y ∙ rest)
    (λ m.
    let apart : bytes_eq g h ≡ false =
    by_test (bytes_eq g h) (λ y. absurd (true≢false (sym (subst (λ x. is_among x before ≡ true) (same_name g h y) e) ∙ m))) (λ n. n) in
    ap (λ b. is_among g (cond b (first_seen (h ∷ before) hs) (h ∷ first_seen (h ∷ before) hs))) m ∙ ap (λ b. cond b true (is_among g (first_seen (h ∷ before) hs))) apart ∙ rest)

-- each name once
abbrev pub AreApart : List (List ℕ) → Type 0
AreApart [] = Unit {0}
AreApart (h ∷ hs) = (is_among h hs ≡ false) × AreApart hs

seen_apart : (before names : List (List ℕ)) → AreApart (first_seen before names)
seen_apart before [] = tt
seen_apart before (h ∷ hs) =
    let rest = seen_apart (h ∷ before) hs in
    let new = not_again (h ∷ before) hs h (ap (λ b. cond b true (is_among h before)) (equal_to_itself h)) in
    by_test (is_among h before) (λ y. subst (λ b. AreApart (cond b (first_seen (h ∷ before) hs) (h ∷ first_seen (h ∷ before) hs))) (sym y) rest)
    (λ n. subst (λ b. AreApart (cond b (first_seen (h ∷ before) hs) (h ∷ first_seen (h ∷ before) hs))) (sym n) (new, rest))

-- a name of the list is seen, where it does not stand before
is_seen : (before names : List (List ℕ)) (g : List ℕ) → is_among g before ≡ false → is_among g names ≡ true → is_among g (first_seen before names) ≡ true
is_seen before [] g e f = f
is_seen before (h ∷ hs) g e f =
    by_test (bytes_eq g h)
    (λ y.
    let here : is_among h before ≡ false = subst (λ x. is_among x before ≡ false) (same_name g h y) e in
    ap (λ b. is_among g (cond b (first_seen (h ∷ before) hs) (h ∷ first_seen (h ∷ before) hs))) here ∙ ap (λ b. cond b true (is_among g (first_seen (h ∷ before) hs))) y)
    (λ n.
    let later : is_among g (h ∷ before) ≡ false = ap (λ b. cond b true (is_among g before)) n ∙ e in
    let rest = is_seen (h ∷ before) hs g later (sym (ap (λ b. cond b true (is_among g hs)) n) ∙ f) in
    by_test (is_among h before) (λ y. ap (λ b. is_among g (cond b (first_seen (h ∷ before) hs) (h ∷ first_seen (h ∷ before) hs))) y ∙ rest)
    (λ m. ap (λ b. is_among g (cond b (first_seen (h ∷ before) hs) (h ∷ first_seen (h ∷ before) hs))) m ∙ ap (λ b. cond b true (is_among g (first_seen (h ∷ before) hs))) n ∙ rest))

-- numbers beside names
with_times : (List ℕ → ℕ) → List (List ℕ) → List (List ℕ × ℕ)
with_times c = map (λ g. (g, c g))

module _ (c : List ℕ → ℕ) (g : List ℕ) where
  -- the numbers with one more of g
  more : List ℕ → ℕ
  more h = c h + cond (bytes_eq h g) 1 0

  more_absent : (ks : List (List ℕ)) → is_among g ks ≡ false → with_times more ks ≡ with_times c ks
  unfolding with_times more
  more_absent [] e = refl
  more_absent (h ∷ hs) e =
      by_test (bytes_eq g h) (λ y. absurd (true≢false (sym (ap (λ b. cond b true (is_among g hs)) y) ∙ e)))
      (λ n.
      let rest = more_absent hs (sym (ap (λ b. cond b true (is_among g hs)) n) ∙ e) in
      let same : more h ≡ c h = ap (λ b. c h + cond b 1 0) (turned_round g h n) ∙ (omega arith) in
      ap (λ x. (h, x) ∷ with_times more hs) same ∙ ap (λ xs. (h, c h) ∷ xs) rest)

  counted_absent : (ks : List (List ℕ)) → is_among g ks ≡ false → counted (with_times c ks) g ≡ with_times c ks ++ (g, 1) ∷ []
  unfolding with_times
  counted_absent [] e = refl
  counted_absent (h ∷ hs) e =
      by_test (bytes_eq g h) (λ y. absurd (true≢false (sym (ap (λ b. cond b true (is_among g hs)) y) ∙ e)))
      (λ n.
      ap (λ b. cond b ((h, c h + 1) ∷ with_times c hs) ((h, c h) ∷ counted (with_times c hs) g)) n
      ∙ ap (λ xs. (h, c h) ∷ xs) (counted_absent hs (sym (ap (λ b. cond b true (is_among g hs)) n) ∙ e)))

  counted_present : (ks : List (List ℕ)) → AreApart ks → is_among g ks ≡ true → counted (with_times c ks) g ≡ with_times more ks
  unfolding with_times more
  counted_present [] apart e = absurd (true≢false (sym e))
  counted_present (h ∷ hs) apart e =
      by_test (bytes_eq g h)
      (λ y.
      let same = same_name g h y in
      let one : more h ≡ c h + 1 = ap (λ b. c h + cond b 1 0) (subst (λ x. bytes_eq h x ≡ true) (sym same) (equal_to_itself h)) in
      let rest = more_absent hs (subst (λ x. is_among x hs ≡ false) (sym same) apart.0) in
      ap (λ b. cond b ((h, c h + 1) ∷ with_times c hs) ((h, c h) ∷ counted (with_times c hs) g)) y
      ∙ ap (λ x. (h, x) ∷ with_times c hs) (sym one) ∙ ap (λ xs. (h, more h) ∷ xs) (sym rest))
      (λ n.
      let same : more h ≡ c h = ap (λ b. c h + cond b 1 0) (turned_round g h n) ∙ (omega arith) in
      ap (λ b. cond b ((h, c h + 1) ∷ with_times c hs) ((h, c h) ∷ counted (with_times c hs) g)) n
      ∙ ap (λ xs. (h, c h) ∷ xs) (counted_present hs apart.1 (sym (ap (λ b. cond b true (is_among g hs)) n) ∙ e))
      ∙ ap (λ x. (h, x) ∷ with_times more hs) (sym same))

same_times : (c d : List ℕ → ℕ) → ((h : List ℕ) → c h ≡ d h) → (ks : List (List ℕ)) → with_times c ks ≡ with_times d ks
unfolding with_times
same_times c d same [] = refl
same_times c d same (h ∷ hs) = ap (λ x. (h, x) ∷ with_times c hs) (same h) ∙ ap (λ xs. (h, d h) ∷ xs) (same_times c d same hs)

-- one name more
pub totals_more : (names : List (List ℕ)) (g : List ℕ) → counted (totals_of names) g ≡ totals_of (names ++ g ∷ [])
unfolding with_times more
totals_more names g =
    let c = λ (h : List ℕ). times h names in
    let d = λ (h : List ℕ). times h (names ++ g ∷ []) in
    let ks = first_seen [] names in
    let one : (h : List ℕ) → more c g h ≡ d h = λ h. sym (times_more h g names) in
    by_test (is_among g names)
    (λ y.
    counted_present c g ks (seen_apart [] names) (is_seen [] names g refl y) ∙ same_times (more c g) d one ks
    ∙ ap (with_times d) (sym (stands_before [] names g y)))
    (λ n.
    let absent = not_seen [] names g n in
    let first : d g ≡ 1 = times_more g g names ∙ ap (λ b. times g names + cond b 1 0) (equal_to_itself g) ∙ (let none = times_absent g names n in omega arith) in
    counted_absent c g ks absent ∙ ap (λ xs. xs ++ (g, 1) ∷ []) (sym (more_absent c g ks absent) ∙ same_times (more c g) d one ks)
    ∙ ap (λ x. with_times d ks ++ (g, x) ∷ []) (sym first)
    ∙ sym (map-append (λ h. (h, d h)) ks (g ∷ [])) ∙ ap (with_times d) (sym (seen_last [] names g refl n)))

-- no number is above that of all names
pub totals_few : (names : List (List ℕ)) → length names < 1000000000 → AllByRecursion (λ e. e.1 < 1000000000) (totals_of names)
totals_few names few = each (first_seen [] names)
  where
    each : (ks : List (List ℕ)) → AllByRecursion (λ (e : List ℕ × ℕ). e.1 < 1000000000) (map (λ g. (g, times g names)) ks)
    each [] = tt
    each (h ∷ hs) = (let bound = times_few h names in omega arith, each hs)
