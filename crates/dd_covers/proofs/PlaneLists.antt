-- Numbers above 1 that divide a whole, and of which the sum of 1 - 1/v is a whole number of at most 2.
use Rattle.std.proofs.Common.{◌≡◌, ℕ, zero, suc, ◌+◌, ◌-◌, ◌*◌, ◌/◌, ◌≤◌, ◌⊎◌, Bool, true, false, not, ◌&&◌, ◌||◌, eqb, List, [], ◌∷◌, length, refl, sym, ap, ◌∙◌, inl, inr, ⊎_elim, arith}
use Rattle.std.proofs.lemmas.Bool.{cases_lt, or_cases, and_parts, eq-eqb}
use Rattle.std.proofs.lemmas.List.Elements.{All-contains}
use Rattle.std.proofs.lemmas.List.Sums.{AllPass-from_list_all, sum_by-cons}
use Rattle.std.specs.List.{Contains, list_all, sum_by}
use borrow.Author.Tests.{eqb-true}
use Rattle.dd_model.specs.Code.{count_from}
use Rattle.dd_model.proofs.CountFrom.{count_contains}
use Rattle.dd_model.proofs.Lists.{Contains-head, Contains-later}
use Rattle.dd_cells.specs.Fraction.{Divides}
use Rattle.dd_cells.proofs.FractionLemmas.{same_factor}
use Rattle.dd_cells.proofs.ReciprocalSums.{product_of_quotient}
use Rattle.dd_covers.specs.PlaneValues.{AreArranged, HasPlaneValues}

-- ## Parts of a whole

-- what is wanting from 1, in parts of a whole
abbrev pub want : ℕ → ℕ → ℕ
want whole v = whole - whole / v

-- a number above 1 that divides the whole
pub record IsDivisor (whole v : ℕ) : Type 0 where
  pub above : 2 ≤ v
  pub divides : Divides v whole

-- so many times the part of a number that is no smaller
at_most : (j v part whole : ℕ) → j ≤ v → v * part ≡ whole → j * part ≤ whole
at_most j v part whole low e =
    let split : j + (v - j) ≡ v = omega arith in
    with_rest j (v - j) (ap (λ z. z * part) split ∙ e) where
      with_rest : (j rest : ℕ) → (j + rest) * part ≡ whole → j * part ≤ whole
      with_rest j rest e = omega arith

some_part : (v part whole : ℕ) → 1 ≤ whole → v * part ≡ whole → 1 ≤ part
some_part v zero whole some e = absurd (omega arith)
some_part v (suc part) whole some e = omega arith

part_of : (whole v : ℕ) → IsDivisor whole v → v * (whole / v) ≡ whole
part_of whole v h =
    let above = h.above in
    let e = product_of_quotient v whole (omega arith) h.divides in
    omega arith

at_least_half : (whole v : ℕ) → IsDivisor whole v → whole ≤ 2 * want whole v
at_least_half whole v h =
    let half = at_most 2 v (whole / v) whole h.above (part_of whole v h) in
    omega arith

below_one : (whole v : ℕ) → 1 ≤ whole → IsDivisor whole v → want whole v + 1 ≤ whole
below_one whole v some h =
    let part = some_part v (whole / v) whole some (part_of whole v h) in
    omega arith

is_two : (whole v : ℕ) → 1 ≤ whole → IsDivisor whole v → 2 * want whole v ≡ whole → v ≡ 2
is_two whole v some h half =
    let e = part_of whole v h in
    let part = some_part v (whole / v) whole some e in
    let twice = at_most 2 v (whole / v) whole h.above e in
    same_factor v 2 (whole / v) part (omega arith)

-- ## Triples

-- Of three parts that make up a whole none is below a sixth.
at_most_six : (a b c x y z whole : ℕ) → 1 ≤ whole → 2 ≤ b → 2 ≤ c → a * x ≡ whole → b * y ≡ whole → c * z ≡ whole → x + y + z ≡ whole → a ≤ 6
at_most_six a b c x y z whole some low_b low_c ea eb ec sum =
    let part = some_part a x whole some ea in
    let half_y = at_most 2 b y whole low_b eb in
    let half_z = at_most 2 c z whole low_c ec in
    let sixth : whole ≤ 6 * x =
    ⊎_elim
    (λ two_b. ⊎_elim
    (λ two_c.
    let y_half : 2 * y ≡ whole = let two : b ≡ 2 = omega arith in ap (λ n. n * y) (sym two) ∙ eb in
    let z_half : 2 * z ≡ whole = let two : c ≡ 2 = omega arith in ap (λ n. n * z) (sym two) ∙ ec in
    absurd (omega arith))
    (λ more. let third = at_most 3 c z whole more ec in omega arith)
    (cases_lt c 3))
    (λ more. let third = at_most 3 b y whole more eb in omega arith)
    (cases_lt b 3) in
    ⊎_elim
    (λ low. omega arith)
    (λ high. let seventh = at_most 7 a x whole high ea in absurd (omega arith))
    (cases_lt a 7)

abbrev IsLow : ℕ → Type 0
IsLow v = (2 ≤ v) × (v ≤ 6)

-- what a test says at each number from 2 to 6
passes : (p : ℕ → Bool) → list_all p (count_from 2 5) ≡ true → (v : ℕ) → IsLow v → p v ≡ true
passes p all v h =
    All-contains (λ n. p n ≡ true) (count_from 2 5) v (AllPass-from_list_all p (count_from 2 5) all) (count_contains 2 5 v h.0 (let high = h.1 in omega arith))

-- a test with a premise
if_then : (a b : Bool) → not a || b ≡ true → a ≡ true → b ≡ true
if_then true b h e = h
if_then false b h e = absurd (cc)

abbrev are : ℕ → ℕ → ℕ → ℕ → ℕ → ℕ → Bool
are a b c x y z = eqb a x && (eqb b y && eqb c z)

abbrev is_triple : ℕ → ℕ → ℕ → Bool
is_triple a b c =
    are a b c 2 3 6 || (are a b c 2 6 3 || (are a b c 3 2 6 || (are a b c 3 6 2 || (are a b c 6 2 3 || (are a b c 6 3 2
    || (are a b c 2 4 4 || (are a b c 4 2 4 || (are a b c 4 4 2 || are a b c 3 3 3))))))))

abbrev is_whole : ℕ → ℕ → ℕ → Bool
is_whole a b c = eqb (60 / a + 60 / b + 60 / c) 60

abbrev triple_test : ℕ → ℕ → ℕ → Bool
triple_test a b c = not (is_whole a b c) || is_triple a b c

all_triples : (a b c : ℕ) → IsLow a → IsLow b → IsLow c → triple_test a b c ≡ true
all_triples a b c ha hb hc =
    list_passes (triple_test a b) c hc (list_passes (λ m. list_all (triple_test a m) (count_from 2 5)) b hb
    (passes (λ n. list_all (λ m. list_all (triple_test n m) (count_from 2 5)) (count_from 2 5)) refl a ha)) where
      list_passes : (p : ℕ → Bool) (v : ℕ) → IsLow v → list_all p (count_from 2 5) ≡ true → p v ≡ true
      list_passes p v h all = passes p all v h

-- a part of the whole is to the whole as that of 60 is to 60
in_sixtieths : (v part whole : ℕ) → IsLow v → v * part ≡ whole → 60 * part ≡ whole * (60 / v)
in_sixtieths v part whole h e =
    let sixty : v * (60 / v) ≡ 60 = eqb-true (v * (60 / v)) 60 (passes (λ n. eqb (n * (60 / n)) 60) refl v h) in
    let a = ap (λ n. n * part) sixty in
    let b = ap (λ n. n * (60 / v)) e in
    omega arith

record AreThese (a b c x y z : ℕ) : Type 0 where
  pub one : a ≡ x
  pub two : b ≡ y
  pub three : c ≡ z

these : (a b c x y z : ℕ) → are a b c x y z ≡ true → AreThese a b c x y z
these a b c x y z h =
    let outer = and_parts (eqb a x) (eqb b y && eqb c z) h in
    let inner = and_parts (eqb b y) (eqb c z) outer.1 in
    record { one = eqb-true a x outer.0; two = eqb-true b y inner.0; three = eqb-true c z inner.1 }

sum_of_three : (f : ℕ → ℕ) (a b c : ℕ) → sum_by f (a ∷ b ∷ c ∷ []) ≡ f a + (f b + f c)
sum_of_three f a b c =
    let one = sum_by-cons f a (b ∷ c ∷ []) in
    let two = sum_by-cons f b (c ∷ []) in
    let three = sum_by-cons f c [] in
    omega arith

-- three numbers in another order
arranged_three : (a b c x y z u v w : ℕ) → AreThese a b c u v w → ((f : ℕ → ℕ) → f u + (f v + f w) ≡ f x + (f y + f z)) → AreArranged (a ∷ b ∷ c ∷ []) (x ∷ y ∷ z ∷ [])
arranged_three a b c x y z u v w h same f =
    let from = sum_of_three f a b c in
    let to = sum_of_three f x y z in
    let ea = ap f h.one in
    let eb = ap f h.two in
    let ec = ap f h.three in
    let e = same f in
    omega arith

plane_236 : (a b c u v w : ℕ) → are a b c u v w ≡ true → ((f : ℕ → ℕ) → f u + (f v + f w) ≡ f 2 + (f 3 + f 6)) → HasPlaneValues (a ∷ b ∷ c ∷ [])
plane_236 a b c u v w h same = record { order = 2 ∷ 3 ∷ 6 ∷ []; plane = inr (inr (inl refl)); arranged = arranged_three a b c 2 3 6 u v w (these a b c u v w h) same }

plane_244 : (a b c u v w : ℕ) → are a b c u v w ≡ true → ((f : ℕ → ℕ) → f u + (f v + f w) ≡ f 2 + (f 4 + f 4)) → HasPlaneValues (a ∷ b ∷ c ∷ [])
plane_244 a b c u v w h same = record { order = 2 ∷ 4 ∷ 4 ∷ []; plane = inr (inr (inr (inl refl))); arranged = arranged_three a b c 2 4 4 u v w (these a b c u v w h) same }

plane_333 : (a b c : ℕ) → are a b c 3 3 3 ≡ true → HasPlaneValues (a ∷ b ∷ c ∷ [])
plane_333 a b c h = record { order = 3 ∷ 3 ∷ 3 ∷ []; plane = inr (inr (inr (inr (inl refl)))); arranged = arranged_three a b c 3 3 3 3 3 3 (these a b c 3 3 3 h) (λ f. refl) }

triple_plane : (a b c : ℕ) → is_triple a b c ≡ true → HasPlaneValues (a ∷ b ∷ c ∷ [])
triple_plane a b c h =
    ⊎_elim
    (λ y0. plane_236 a b c 2 3 6 y0 (λ f. omega arith))
    (λ n0. ⊎_elim
    (λ y1. plane_236 a b c 2 6 3 y1 (λ f. omega arith))
    (λ n1. ⊎_elim
    (λ y2. plane_236 a b c 3 2 6 y2 (λ f. omega arith))
    (λ n2. ⊎_elim
    (λ y3. plane_236 a b c 3 6 2 y3 (λ f. omega arith))
    (λ n3. ⊎_elim
    (λ y4. plane_236 a b c 6 2 3 y4 (λ f. omega arith))
    (λ n4. ⊎_elim
    (λ y5. plane_236 a b c 6 3 2 y5 (λ f. omega arith))
    (λ n5. ⊎_elim
    (λ y6. plane_244 a b c 2 4 4 y6 (λ f. omega arith))
    (λ n6. ⊎_elim
    (λ y7. plane_244 a b c 4 2 4 y7 (λ f. omega arith))
    (λ n7. ⊎_elim
    (λ y8. plane_244 a b c 4 4 2 y8 (λ f. omega arith))
    (λ n8. plane_333 a b c n8)
    (or_cases (are a b c 4 4 2) (are a b c 3 3 3) n7))
    (or_cases (are a b c 4 2 4) (are a b c 4 4 2 || are a b c 3 3 3) n6))
    (or_cases (are a b c 2 4 4) (are a b c 4 2 4 || (are a b c 4 4 2 || are a b c 3 3 3)) n5))
    (or_cases (are a b c 6 3 2) (are a b c 2 4 4 || (are a b c 4 2 4 || (are a b c 4 4 2 || are a b c 3 3 3))) n4))
    (or_cases (are a b c 6 2 3) (are a b c 6 3 2 || (are a b c 2 4 4 || (are a b c 4 2 4 || (are a b c 4 4 2 || are a b c 3 3 3)))) n3))
    (or_cases (are a b c 3 6 2) (are a b c 6 2 3 || (are a b c 6 3 2 || (are a b c 2 4 4 || (are a b c 4 2 4 || (are a b c 4 4 2 || are a b c 3 3 3))))) n2))
    (or_cases (are a b c 3 2 6) (are a b c 3 6 2 || (are a b c 6 2 3 || (are a b c 6 3 2 || (are a b c 2 4 4 || (are a b c 4 2 4 || (are a b c 4 4 2 || are a b c 3 3 3)))))) n1))
    (or_cases (are a b c 2 6 3) (are a b c 3 2 6 || (are a b c 3 6 2 || (are a b c 6 2 3 || (are a b c 6 3 2 || (are a b c 2 4 4 || (are a b c 4 2 4 || (are a b c 4 4 2 || are a b c 3 3 3))))))) n0))
    (or_cases (are a b c 2 3 6) (are a b c 2 6 3 || (are a b c 3 2 6 || (are a b c 3 6 2 || (are a b c 6 2 3 || (are a b c 6 3 2 || (are a b c 2 4 4 || (are a b c 4 2 4 || (are a b c 4 4 2 || are a b c 3 3 3)))))))) h)

-- three numbers of which the parts make up the whole
three_values : (whole a b c : ℕ) → 1 ≤ whole → IsDivisor whole a → IsDivisor whole b → IsDivisor whole c → want whole a + want whole b + want whole c ≡ 2 * whole
    → HasPlaneValues (a ∷ b ∷ c ∷ [])
three_values whole a b c some ha hb hc e =
    let x = whole / a in
    let y = whole / b in
    let z = whole / c in
    let ea : a * x ≡ whole = part_of whole a ha in
    let eb : b * y ≡ whole = part_of whole b hb in
    let ec : c * z ≡ whole = part_of whole c hc in
    let half_a = at_most 2 a x whole ha.above ea in
    let half_b = at_most 2 b y whole hb.above eb in
    let half_c = at_most 2 c z whole hc.above ec in
    let sum : x + y + z ≡ whole = omega arith in
    let low_a : IsLow a = (ha.above, at_most_six a b c x y z whole some hb.above hc.above ea eb ec sum) in
    let low_b : IsLow b = (hb.above, at_most_six b a c y x z whole some ha.above hc.above eb ea ec (omega arith)) in
    let low_c : IsLow c = (hc.above, at_most_six c a b z x y whole some ha.above hb.above ec ea eb (omega arith)) in
    let pa = in_sixtieths a x whole low_a ea in
    let pb = in_sixtieths b y whole low_b eb in
    let pc = in_sixtieths c z whole low_c ec in
    let total : 60 / a + 60 / b + 60 / c ≡ 60 = same_factor (60 / a + 60 / b + 60 / c) 60 whole some (omega arith) in
    triple_plane a b c (if_then (is_whole a b c) (is_triple a b c) (all_triples a b c low_a low_b low_c) (eq-eqb (60 / a + 60 / b + 60 / c) 60 total))

-- ## Lists of divisors

abbrev AreDivisors : ℕ → List ℕ → Type 0
AreDivisors whole vs = (v : ℕ) → Contains vs v → IsDivisor whole v

total_high : (whole : ℕ) (vs : List ℕ) → AreDivisors whole vs → length vs * whole ≤ 2 * sum_by (want whole) vs
total_high whole [] are = omega arith
total_high whole (v ∷ vs) are =
    let split = sum_by-cons (want whole) v vs in
    let here = at_least_half whole v (are v (Contains-head v vs)) in
    let rest = total_high whole vs (λ w later. are w (Contains-later v w vs later)) in
    omega arith

total_low : (whole : ℕ) (vs : List ℕ) → 1 ≤ whole → AreDivisors whole vs → sum_by (want whole) vs + length vs ≤ length vs * whole
total_low whole [] some are = omega arith
total_low whole (v ∷ vs) some are =
    let split = sum_by-cons (want whole) v vs in
    let here = below_one whole v some (are v (Contains-head v vs)) in
    let rest = total_low whole vs some (λ w later. are w (Contains-later v w vs later)) in
    omega arith

-- the sum is 0, 1 or 2
abbrev pub IsWholeSum : ℕ → ℕ → Type 0
IsWholeSum whole total = (total ≡ 0) ⊎ (total ≡ whole) ⊎ (total ≡ 2 * whole)

pub plane_values : (whole : ℕ) (vs : List ℕ) → 1 ≤ whole → AreDivisors whole vs → IsWholeSum whole (sum_by (want whole) vs) → HasPlaneValues vs
plane_values whole [] some are sum = record { order = []; plane = inl refl; arranged = λ f. refl }
plane_values whole (a ∷ []) some are sum =
    let vs : List ℕ = a ∷ [] in
    let high = total_high whole vs are in
    let low = total_low whole vs some are in
    absurd (⊎_elim (λ none. omega arith) (λ more. ⊎_elim (λ one. omega arith) (λ two. omega arith) more) sum)
plane_values whole (a ∷ b ∷ []) some are sum =
    let vs : List ℕ = a ∷ b ∷ [] in
    let high = total_high whole vs are in
    let low = total_low whole vs some are in
    let one : sum_by (want whole) vs ≡ whole = ⊎_elim (λ none. absurd (omega arith)) (λ more. ⊎_elim (λ e. e) (λ two. absurd (omega arith)) more) sum in
    let ha = are a (Contains-head a (b ∷ [])) in
    let hb = are b (Contains-later a b (b ∷ []) (Contains-head b [])) in
    let la = at_least_half whole a ha in
    let lb = at_least_half whole b hb in
    let s1 = sum_by-cons (want whole) a (b ∷ []) in
    let s2 = sum_by-cons (want whole) b [] in
    let ea = is_two whole a some ha (omega arith) in
    let eb = is_two whole b some hb (omega arith) in
    record {
      order = 2 ∷ 2 ∷ [];
      plane = inr (inl refl);
      arranged = λ f. ap (λ z. sum_by f (z ∷ b ∷ [])) ea ∙ ap (λ z. sum_by f (2 ∷ z ∷ [])) eb;
    }
plane_values whole (a ∷ b ∷ c ∷ []) some are sum =
    let vs : List ℕ = a ∷ b ∷ c ∷ [] in
    let high = total_high whole vs are in
    let low = total_low whole vs some are in
    let two : sum_by (want whole) vs ≡ 2 * whole = ⊎_elim (λ none. absurd (omega arith)) (λ more. ⊎_elim (λ one. absurd (omega arith)) (λ e. e) more) sum in
    let ha = are a (Contains-head a (b ∷ c ∷ [])) in
    let hb = are b (Contains-later a b (b ∷ c ∷ []) (Contains-head b (c ∷ []))) in
    let hc = are c (Contains-later a c (b ∷ c ∷ []) (Contains-later b c (c ∷ []) (Contains-head c []))) in
    let s = sum_of_three (want whole) a b c in
    three_values whole a b c some ha hb hc (omega arith)
plane_values whole (a ∷ b ∷ c ∷ d ∷ []) some are sum =
    let vs : List ℕ = a ∷ b ∷ c ∷ d ∷ [] in
    let high = total_high whole vs are in
    let low = total_low whole vs some are in
    let two : sum_by (want whole) vs ≡ 2 * whole = ⊎_elim (λ none. absurd (omega arith)) (λ more. ⊎_elim (λ one. absurd (omega arith)) (λ e. e) more) sum in
    let ha = are a (Contains-head a (b ∷ c ∷ d ∷ [])) in
    let hb = are b (Contains-later a b (b ∷ c ∷ d ∷ []) (Contains-head b (c ∷ d ∷ []))) in
    let hc = are c (Contains-later a c (b ∷ c ∷ d ∷ []) (Contains-later b c (c ∷ d ∷ []) (Contains-head c (d ∷ [])))) in
    let hd = are d (Contains-later a d (b ∷ c ∷ d ∷ []) (Contains-later b d (c ∷ d ∷ []) (Contains-later c d (d ∷ []) (Contains-head d [])))) in
    let la = at_least_half whole a ha in
    let lb = at_least_half whole b hb in
    let lc = at_least_half whole c hc in
    let ld = at_least_half whole d hd in
    let s1 = sum_by-cons (want whole) a (b ∷ c ∷ d ∷ []) in
    let s2 = sum_of_three (want whole) b c d in
    let ea = is_two whole a some ha (omega arith) in
    let eb = is_two whole b some hb (omega arith) in
    let ec = is_two whole c some hc (omega arith) in
    let ed = is_two whole d some hd (omega arith) in
    record {
      order = 2 ∷ 2 ∷ 2 ∷ 2 ∷ [];
      plane = inr (inr (inr (inr (inr refl))));
      arranged = λ f. ap (λ z. sum_by f (z ∷ b ∷ c ∷ d ∷ [])) ea ∙ ap (λ z. sum_by f (2 ∷ z ∷ c ∷ d ∷ [])) eb ∙ ap (λ z. sum_by f (2 ∷ 2 ∷ z ∷ d ∷ [])) ec ∙ ap (λ z. sum_by f (2 ∷ 2 ∷ 2 ∷ z ∷ [])) ed;
    }
plane_values whole (a ∷ b ∷ c ∷ d ∷ e ∷ vs) some are sum =
    let all : List ℕ = a ∷ b ∷ c ∷ d ∷ e ∷ vs in
    let high = total_high whole all are in
    absurd (⊎_elim (λ none. omega arith) (λ more. ⊎_elim (λ one. omega arith) (λ two. omega arith) more) sum)
