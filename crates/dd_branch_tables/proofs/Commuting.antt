-- What is known of s0 and s2 commutes round an image that is put in.
use Rattle.std.proofs.Common.{◌≡◌, ◌≢◌, ℕ, ◌-◌, ◌/◌, ◌%◌, ◌≤◌, refl, sym, ap, ◌∙◌, subst, ⊎_elim, arith}
use Rattle.std.proofs.lemmas.Bool.{cases_lt, cases_eq}
use Rattle.dd_model.specs.declared.index.Index.{Index}
use Rattle.dd_model.specs.declared.index.Index.TheVariants.{Zero, One, Two}
use Rattle.dd_model.specs.Symbol.{Symbol, op}
use Rattle.dd_front_jobs.specs.Places.{place}
use Rattle.dd_branch_tables.specs.Commuting.{CommuteAt, CommutesAt, IsCommuting, KeepsCommuting, KeepsOthers}
use Rattle.dd_branch_tables.specs.Rows.{Rows, partial_of, IsReady, Learns}
use Rattle.dd_front_jobs.proofs.Places.{chamber_of_place, index_of_place}
use Rattle.dd_branch_tables.proofs.RowsLemmas.{IsPut, leads_back, op_partial, op_past, put_else}
use Rattle.dd_model.specs.Indices.{index_at}

-- ## Images that lead back

pub record LeadsBack (s : Symbol) : Type 0 where
  pub back : (i : Index) (d : ℕ) → 1 ≤ d → op s i d ≢ 0 → op s i (op s i d) ≡ d

pub op_small : (r : Rows) (i : Index) (d : ℕ) → IsReady r → op (partial_of r) i d ≤ r.size
op_small r i d ready = ⊎_elim
    (λ low. subst (λ e. e ≤ r.size) (sym (op_partial r.size r.numbers i d low)) (ready.within (place i d)))
    (λ past. subst (λ e. e ≤ r.size) (sym (op_past r.size r.numbers i d past)) (omega arith))
    (cases_lt (d - 1) 36)

pub ready_leads_back : (r : Rows) → IsReady r → LeadsBack (partial_of r)
ready_leads_back r ready = record {
  back = λ i d low some. ⊎_elim
      (λ inside.
      let small = ready.small in
      let image = op_small r i d ready in
      leads_back r i d (op (partial_of r) i d) ready low (omega arith) (omega arith) (omega arith) refl)
      (λ past. absurd (some (op_past r.size r.numbers i d past)))
      (cases_lt (d - 1) 36);
}

-- ## One image more

pub put_others : (r r' : Rows) (i : Index) (d e t b : ℕ) → IsPut r r' t b e d → t ≡ place i d → b ≡ place i e → 1 ≤ d → 1 ≤ e → KeepsOthers i d e (partial_of r) (partial_of r')
put_others r r' i d e t b is at back low low' = record {
  same = λ j c pos first second. ⊎_elim
      (λ inside.
      op_partial r'.size r'.numbers j c inside
      ∙ put_else r r' t b e d (place j c) is (λ here. other_place i j c d pos low first (here ∙ at)) (λ here. other_place i j c e pos low' second (here ∙ back))
      ∙ sym (op_partial r.size r.numbers j c inside))
      (λ past. op_past r'.size r'.numbers j c past ∙ sym (op_past r.size r.numbers j c past))
      (cases_lt (c - 1) 36);
}
  where
    other_place : (i j : Index) (c d : ℕ) → 1 ≤ c → 1 ≤ d → (j ≡ i → c ≢ d) → place j c ≡ place i d → ⊥
    other_place i j c d pos low apart here =
        let index : j ≡ i = sym (index_of_place j c) ∙ ap (λ t. index_at (t % 3)) here ∙ index_of_place i d in
        let p = chamber_of_place j c in
        let q = chamber_of_place i d in
        let same = ap (λ t. t / 3) here in
        apart index (omega arith)

-- an image more leaves commuting where it is not on the way
untouched : (old new : Symbol) (i j : Index) (c k d : ℕ) → j ≢ i → KeepsOthers i c k old new → 1 ≤ d → CommuteAt old i j d
    → d ≢ c → d ≢ k → op old j d ≢ c → op old j d ≢ k → CommuteAt new i j d
untouched old new i j c k d apart others low at dc dk jc jk one two =
    let first : op new i d ≡ op old i d = others.same i d low (λ e. dc) (λ e. dk) in
    let second : op new j d ≡ op old j d = others.same j d low (λ e. absurd (apart e)) (λ e. absurd (apart e)) in
    let one_old : op old i d ≢ 0 = λ z. one (first ∙ z) in
    let two_old : op old j d ≢ 0 = λ z. two (second ∙ z) in
    ap (op new j) first
    ∙ others.same j (op old i d) (omega (arith, one_old)) (λ e. absurd (apart e)) (λ e. absurd (apart e))
    ∙ at one_old two_old
    ∙ sym (ap (op new i) second ∙ others.same i (op old j d) (omega (arith, two_old)) (λ e. jc) (λ e. jk))

turned_about : (s : Symbol) (i j : Index) (d : ℕ) → CommuteAt s i j d → CommuteAt s j i d
turned_about s i j d at two one = sym (at one two)

-- with a chamber the one to which j leads commutes
beside : (s : Symbol) (i j : Index) (c d : ℕ) → LeadsBack s → 1 ≤ d → CommuteAt s i j c → op s i c ≢ 0 → op s j d ≡ c → CommuteAt s i j d
beside s i j c d back low at some led one two =
    let there : op s j c ≡ d = ap (op s j) (sym led) ∙ back.back j d low two in
    let known : op s j c ≢ 0 = λ z. omega (arith, low, there, z) in
    let round : op s j (op s i c) ≡ op s i d = at some known ∙ ap (op s i) there in
    ap (op s j) (sym round) ∙ back.back j (op s i c) (omega (arith, some)) (λ z. one (sym round ∙ z)) ∙ ap (op s i) (sym led)

-- and the one to which i leads
along : (s : Symbol) (i j : Index) (c d : ℕ) → LeadsBack s → 1 ≤ d → CommuteAt s i j c → op s j c ≢ 0 → op s i d ≡ c → CommuteAt s i j d
along s i j c d back low at some led = turned_about s j i d (beside s j i c d back low (turned_about s i j c at) some led)

-- ## The image that commuting forces

-- At the chamber c the image o of b under i was put in, where i leads to a and j to b, and j leads from a to o.
pub record IsFilled (old new : Symbol) (i j : Index) (c a b o : ℕ) : Type 0 where
  pub apart : j ≢ i
  pub chamber : 1 ≤ c
  pub first : a ≡ op old i c
  pub second : b ≡ op old j c
  pub opposite : o ≡ op old j a
  pub first_known : a ≢ 0
  pub second_known : b ≢ 0
  pub opposite_known : o ≢ 0
  pub told : op new i b ≡ o
  pub others : KeepsOthers i b o old new
  pub keeps : (h : Index) (d : ℕ) → op old h d ≢ 0 → op new h d ≡ op old h d
  pub back : LeadsBack new

still : (old new : Symbol) (i j : Index) (c a b o : ℕ) → IsFilled old new i j c a b o → (h : Index) (d e : ℕ) → e ≡ op old h d → e ≢ 0 → op new h d ≡ e
still old new i j c a b o is h d e at some = is.keeps h d (λ z. some (at ∙ z)) ∙ sym at

filled_at : (old new : Symbol) (i j : Index) (c a b o : ℕ) → IsFilled old new i j c a b o → CommuteAt new i j c
filled_at old new i j c a b o is one two =
    ap (op new j) (still old new i j c a b o is i c a is.first is.first_known)
    ∙ still old new i j c a b o is j a o is.opposite is.opposite_known
    ∙ sym is.told
    ∙ ap (op new i) (sym (still old new i j c a b o is j c b is.second is.second_known))

filled_kept : (old new : Symbol) (i j : Index) (c a b o : ℕ) → IsFilled old new i j c a b o → (d : ℕ) → 1 ≤ d → CommuteAt old i j d → CommuteAt new i j d
filled_kept old new i j c a b o is d low at =
    let some_a = is.first_known in
    let some_b = is.second_known in
    let some_o = is.opposite_known in
    let ic : op new i c ≡ a = still old new i j c a b o is i c a is.first some_a in
    let jc : op new j c ≡ b = still old new i j c a b o is j c b is.second some_b in
    let ja : op new j a ≡ o = still old new i j c a b o is j a o is.opposite some_o in
    let pos = is.chamber in
    let ia : op new i a ≡ c = ap (op new i) (sym ic) ∙ is.back.back i c pos (λ z. some_a (sym ic ∙ z)) in
    let jb : op new j b ≡ c = ap (op new j) (sym jc) ∙ is.back.back j c pos (λ z. some_b (sym jc ∙ z)) in
    let jo : op new j o ≡ a = ap (op new j) (sym ja) ∙ is.back.back j a (omega (arith, some_a)) (λ z. some_o (sym ja ∙ z)) in
    let at_c : CommuteAt new i j c = filled_at old new i j c a b o is in
    let at_a : CommuteAt new i j a = along new i j c a is.back (omega (arith, some_a)) at_c (λ z. some_b (sym jc ∙ z)) ia in
    let at_b : CommuteAt new i j b = beside new i j c b is.back (omega (arith, some_b)) at_c (λ z. some_a (sym ic ∙ z)) jb in
    let at_o : CommuteAt new i j o = beside new i j a o is.back (omega (arith, some_o)) at_a (λ z. omega (arith, pos, ia, z)) jo in
    let leads : (e : ℕ) → op old j d ≡ e → e ≢ 0 → op new j e ≡ d = λ e led some.
    let now : op new j d ≡ e = is.keeps j d (λ z. some (sym led ∙ z)) ∙ led in
    ap (op new j) (sym now) ∙ is.back.back j d low (λ z. some (sym now ∙ z)) in
    ⊎_elim
    (λ here. subst (CommuteAt new i j) (sym here) at_b)
    (λ not_b. ⊎_elim
    (λ here. subst (CommuteAt new i j) (sym here) at_o)
    (λ not_o. ⊎_elim
    (λ led. subst (CommuteAt new i j) (sym jb ∙ leads b led some_b) at_c)
    (λ not_to_b. ⊎_elim
    (λ led. subst (CommuteAt new i j) (sym jo ∙ leads o led some_o) at_a)
    (λ not_to_o. untouched old new i j b o d is.apart is.others low at not_b not_o not_to_b not_to_o)
    (cases_eq (op old j d) o))
    (cases_eq (op old j d) b))
    (cases_eq d o))
    (cases_eq d b)

-- what is known round a chamber before the image is put in
pub record KnowsRound (old : Rows) (i j : Index) (c a b o : ℕ) : Type 0 where
  pub apart : j ≢ i
  pub chamber : 1 ≤ c
  pub first : a ≡ op (partial_of old) i c
  pub second : b ≡ op (partial_of old) j c
  pub opposite : o ≡ op (partial_of old) j a
  pub first_known : a ≢ 0
  pub second_known : b ≢ 0
  pub opposite_known : o ≢ 0

pub filled_by : (old new : Rows) (i j : Index) (c a b o : ℕ) (P : Symbol → Type 0) → KnowsRound old i j c a b o → IsReady new → Learns P old new
    → op (partial_of new) i b ≡ o → KeepsOthers i b o (partial_of old) (partial_of new) → IsFilled (partial_of old) (partial_of new) i j c a b o
filled_by old new i j c a b o P round ready learnt told others = record {
  apart = round.apart;
  chamber = round.chamber;
  first = round.first;
  second = round.second;
  opposite = round.opposite;
  first_known = round.first_known;
  second_known = round.second_known;
  opposite_known = round.opposite_known;
  told = told;
  others = others;
  keeps = learnt.keeps;
  back = ready_leads_back new ready;
}

pub zero_filled_at : (old new : Symbol) (c a b o : ℕ) → IsFilled old new Zero Two c a b o → CommutesAt new c
zero_filled_at old new c a b o is = filled_at old new Zero Two c a b o is

pub zero_filled : (old new : Symbol) (c a b o : ℕ) → IsFilled old new Zero Two c a b o → KeepsCommuting old new
zero_filled old new c a b o is = record { at = filled_kept old new Zero Two c a b o is }

pub two_filled_at : (old new : Symbol) (c a b o : ℕ) → IsFilled old new Two Zero c a b o → CommutesAt new c
two_filled_at old new c a b o is = turned_about new Two Zero c (filled_at old new Two Zero c a b o is)

pub two_filled : (old new : Symbol) (c a b o : ℕ) → IsFilled old new Two Zero c a b o → KeepsCommuting old new
two_filled old new c a b o is = record {
  at = λ d low at. turned_about new Two Zero d (filled_kept old new Two Zero c a b o is d low (turned_about old Zero Two d at));
}

-- ## An image and what follows from it

-- After the image k of c under i was put in, which made the middle table, the new one commutes at c and k, and where the middle one does.
pub record IsPutRound (old mid new : Symbol) (i : Index) (c k : ℕ) : Type 0 where
  pub chamber : 1 ≤ c
  pub image : 1 ≤ k
  pub others : KeepsOthers i c k old mid
  pub told : op new i c ≡ k
  pub keeps : (j : Index) (d : ℕ) → op old j d ≢ 0 → op new j d ≡ op old j d
  pub back : LeadsBack new
  pub kept : KeepsCommuting mid new
  pub at : CommutesAt new c
  pub at_image : CommutesAt new k

put_round : (old mid new : Symbol) (i j : Index) (c k : ℕ) → j ≢ i → IsPutRound old mid new i c k → CommuteAt new i j c → CommuteAt new i j k
    → (d : ℕ) → 1 ≤ d → CommuteAt old i j d → (CommuteAt mid i j d → CommuteAt new i j d) → CommuteAt new i j d
put_round old mid new i j c k apart is at at_image d low was kept =
    let chamber = is.chamber in
    let image = is.image in
    let there = is.told in
    let known : op new i c ≢ 0 = λ z. omega (arith, image, there, z) in
    let led_back : op new i k ≡ c = ap (op new i) (sym there) ∙ is.back.back i c chamber known in
    ⊎_elim
    (λ here. subst (CommuteAt new i j) (sym here) at)
    (λ not_c. ⊎_elim
    (λ here. subst (CommuteAt new i j) (sym here) at_image)
    (λ not_k. ⊎_elim
    (λ led. beside new i j c d is.back low at known (is.keeps j d (λ z. omega (arith, chamber, led, z)) ∙ led))
    (λ not_to_c. ⊎_elim
    (λ led. beside new i j k d is.back low at_image (λ z. omega (arith, chamber, led_back, z)) (is.keeps j d (λ z. omega (arith, image, led, z)) ∙ led))
    (λ not_to_k. kept (untouched old mid i j c k d apart is.others low was not_c not_k not_to_c not_to_k))
    (cases_eq (op old j d) k))
    (cases_eq (op old j d) c))
    (cases_eq d k))
    (cases_eq d c)

pub commuting_round : (old mid new : Symbol) (i : Index) (c k : ℕ) → i ≢ One → IsPutRound old mid new i c k → IsCommuting old → IsCommuting new
commuting_round old mid new i c k other is was = record {
  at = λ d low. (elim i as (λ h. h ≢ One → IsPutRound old mid new h c k → CommutesAt new d) [
    | Zero ↦ λ o round. put_round old mid new Zero Two c k (λ e. let clash : Two ≡ Zero = e in cc) round round.at round.at_image d low (was.at d low) (round.kept.at d low)
    | One ↦ λ o round. absurd (o refl)
    | Two ↦ λ o round. turned_about new Two Zero d (put_round old mid new Two Zero c k (λ e. let clash : Zero ≡ Two = e in cc) round
        (turned_about new Zero Two c round.at) (turned_about new Zero Two k round.at_image) d low (turned_about old Zero Two d (was.at d low))
        (λ at. turned_about new Zero Two d (round.kept.at d low (turned_about mid Two Zero d at))))
  ]) other is;
}

-- s1 has no part in what commutes
pub commuting_beside : (old new : Symbol) (i : Index) (c k : ℕ) → i ≡ One → KeepsOthers i c k old new → IsCommuting old → IsCommuting new
commuting_beside old new i c k one others was = record {
  at = λ d low first second.
      let same : (j : Index) (e : ℕ) → j ≢ One → 1 ≤ e → op new j e ≡ op old j e = λ j e apart pos. others.same j e pos (λ h. absurd (apart (h ∙ one))) (λ h. absurd (apart (h ∙ one))) in
      let zero_apart : Zero ≢ One = λ e. cc in
      let two_apart : Two ≢ One = λ e. cc in
      let zero_same = same Zero d zero_apart low in
      let two_same = same Two d two_apart low in
      let some : op old Zero d ≢ 0 = λ z. first (zero_same ∙ z) in
      let some' : op old Two d ≢ 0 = λ z. second (two_same ∙ z) in
      ap (op new Two) zero_same ∙ same Two (op old Zero d) two_apart (omega (arith, some)) ∙ was.at d low some some'
      ∙ sym (ap (op new Zero) two_same ∙ same Zero (op old Two d) zero_apart (omega (arith, some')));
}
