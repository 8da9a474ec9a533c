use Rattle.std.proofs.Common.{ℕ, ◌*◌, ◌^◌, ◌<◌, ◌≤◌, List, length, get_or, replicate, refl, sym, ap, ◌∙◌, subst, arith}
use Rattle.std.proofs.lemmas.List.{get_or-set_same, length-set}
use Rattle.std.specs.Int.{bit_at}
use Rattle.dd_branch_degrees.specs.declared.places.DegreeSlot.{DegreeSlot}
use Rattle.dd_branch_degrees.proofs.RestSums.{none_yet, one_more, end_kept, still_none, still_small, surplus_more}
use Rattle.dd_branch_degrees.proofs.later_budgets.LaterBudgets.of.Goals as goal

pub loop-place-init : goal.loop-place-init
loop-place-init c = record {
  most_numbers = refl;
  least_numbers = refl;
  surplus_numbers = length-set (replicate 73 0) _ _;
  inside = omega arith;
  no_most = none_yet _ c.as_slice-places.ensures.fits;
  no_least = none_yet _ c.as_slice-places.ensures.fits;
  no_surplus = ap (λ n. bit_at n 63) (get_or-set_same (replicate 73 0) (length c.as_slice-places.result.now) (2 ^ 63) 0 (let few = c.as_slice-places.ensures.fits in omega (arith, few)));
  most_small = let e = none_yet _ c.as_slice-places.ensures.fits in omega (arith, e);
  least_small = let e = none_yet _ c.as_slice-places.ensures.fits in omega (arith, e);
  each_most = λ j x low high. absurd (omega (arith, low, high));
  each_least = λ j x low high. absurd (omega (arith, low, high));
  each_surplus = λ j x low high. absurd (omega (arith, low, high));
}

pub loop-place-preserved : goal.loop-place-preserved
loop-place-preserved c =
    let old = c.loop-place.invariant in
    let places = c.as_slice-places.result.now in
    let k = c.loop-place.place in
    let most = c.loop-place.most in
    let least = c.loop-place.least in
    let some = c.loop-place-test.true in
    let inside = old.inside in
    let few = c.as_slice-places.ensures.fits in
    let most_numbers = old.most_numbers in
    let least_numbers = old.least_numbers in
    let surplus_numbers = old.surplus_numbers in
    let same = sym c.as_slice-places.ensures.value in
    let most_told : (j : ℕ) (x : DegreeSlot) → j < length places → (get_or places j x).most ≤ 24 =
    subst (λ (xs : List DegreeSlot). (j : ℕ) (x : DegreeSlot) → j < length xs → (get_or xs j x).most ≤ 24) same c.requires.most in
    let sides_told : (j : ℕ) (x : DegreeSlot) → j < length places → (get_or places j x).sides ≤ 2 =
    subst (λ (xs : List DegreeSlot). (j : ℕ) (x : DegreeSlot) → j < length xs → (get_or xs j x).sides ≤ 2) same c.requires.sides in
    record {
      most_numbers = length-set most _ _ ∙ most_numbers;
      least_numbers = length-set least _ _ ∙ least_numbers;
      surplus_numbers = length-set c.loop-place.surplus _ _ ∙ surplus_numbers;
      inside = omega (arith, inside);
      no_most = end_kept (λ p. p.most) places _ most k _ c.from.ensures some inside old.no_most;
      no_least = end_kept (λ p. 2 * p.sides) places _ least k _ c.from-in-loop-place.ensures some inside old.no_least;
      no_surplus = still_none places c.loop-place.surplus k _ some inside old.no_surplus;
      most_small = still_small (λ p. p.most) places _ most k _ c.from.ensures some inside (omega (arith, few, most_numbers)) most_told old.most_small;
      least_small = still_small (λ p. 2 * p.sides) places _ least k _ c.from-in-loop-place.ensures some inside (omega (arith, few, least_numbers)) (λ j x low. let two = sides_told j x low in omega (arith, two)) old.least_small;
      each_most = one_more (λ p. p.most) places _ most k _ c.from.ensures some inside (omega (arith, few, most_numbers)) old.each_most;
      each_least = one_more (λ p. 2 * p.sides) places _ least k _ c.from-in-loop-place.ensures some inside (omega (arith, few, least_numbers)) old.each_least;
      each_surplus = surplus_more places _ c.loop-place.surplus k _ some inside (omega (arith, few, surplus_numbers)) c.surplus_with.ensures old.each_surplus;
    }
