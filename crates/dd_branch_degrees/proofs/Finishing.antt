-- What is told on the way down the cells, by what the next degree may have of the budget.
use Rattle.std.proofs.Common.{◌≡◌, ◌≢◌, ◌⊎◌, ℕ, w64, ◌+◌, ◌-◌, ◌*◌, ◌/◌, ◌^◌, ◌<◌, ◌≤◌, List, [], ◌∷◌, ◌++◌, length, get_or, take, sym, ap, ◌∙◌, inl, inr, ⊎_elim, arith}
use Rattle.std.proofs.Math.Nat.{mul-le-mul_left, mul-le-mul_right}
use Rattle.std.proofs.lemmas.Bool.{cases_eq, cases_lt}
use Rattle.std.proofs.lemmas.List.{take-take}
use Rattle.std.proofs.lemmas.Nat.Bits.{bit_at-lt, bit_at-zero}
use Rattle.std.specs.Int.{bit_at, trailing_zeros}
use Rattle.std.specs.Int.Bits.{bit_and}
use Rattle.dd_model.specs.Symbol.{Symbol}
use Rattle.dd_model.specs.Wanted.{IsCrystallographic, IsMember}
use Rattle.dd_model.proofs.WantedDegrees.{by_value}
use Rattle.dd_front_jobs.specs.Under.{Appends, AreUnder, AreUnderBefore, next_number}
use Rattle.dd_model.proofs.LowestBits.{dropped_other, lowest_bit}
use Rattle.dd_branch_tables.proofs.Prefixes.{appends_all, appends_first, appends_next, extended, shortened as prefix_shortened}
use Rattle.dd_branch_degrees.specs.Budget.{no_place}
use Rattle.dd_branch_degrees.specs.Choice.{HasBranching}
use Rattle.dd_branch_degrees.specs.Assignment.{Assigned, IsAssignment, IsAtRoot, IsMemberUnder, next_place, prefix_of, shortened, told}
use Rattle.dd_branch_degrees.specs.Entered.{AreFitting, HasBudget, HasEntered, HasTold}
use Rattle.dd_branch_degrees.proofs.Advancing.{IsDegreeWith, IsNext, branching_of, degree_small, next_value, some_sides, sound_next, spends, with_list}
use Rattle.dd_branch_degrees.proofs.Assigned.{length-prefix}
use Rattle.dd_branch_degrees.proofs.Bits.{highest_set, none_from_highest, none_higher, without_highest}
use Rattle.dd_branch_degrees.proofs.Choices.{is_crystallographic, part_falls, share_exists, value_of}

-- what a loop over them tests
pub room_below : (a : Assigned) (own whole : ℕ) → IsAssignment a → own < whole → own ≡ told a → whole ≡ length a.places.items → told a < 2 * a.table.size
room_below a own whole is test mine all = let count = is.places.count in omega (arith, count, test, mine, all)

pub whole_here : (a : Assigned) (own whole : ℕ) → IsAssignment a → whole ≤ own → own ≡ told a → whole ≡ length a.places.items → told a ≡ 2 * a.table.size
whole_here a own whole is test mine all = let short = is.short in let count = is.places.count in omega (arith, short, count, test, mine, all)

-- ## Parts

-- a greater branching value has a smaller part
smaller_part : (v : ℕ) → IsCrystallographic v → (w : ℕ) → IsCrystallographic w → v < w → 12 / w + 1 ≤ 12 / v
smaller_part =
    by_value (λ v. (w : ℕ) → IsCrystallographic w → v < w → 12 / w + 1 ≤ 12 / v)
    (by_value (λ w. 1 < w → 12 / w + 1 ≤ 12 / 1) (λ l. absurd (omega (arith, l))) (λ l. omega arith) (λ l. omega arith) (λ l. omega arith) (λ l. omega arith))
    (by_value (λ w. 2 < w → 12 / w + 1 ≤ 12 / 2) (λ l. absurd (omega (arith, l))) (λ l. absurd (omega (arith, l))) (λ l. omega arith) (λ l. omega arith) (λ l. omega arith))
    (by_value (λ w. 3 < w → 12 / w + 1 ≤ 12 / 3) (λ l. absurd (omega (arith, l))) (λ l. absurd (omega (arith, l))) (λ l. absurd (omega (arith, l))) (λ l. omega arith) (λ l. omega arith))
    (by_value (λ w. 4 < w → 12 / w + 1 ≤ 12 / 4) (λ l. absurd (omega (arith, l))) (λ l. absurd (omega (arith, l))) (λ l. absurd (omega (arith, l))) (λ l. absurd (omega (arith, l))) (λ l. omega arith))
    (by_value (λ w. 6 < w → 12 / w + 1 ≤ 12 / 6) (λ l. absurd (omega (arith, l))) (λ l. absurd (omega (arith, l))) (λ l. absurd (omega (arith, l))) (λ l. absurd (omega (arith, l))) (λ l. absurd (omega (arith, l))))

times_smaller : (sides a b : ℕ) → 1 ≤ sides → a + 1 ≤ b → sides * a < sides * b
times_smaller sides a b some up = let more : sides * (a + 1) ≤ sides * b = mul-le-mul_left sides up in omega (arith, more, some)

-- ## The one share that fits

-- a share of the next place, and no more than is left
pub record IsFitting (a : Assigned) (left e : ℕ) : Type 0 where
  pub told_ : bit_at (next_place a).shares e ≡ 1
  pub branching : HasBranching (next_place a).sides e
  pub fits : e ≤ left

pub share_fits : (a : Assigned) (left fitting e : ℕ) → IsAssignment a → told a < 2 * a.table.size → IsAtRoot a → AreFitting a left fitting → bit_at fitting e ≡ 1 → IsFitting a left e
share_fits a left fitting e is room root are there =
    let within = are.within e there in
    record { told_ = within.0; branching = branching_of a e is room root within.0; fits = within.1 }

pub first_fits : (a : Assigned) (left fitting : ℕ) → IsAssignment a → told a < 2 * a.table.size → IsAtRoot a → AreFitting a left fitting → fitting ≢ 0 → fitting < 2 ^ 64 → IsFitting a left (trailing_zeros w64 fitting)
first_fits a left fitting is room root are some wide = share_fits a left fitting (trailing_zeros w64 fitting) is room root are (lowest_bit fitting (omega (arith, some)) wide).set_

-- a number without a second bit
pub single_bit : (n : ℕ) → n ≢ 0 → n < 2 ^ 64 → bit_and n (n - 1) ≡ 0 → (i : ℕ) → bit_at n i ≡ 1 → i ≡ trailing_zeros w64 n
single_bit n some wide none i there =
    let k = trailing_zeros w64 n in
    ⊎_elim (λ same. same) (λ other. absurd (
    let gone = sym (dropped_other n k i (lowest_bit n (omega (arith, some)) wide) other) ∙ ap (λ x. bit_at x i) none ∙ bit_at-zero i in
    omega (arith, gone, there))) (cases_eq i k)

-- each member has it
pub only_share : (a : Assigned) (left fitting e m : ℕ) → IsAssignment a → told a < 2 * a.table.size → AreFitting a left fitting → ((i : ℕ) → bit_at fitting i ≡ 1 → i ≡ e) → IsDegreeWith (next_place a) e m
    → (s : Symbol) → IsMemberUnder a (prefix_of a) s → next_number (prefix_of a) s ≡ m
only_share a left fitting e m is room are single with s under =
    let x = next_place a in
    let next = next_value a is room s under in
    let w = next.value in
    let value = next.is_value in
    let crystallographic = is_crystallographic w value.low value.high value.other in
    let own : ℕ = x.sides * (12 / w) - 2 * x.sides in
    let beyond = share_exists x.sides w crystallographic in
    let same : own ≡ e = single own (are.all s under w own next.product beyond) in
    next.product ∙ sym (with w crystallographic (ap (λ k. k + 2 * x.sides) (sym same) ∙ beyond))

-- ## One cell after another

pub told_more : (a b c : Assigned) (m : ℕ) → IsAssignment b → told b < 2 * b.table.size → HasTold a b → HasEntered b m c
    → ((s : Symbol) → IsMemberUnder b (prefix_of b) s → next_number (prefix_of b) s ≡ m) → HasTold a c
told_more a b c m is room old entered next =
    let longer = old.longer in
    let more = entered.longer in
    let whole = length-prefix b is in
    record {
      back =
          let once : take (told a) c.degrees.items ≡ take (told a) b.degrees.items =
          sym (take-take (told a) (told b) c.degrees.items longer) ∙ ap (λ (x : Assigned). take (told a) x.degrees.items) entered.back in
          ap (with_list c) once ∙ ap (λ (x : Assigned). with_list x (take (told a) b.degrees.items)) entered.back ∙ old.back;
      longer = omega (arith, longer, more);
      under = λ s. (
        (λ u.
            let v = (old.under s).0 u in
            (entered.under s).0 (extended (IsMember b.request) b.table.size (prefix_of b) m s (omega (arith, whole, room)) v (next s v))),
        (λ u. (old.under s).1 (prefix_shortened (IsMember b.request) b.table.size (prefix_of b) m s ((entered.under s).1 u)).0),
      );
    }

-- ## The end

least_at_end : (a : Assigned) → IsAssignment a → told a ≡ 2 * a.table.size → get_or a.budgets.least (told a) 0 ≡ 0
least_at_end a is whole = let count = is.places.count in ap (λ j. get_or a.budgets.least j 0) (whole ∙ sym count) ∙ is.budgets.no_least

-- where all degrees are told and something is left, there is no member
pub none_at_end : (a : Assigned) (left : ℕ) → IsAssignment a → told a ≡ 2 * a.table.size → HasBudget a left → (left ≡ 0 → ⊥) → (s : Symbol) → IsMemberUnder a (prefix_of a) s → ⊥
none_at_end a left is whole budget some s under =
    let has = spends a is s under in
    let count = is.places.count in
    let most = has.most (told a) (omega (arith, whole)) in
    let none = ap (λ j. get_or a.budgets.most j 0) (whole ∙ sym count) ∙ is.budgets.no_most in
    let upto = has.upto in
    let least = least_at_end a is whole in
    some (omega (arith, most, none, upto, least, budget))

-- what was found then
pub found_told : (a b : Assigned) → HasTold a b → (old new : List Symbol) → Appends (AreUnder (IsMember b.request) b.table.size (prefix_of b)) old new → Appends (AreUnder (IsMember a.request) a.table.size (prefix_of a)) old new
found_told a b has old new more = record {
  list = more.list;
  grown = more.grown;
  holds = record {
    ascending = more.holds.ascending;
    members = λ s. (
      (λ there. (has.under s).1 ((more.holds.members s).0 there)),
      (λ u. (more.holds.members s).1 ((has.under s).0 u)),
    );
  };
}

-- ## From a degree to the end

-- back from what was told after a degree
pub back_through : (a b c : Assigned) (m : ℕ) → HasEntered a m b → HasTold b c → shortened c (told a) ≡ a
back_through a b c m entered has =
    let longer = entered.longer in
    let once : take (told a) c.degrees.items ≡ take (told a) b.degrees.items =
    sym (take-take (told a) (told b) c.degrees.items (omega (arith, longer))) ∙ ap (λ (x : Assigned). take (told a) x.degrees.items) has.back in
    ap (with_list c) once ∙ ap (λ (x : Assigned). with_list x (take (told a) b.degrees.items)) has.back ∙ entered.back

-- What was found of the members under a prefix is what comes before a number: none of it has a share that is left.
pub record HasTried (a : Assigned) (rest : ℕ) (old new : List Symbol) : Type 0 where
  pub bound : ℕ
  pub found : Appends (AreUnderBefore (IsMember a.request) a.table.size (prefix_of a) bound) old new
  pub later : (v e : ℕ) → bit_at rest e ≡ 1 → IsCrystallographic v → e + 2 * (next_place a).sides ≡ (next_place a).sides * (12 / v) → bound ≤ v * (next_place a).turns
  pub others : (s : Symbol) → IsMemberUnder a (prefix_of a) s → (v e : ℕ) → next_number (prefix_of a) s ≡ v * (next_place a).turns → IsCrystallographic v → e + 2 * (next_place a).sides ≡ (next_place a).sides * (12 / v) → bit_at rest e ≡ 0
      → next_number (prefix_of a) s < bound

pub none_tried : (a : Assigned) (left fitting : ℕ) → AreFitting a left fitting → (old : List Symbol) → HasTried a fitting old old
none_tried a left fitting are old = record {
  bound = 0;
  found = appends_first (IsMember a.request) a.table.size (prefix_of a) old;
  later = λ v e told_ c beyond. omega arith;
  others = λ s under v e next c beyond gone. absurd (let there = are.all s under v e next beyond in omega (arith, there, gone));
}

-- of two shares the greater has the smaller branching value
smaller_value : (sides v w e k : ℕ) → 1 ≤ sides → IsCrystallographic v → IsCrystallographic w → k + 2 * sides ≡ sides * (12 / v) → e + 2 * sides ≡ sides * (12 / w) → e ≤ k → v ≤ w
smaller_value sides v w e k some cv cw is other low = ⊎_elim
    (λ less.
    let falls = times_smaller sides (12 / v) (12 / w) some (smaller_part w cw v cv less) in
    absurd (omega (arith, falls, is, other, low)))
    (λ high. high)
    (cases_lt w v)

pub all_tried : (a : Assigned) (rest : ℕ) → IsAssignment a → told a < 2 * a.table.size → rest ≡ 0 → (old new : List Symbol) → HasTried a rest old new → Appends (AreUnder (IsMember a.request) a.table.size (prefix_of a)) old new
all_tried a rest is room none old new has =
    appends_all (IsMember a.request) a.table.size (prefix_of a) has.bound old new
    (λ s under.
    let next = next_value a is room s under in
    let value = next.is_value in
    let c = is_crystallographic next.value value.low value.high value.other in
    let e : ℕ = (next_place a).sides * (12 / next.value) - 2 * (next_place a).sides in
    has.others s under next.value e next.product c (share_exists (next_place a).sides next.value c) (ap (λ n. bit_at n e) none ∙ bit_at-zero e))
    has.found

-- what is found with the greatest share that is left
pub share_tried : (a : Assigned) (rest k m : ℕ) → IsAssignment a → told a < 2 * a.table.size → IsAtRoot a → 2 ^ k ≤ rest → rest < 2 * 2 ^ k → (has : HasBranching (next_place a).sides k) → m ≡ has.value * (next_place a).turns
    → (old mid new : List Symbol) → HasTried a rest old mid → Appends (AreUnder (IsMember a.request) a.table.size (prefix_of a ++ m ∷ [])) mid new → HasTried a (rest - 2 ^ k) old new
share_tried a rest k m is room root low high has at old mid new tried found =
    let x = next_place a in
    let v = has.value in
    let c = has.crystallographic in
    let some = some_sides a is room root in
    let turns = (sound_next a is (told a) no_place room).some in
    let whole = length-prefix a is in
    let small = degree_small a v is room (value_of v c).high in
    let first = tried.later v k (highest_set rest k low high) c has.beyond in
    record {
      bound = m + 1;
      found = appends_next (IsMember a.request) a.table.size (prefix_of a) tried.bound m old mid new (omega (arith, whole, room)) (record {
        later = omega (arith, first, at);
        small = omega (arith, at, small);
        none_between = λ s under. let n = next_of s under in ⊎_elim
            (λ gone. inl (tried.others s under n.value (own n) n.product (crystal n) (beyond_ n) gone))
            (λ there.
            let up = smaller_value x.sides v n.value (own n) k some c (crystal n) has.beyond (beyond_ n) (⊎_elim (λ above. absurd (let none = none_higher rest k (own n) high above in omega (arith, none, there))) (λ below. below) (cases_lt k (own n))) in
            let more : v * x.turns ≤ n.value * x.turns = mul-le-mul_right x.turns up in
            let e = n.product in
            inr (omega (arith, more, e, at)))
            (bit_cases (bit_at rest (own n)) (bit_at-lt rest (own n)));
      }) tried.found found;
      later = λ w e left_ cw is_w.
          let below : e < k = ⊎_elim (λ less. less) (λ up. absurd (let none = none_from_highest rest k e low high up in omega (arith, none, left_))) (cases_lt e k) in
          let up = ⊎_elim (λ less. less) (λ back. absurd (let falls = part_falls x.sides w v (value_of w cw).low back in let e1 = has.beyond in omega (arith, falls, e1, is_w, below))) (cases_lt v w) in
          let more : (v + 1) * x.turns ≤ w * x.turns = mul-le-mul_right x.turns (omega (arith, up)) in
          let step : (v + 1) * x.turns ≡ v * x.turns + x.turns = omega arith in
          omega (arith, more, step, at, turns);
      others = λ s under w e next cw is_w gone. ⊎_elim
          (λ below. let before = tried.others s under w e next cw is_w (sym (without_highest rest k e low high below) ∙ gone) in omega (arith, before, first, at))
          (λ up. ⊎_elim
          (λ above. let before = tried.others s under w e next cw is_w (none_higher rest k e high above) in omega (arith, before, first, at))
          (λ same.
          let back = smaller_value x.sides w v k e some cw c is_w has.beyond (omega (arith, up)) in
          let less : w * x.turns ≤ v * x.turns = mul-le-mul_right x.turns back in
          omega (arith, less, next, at))
          (cases_lt k e))
          (cases_lt e k);
    }
  where
    next_of : (s : Symbol) → IsMemberUnder a (prefix_of a) s → IsNext a (next_number (prefix_of a) s)
    next_of s under = next_value a is room s under

    crystal : {m : ℕ} → (n : IsNext a m) → IsCrystallographic n.value
    crystal n = let value = n.is_value in is_crystallographic n.value value.low value.high value.other

    own : {m : ℕ} → IsNext a m → ℕ
    own n = (next_place a).sides * (12 / n.value) - 2 * (next_place a).sides

    beyond_ : {m : ℕ} → (n : IsNext a m) → own n + 2 * (next_place a).sides ≡ (next_place a).sides * (12 / n.value)
    beyond_ n = share_exists (next_place a).sides n.value (crystal n)

    bit_cases : (b : ℕ) → b < 2 → (b ≡ 0) ⊎ (b ≡ 1)
    bit_cases b less = ⊎_elim (λ low. inl (omega (arith, low))) (λ high. inr (omega (arith, high, less))) (cases_lt b 1)
