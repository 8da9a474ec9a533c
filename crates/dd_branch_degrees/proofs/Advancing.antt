-- How an assignment goes on by a degree.
use Rattle.std.proofs.Common.{◌≡◌, ◌≢◌, ℕ, zero, suc, ◌+◌, ◌-◌, ◌*◌, ◌/◌, ◌<◌, ◌≤◌, List, [], ◌∷◌, ◌++◌, length, get_or, take, refl, sym, ap, ◌∙◌, subst, ⊎_elim, arith}
use Rattle.std.proofs.Math.Nat.{mul-le-mul_right}
use Rattle.std.proofs.Math.Seq.{take-append_seam, take-length}
use Rattle.std.proofs.lemmas.Bool.{cases_lt}
use Rattle.std.proofs.lemmas.List.{append_assoc, length_push, get_or_default, get_or_push, get_or_append_left, take-append-le, take-take}
use Rattle.std.specs.Int.{bit_at}
use Rattle.dd_model.specs.declared.allowed.Allowed.{Allowed}
use Rattle.dd_model.specs.declared.pair.Pair.TheVariants.{Tile, Vertex}
use Rattle.dd_model.specs.Symbol.{Symbol}
use Rattle.dd_model.specs.Code.{code}
use Rattle.dd_model.specs.Wanted.{IsCrystallographic, IsMember}
use Rattle.dd_front_jobs.specs.Under.{Appends, AreUnder, next_number}
use Rattle.dd_branch_tables.proofs.Prefixes.{extended, shortened as prefix_shortened}
use Rattle.dd_cells.proofs.ReciprocalSums.{quotient_is}
use Rattle.dd_branch_degrees.specs.Budget.{no_place, spent, twelfths}
use Rattle.dd_branch_degrees.specs.Choice.{HasBranching, HasShares, IsChoice}
use Rattle.dd_branch_degrees.specs.Assignment.{Assigned, IsAssignment, IsAtRoot, IsMemberUnder, IsTold, degree_at, next_place, prefix_of, shortened, spent_by, told}
use Rattle.dd_branch_degrees.specs.Entered.{HasBudget, HasEntered, HasForced}
use Rattle.dd_branch_degrees.specs.declared.places.DegreeSlot.{DegreeSlot}
use Rattle.dd_branch_degrees.proofs.Assigned.{length-prefix, next_degree, same_of_under, told_degree}
use Rattle.dd_branch_degrees.proofs.Budgets.{AllAreChosen, flat_if_spent, spent_as_told, spent_at_least, spent_at_most, spent_next, spent_same}
use Rattle.dd_branch_degrees.proofs.Chosen.{IsSound, all_bounded, constant_at, sound_places, wanted_chosen}
use Rattle.dd_branch_degrees.proofs.Choices.{IsValue, choice_told, share_told, value_of}

-- the assignment with other degrees
abbrev pub with_list : Assigned → List ℕ → Assigned
with_list a xs = record a { degrees = record { items = xs } }

-- the assignment with one more
abbrev pub with_degree : Assigned → ℕ → Assigned
with_degree a m = with_list a (a.degrees.items ++ m ∷ [])

-- that of some fields, after a degree was put behind theirs
pub pushed : {f a : Assigned} {xs : List ℕ} (m : ℕ) → f ≡ a → xs ≡ f.degrees.items ++ m ∷ [] → with_list f xs ≡ with_degree a m
pushed {f = f} m same more = ap (with_list f) more ∙ ap (λ x. with_degree x m) same

pub sound_next : (a : Assigned) → IsAssignment a → (j : ℕ) (x : DegreeSlot) → j < 2 * a.table.size → IsSound j (get_or a.places.items j x)
sound_next a is = sound_places a.request a.table a.places.items is.table.symbol.table.involutions is.places

below : (k n : ℕ) → k ≤ n → k ≢ n → k < n
below k n low other = ⊎_elim (λ less. less) (λ more. absurd (other (omega (arith, low, more)))) (cases_lt k n)

-- what is left is small
rest_small : (a : Assigned) → IsAssignment a → (d j : ℕ) → j + d ≡ 2 * a.table.size → (get_or a.budgets.most j 0 ≤ d * 24) × (get_or a.budgets.least j 0 ≤ d * 24)
rest_small a is zero j end =
    let count = is.places.count in
    let at : length a.places.items ≡ j = omega (arith, end, count) in
    let most : get_or a.budgets.most j 0 ≡ 0 = ap (λ i. get_or a.budgets.most i 0) (sym at) ∙ is.budgets.no_most in
    let least : get_or a.budgets.least j 0 ≡ 0 = ap (λ i. get_or a.budgets.least i 0) (sym at) ∙ is.budgets.no_least in
    (omega (arith, most), omega (arith, least))
rest_small a is (suc d) j end =
    let count = is.places.count in
    let before = rest_small a is d (j + 1) (omega (arith, end)) in
    let sound = sound_next a is j no_place (omega (arith, end)) in
    let few = sound.sides in
    let up = sound.most in
    let most = is.budgets.each_most j no_place (omega (arith, end, count)) in
    let least = is.budgets.each_least j no_place (omega (arith, end, count)) in
    let b_most = before.0 in
    let b_least = before.1 in
    (omega (arith, most, up, few, b_most), omega (arith, least, few, b_least))

pub budgets_small : (a : Assigned) → IsAssignment a → (j : ℕ) → j ≤ 2 * a.table.size → (get_or a.budgets.most j 0 ≤ 1728) × (get_or a.budgets.least j 0 ≤ 1728)
budgets_small a is j low =
    let small = rest_small a is (2 * a.table.size - j) j (omega (arith, low)) in
    let few = is.table.small in
    let most = small.0 in
    let least = small.1 in
    (omega (arith, most, few, low), omega (arith, least, few, low))

-- what is told stays told
pub more_told : (a : Assigned) (m : ℕ) → IsAssignment a → told a < 2 * a.table.size → ((x : DegreeSlot) → IsTold a.request a.table.size (a.degrees.items ++ m ∷ []) (told a) (get_or a.places.items (told a) x)) → IsAssignment (with_degree a m)
more_told a m is room last =
    let ds = a.degrees.items in
    let long : length (ds ++ m ∷ []) ≡ told a + 1 = length_push ds m in
    record {
      table = is.table;
      limits = is.limits;
      ties = is.ties;
      automorphisms = is.automorphisms;
      places = is.places;
      budgets = is.budgets;
      short = omega (arith, room, long);
      each = λ j x low. ⊎_elim
          (λ early.
          let x' = get_or a.places.items j x in
          let old = is.each j x early in
          let earlier = (sound_next a is j x (omega (arith, early, room))).earlier in
          let here : get_or (ds ++ m ∷ []) j 0 ≡ get_or ds j 0 = get_or_append_left ds (m ∷ []) 0 j early in
          let root : get_or (ds ++ m ∷ []) x'.root 0 ≡ get_or ds x'.root 0 = get_or_append_left ds (m ∷ []) 0 x'.root (omega (arith, earlier, early)) in
          record {
            same = here ∙ old.same ∙ sym root;
            tile = λ own low. subst (IsChoice a.request.faces x'.turns) (sym here) (old.tile own low);
            vertex = λ own high. subst (IsChoice a.request.degrees x'.turns) (sym here) (old.vertex own high);
          })
          (λ late.
          let at : told a ≡ j = omega (arith, late, low, long) in
          subst (λ i. IsTold a.request a.table.size (ds ++ m ∷ []) i (get_or a.places.items i x)) at (last x))
          (cases_lt j (told a));
    }

-- a degree that follows from an earlier one
pub forced_told : (a : Assigned) (m : ℕ) → IsAssignment a → told a < 2 * a.table.size → (next_place a).root ≢ told a → m ≡ get_or a.degrees.items (next_place a).root 0 → IsAssignment (with_degree a m)
forced_told a m is room other copied =
    let ds = a.degrees.items in
    more_told a m is room (λ x.
    let x' = get_or a.places.items (told a) x in
    let count = is.places.count in
    let same : x' ≡ next_place a = get_or_default a.places.items (told a) x no_place (omega (arith, count, room)) in
    let root : x'.root ≡ (next_place a).root = ap (λ (p : DegreeSlot). p.root) same in
    let earlier = (sound_next a is (told a) x room).earlier in
    let strict : x'.root < told a = below x'.root (told a) earlier (λ e. other (sym root ∙ e)) in
    record {
      same = get_or_push ds m 0 (told a) refl ∙ copied ∙ ap (λ j. get_or ds j 0) (sym root) ∙ sym (get_or_append_left ds (m ∷ []) 0 x'.root strict);
      tile = λ own low. absurd (other (sym root ∙ own));
      vertex = λ own high. absurd (other (sym root ∙ own));
    })

-- a choice at the least chamber of a cell
pub chosen_told : (a : Assigned) (m : ℕ) → IsAssignment a → told a < 2 * a.table.size → IsAtRoot a → (told a < a.table.size → IsChoice a.request.faces (next_place a).turns m) → (a.table.size ≤ told a → IsChoice a.request.degrees (next_place a).turns m) → IsAssignment (with_degree a m)
chosen_told a m is room at_root tile vertex =
    let ds = a.degrees.items in
    more_told a m is room (λ x.
    let x' = get_or a.places.items (told a) x in
    let count = is.places.count in
    let same : x' ≡ next_place a = get_or_default a.places.items (told a) x no_place (omega (arith, count, room)) in
    let root : x'.root ≡ told a = ap (λ (p : DegreeSlot). p.root) same ∙ at_root room in
    let turns : (next_place a).turns ≡ x'.turns = ap (λ (p : DegreeSlot). p.turns) (sym same) in
    let here : get_or (ds ++ m ∷ []) (told a) 0 ≡ m = get_or_push ds m 0 (told a) refl in
    record {
      same = ap (λ j. get_or (ds ++ m ∷ []) j 0) (sym root);
      tile = λ own low. subst (IsChoice a.request.faces x'.turns) (sym here) (subst (λ r. IsChoice a.request.faces r m) turns (tile low));
      vertex = λ own high. subst (IsChoice a.request.degrees x'.turns) (sym here) (subst (λ r. IsChoice a.request.degrees r m) turns (vertex high));
    })

-- ## What changes by a degree

pub prefix_more : (a : Assigned) (m : ℕ) → prefix_of (with_degree a m) ≡ prefix_of a ++ m ∷ []
prefix_more a m = sym (append_assoc (take (3 * a.table.size) (code a.table)) a.degrees.items (m ∷ []))

pub spent_more : (a : Assigned) (m : ℕ) → spent_by (with_degree a m) ≡ spent_by a + twelfths (next_place a) m
spent_more a m =
    let ds = a.degrees.items in
    let places = a.places.items in
    let f : ℕ → ℕ = λ j. get_or (ds ++ m ∷ []) j 0 in
    let long : length (ds ++ m ∷ []) ≡ suc (told a) = let e = length_push ds m in omega (arith, e) in
    let whole : spent places f 0 (length (ds ++ m ∷ [])) ≡ spent places f 0 (told a) + twelfths (next_place a) (f (told a)) = ap (spent places f 0) long ∙ spent_next places f (told a) in
    let before : spent places f 0 (told a) ≡ spent_by a = spent_same places f (λ j. get_or ds j 0) (told a) (λ j low. get_or_append_left ds (m ∷ []) 0 j low) in
    let last : twelfths (next_place a) (f (told a)) ≡ twelfths (next_place a) m = ap (twelfths (next_place a)) (get_or_push ds m 0 (told a) refl) in
    omega (arith, whole, before, last)

pub back_again : (a : Assigned) → shortened a (told a) ≡ a
back_again a = ap (with_list a) (take-length a.degrees.items)

pub back_by_one : (a : Assigned) (m : ℕ) → shortened (with_degree a m) (told a) ≡ a
back_by_one a m = ap (with_list a) (take-append_seam a.degrees.items (m ∷ []))

-- ## Degrees that follow

pub forced_none : (a : Assigned) → HasForced a a
forced_none a = record {
  back = back_again a;
  longer = omega arith;
  under = λ s. ((λ u. u), (λ u. u));
  spent = refl;
  most = refl;
  least = refl;
}

-- a place that is no least chamber's adds nothing
adds_nothing : (a : Assigned) (m : ℕ) → IsAssignment a → told a < 2 * a.table.size → (next_place a).root ≢ told a
    → (twelfths (next_place a) m ≡ 0) × ((next_place a).most ≡ 0) × ((next_place a).sides ≡ 0)
adds_nothing a m is room other =
    let sound = sound_next a is (told a) no_place room in
    let none = sound.follows other in
    let most = sound.most in
    (ap (λ n. n * (12 / (m / (next_place a).turns))) none ∙ omega arith, omega (arith, none, most), none)

-- the next degree of each member is that of the least chamber of the cell
forced_number : (a : Assigned) → IsAssignment a → told a < 2 * a.table.size → (next_place a).root ≢ told a → (s : Symbol) → IsMemberUnder a (prefix_of a) s → next_number (prefix_of a) s ≡ get_or a.degrees.items (next_place a).root 0
forced_number a is room other s under =
    let same = same_of_under a is.table.symbol.table s under in
    let wanted = under.wanted.wanted in
    let all = wanted_chosen a.request a.table s a.places.items is.places wanted same in
    let size = under.size in
    let earlier = (sound_next a is (told a) no_place room).earlier in
    let strict : (next_place a).root < told a = below (next_place a).root (told a) earlier other in
    let constant : degree_at s (told a) ≡ degree_at s (next_place a).root =
    ⊎_elim
    (λ early. constant_at a.table s wanted.symbol same Tile a.request.faces 0 a.places.items all.tiles (told a) (told a) (omega arith) early)
    (λ late. constant_at a.table s wanted.symbol same Vertex a.request.degrees s.size a.places.items all.vertices (told a - s.size) (told a) (omega (arith, late)) (omega (arith, late, room, size)))
    (cases_lt (told a) s.size) in
    next_degree a is s under ∙ constant ∙ told_degree a is s under (next_place a).root strict

pub forced_more : (a b : Assigned) (m : ℕ) → IsAssignment b → HasForced a b → told b < 2 * b.table.size → (next_place b).root ≢ told b → m ≡ get_or b.degrees.items (next_place b).root 0 → HasForced a (with_degree b m)
forced_more a b m is old room other copied =
    let none = adds_nothing b m is room other in
    let long : length (b.degrees.items ++ m ∷ []) ≡ told b + 1 = length_push b.degrees.items m in
    let longer = old.longer in
    let count = is.places.count in
    let most = is.budgets.each_most (told b) no_place (omega (arith, count, room)) in
    let least = is.budgets.each_least (told b) no_place (omega (arith, count, room)) in
    let spends = spent_more b m in
    let whole = length-prefix b is in
    let at_most : get_or b.budgets.most (length (b.degrees.items ++ m ∷ [])) 0 ≡ get_or b.budgets.most (told b + 1) 0 = ap (λ j. get_or b.budgets.most j 0) long in
    let at_least : get_or b.budgets.least (length (b.degrees.items ++ m ∷ [])) 0 ≡ get_or b.budgets.least (told b + 1) 0 = ap (λ j. get_or b.budgets.least j 0) long in
    let none_spent = none.0 in
    let none_most = none.1 in
    let none_least = none.2 in
    let old_spent = old.spent in
    let old_most = old.most in
    let old_least = old.least in
    record {
      back = ap (with_list b) (take-append-le (told a) b.degrees.items (m ∷ []) longer) ∙ old.back;
      longer = omega (arith, long, longer);
      under = λ s. (
        (λ u.
            let v = (old.under s).0 u in
            subst (λ xs. IsMemberUnder b xs s) (sym (prefix_more b m))
            (extended (IsMember b.request) b.table.size (prefix_of b) m s (omega (arith, whole, room)) v (forced_number b is room other s v ∙ sym copied))),
        (λ u. (old.under s).1 (prefix_shortened (IsMember b.request) b.table.size (prefix_of b) m s (subst (λ xs. IsMemberUnder b xs s) (prefix_more b m) u)).0),
      );
      spent = omega (arith, spends, none_spent, old_spent);
      most = omega (arith, at_most, most, none_most, old_most);
      least = omega (arith, at_least, least, none_least, old_least);
    }

pub at_root_at_end : (a : Assigned) → 2 * a.table.size ≤ told a → IsAtRoot a
at_root_at_end a end room = absurd (omega (arith, end, room))

-- ## A choice

pub entered : (a b : Assigned) (m : ℕ) → IsAssignment a → told a < 2 * a.table.size → HasForced (with_degree a m) b → HasEntered a m b
entered a b m is room forced =
    let long : length (a.degrees.items ++ m ∷ []) ≡ told a + 1 = length_push a.degrees.items m in
    let longer = forced.longer in
    let spends = spent_more a m in
    let more = forced.spent in
    let most = ap (λ j. get_or a.budgets.most j 0) long in
    let least = ap (λ j. get_or a.budgets.least j 0) long in
    record {
      back =
          let once : take (told a) b.degrees.items ≡ take (told a) (a.degrees.items ++ m ∷ []) =
          sym (take-take (told a) (length (a.degrees.items ++ m ∷ [])) b.degrees.items (omega (arith, long))) ∙ ap (λ (x : Assigned). take (told a) x.degrees.items) forced.back in
          ap (with_list b) once ∙ ap (λ (x : Assigned). with_list x (take (told a) (a.degrees.items ++ m ∷ []))) forced.back ∙ back_by_one a m;
      longer = omega (arith, long, longer);
      under = λ s. (
        (λ u. (forced.under s).0 (subst (λ xs. IsMemberUnder a xs s) (sym (prefix_more a m)) u)),
        (λ u. subst (λ xs. IsMemberUnder a xs s) (prefix_more a m) ((forced.under s).1 u)),
      );
      spent = omega (arith, spends, more);
      most = forced.most ∙ most;
      least = forced.least ∙ least;
    }

-- the part of a branching value
pub part_of_value : (a : Assigned) (v : ℕ) → IsAssignment a → told a < 2 * a.table.size → twelfths (next_place a) (v * (next_place a).turns) ≡ (next_place a).sides * (12 / v)
part_of_value a v is room =
    let some = (sound_next a is (told a) no_place room).some in
    ap (λ w. (next_place a).sides * (12 / w)) (quotient_is v (next_place a).turns (v * (next_place a).turns) some refl)

-- what the later degrees have at least
pub least_after : (a : Assigned) → IsAssignment a → told a < 2 * a.table.size → get_or a.budgets.least (told a) 0 ≡ get_or a.budgets.least (told a + 1) 0 + 2 * (next_place a).sides
least_after a is room = let count = is.places.count in is.budgets.each_least (told a) no_place (omega (arith, room, count))

-- the degree that a place has with a share
abbrev pub IsDegreeWith : DegreeSlot → ℕ → ℕ → Type 0
IsDegreeWith x e m = (v : ℕ) → IsCrystallographic v → e + 2 * x.sides ≡ x.sides * (12 / v) → m ≡ v * x.turns

-- its part is the share, beyond the least
pub part_of_degree : (a : Assigned) (e m : ℕ) → IsAssignment a → told a < 2 * a.table.size → HasBranching (next_place a).sides e → IsDegreeWith (next_place a) e m → twelfths (next_place a) m ≡ e + 2 * (next_place a).sides
part_of_degree a e m is room has with =
    ap (twelfths (next_place a)) (with has.value has.crystallographic has.beyond) ∙ part_of_value a has.value is room ∙ sym has.beyond

-- the budget that is left
pub budget_more : (a b : Assigned) (m left e : ℕ) → IsAssignment a → told a < 2 * a.table.size → HasBudget a left → twelfths (next_place a) m ≡ e + 2 * (next_place a).sides → HasEntered a m b → e ≤ left → HasBudget b (left - e)
budget_more a b m left e is room budget part entered fits =
    let size = ap (λ (x : Assigned). x.table.size) entered.back in
    let spends = entered.spent in
    let least = entered.least in
    let before = least_after a is room in
    omega (arith, part, spends, size, least, before, budget, fits)

-- ## What no member has

-- a member under an assignment spends the budget
pub record Spends (a : Assigned) (s : Symbol) : Type 0 where
  pub chosen : AllAreChosen a.request a.table s a.places.items
  pub upto : spent a.places.items (degree_at s) 0 (told a) ≡ spent_by a
  pub most : (k : ℕ) → k ≤ 2 * a.table.size → 6 * a.table.size ≤ spent a.places.items (degree_at s) 0 k + get_or a.budgets.most k 0
  pub least : (k : ℕ) → k ≤ 2 * a.table.size → spent a.places.items (degree_at s) 0 k + get_or a.budgets.least k 0 ≤ 6 * a.table.size
  pub surplus : (k e p : ℕ) → k ≤ 2 * a.table.size → spent a.places.items (degree_at s) 0 k + get_or a.budgets.least k 0 + e ≡ 6 * a.table.size → p + e ≡ 63 → bit_at (get_or a.budgets.surplus k 0) p ≡ 1

pub spends : (a : Assigned) → IsAssignment a → (s : Symbol) → IsMemberUnder a (prefix_of a) s → Spends a s
spends a is s under =
    let places = a.places.items in
    let same = same_of_under a is.table.symbol.table s under in
    let wanted = under.wanted.wanted in
    let all = wanted_chosen a.request a.table s places is.places wanted same in
    let bounded = all_bounded a.request a.table s places is.places same all in
    let flat = (flat_if_spent a.request a.table s places wanted.symbol same all).1 wanted.flat in
    let count = is.places.count in
    let whole : spent places (degree_at s) 0 (length places) ≡ 6 * a.table.size = ap (spent places (degree_at s) 0) count ∙ flat in
    record {
      chosen = all;
      upto = spent_same places (degree_at s) (λ j. get_or a.degrees.items j 0) (told a) (λ j low. told_degree a is s under j low);
      most = λ k low. let up = spent_at_most places a.budgets (degree_at s) is.budgets bounded (length places - k) k (omega (arith, low, count)) in omega (arith, up, whole);
      least = λ k low. let down = spent_at_least places a.budgets (degree_at s) is.budgets bounded (length places - k) k (omega (arith, low, count)) in omega (arith, down, whole);
      surplus = λ k e p low all. spent_as_told places a.budgets (degree_at s) is.budgets bounded (length places - k) k e p (omega (arith, low, count)) (all ∙ sym whole);
    }

-- the next degree of a member is a choice
pub next_choice : (a : Assigned) → IsAssignment a → told a < 2 * a.table.size → (s : Symbol) → IsMemberUnder a (prefix_of a) s → (P : Type 0)
    → (told a < a.table.size → IsChoice a.request.faces (next_place a).turns (next_number (prefix_of a) s) → P)
    → (a.table.size ≤ told a → IsChoice a.request.degrees (next_place a).turns (next_number (prefix_of a) s) → P) → P
next_choice a is room s under P tile vertex =
    let all = (spends a is s under).chosen in
    let size = under.size in
    let next = sym (next_degree a is s under) in
    ⊎_elim
    (λ early. tile early (subst (IsChoice a.request.faces (next_place a).turns) next (all.tiles.choice (told a) (told a) (omega arith) (omega (arith, early, size)))))
    (λ late. vertex late (subst (IsChoice a.request.degrees (next_place a).turns) next (all.vertices.choice (told a - s.size) (told a) (omega (arith, late, size)) (omega (arith, late, room, size)))))
    (cases_lt (told a) a.table.size)

-- the later degrees may have what is left of the budget
pub record MeetsBudget (a : Assigned) (n : ℕ) : Type 0 where
  pub enough : 6 * a.table.size ≤ n + get_or a.budgets.most (told a + 1) 0
  pub room : n + get_or a.budgets.least (told a + 1) 0 ≤ 6 * a.table.size
  pub surplus : (e p : ℕ) → n + get_or a.budgets.least (told a + 1) 0 + e ≡ 6 * a.table.size → p + e ≡ 63 → bit_at (get_or a.budgets.surplus (told a + 1) 0) p ≡ 1

-- with the branching value of a member it is so
pub budget_of_member : (a : Assigned) (v n : ℕ) → IsAssignment a → told a < 2 * a.table.size → n ≡ spent_by a + (next_place a).sides * (12 / v) → (s : Symbol) → IsMemberUnder a (prefix_of a) s → next_number (prefix_of a) s ≡ v * (next_place a).turns
    → MeetsBudget a n
budget_of_member a v n is room so_far s under next =
    let has = spends a is s under in
    let part = part_of_value a v is room in
    let degree : degree_at s (told a) ≡ v * (next_place a).turns = sym (next_degree a is s under) ∙ next in
    let here = ap (twelfths (next_place a)) degree in
    let upto = has.upto in
    let e : suc (told a) ≡ told a + 1 = omega arith in
    let most = has.most (suc (told a)) (omega (arith, room)) in
    let least = has.least (suc (told a)) (omega (arith, room)) in
    let step = spent_next a.places.items (degree_at s) (told a) in
    let at_most = ap (λ j. get_or a.budgets.most j 0) e in
    let at_least = ap (λ j. get_or a.budgets.least j 0) e in
    record {
      enough = omega (arith, part, here, upto, so_far, step, most, at_most);
      room = omega (arith, part, here, upto, so_far, step, least, at_least);
      surplus = λ rest p all mirror. ap (λ j. bit_at (get_or a.budgets.surplus j 0) p) (sym e)
          ∙ has.surplus (suc (told a)) rest p (omega (arith, room)) (omega (arith, part, here, upto, so_far, step, at_least, all)) mirror;
    }

-- two branching values of one degree
pub same_value : (set : Allowed) (r v m : ℕ) → 1 ≤ r → (c : IsChoice set r m) → m ≡ v * r → c.value ≡ v
same_value set r v m some c is = cancel c.value v r some (sym c.product ∙ is)
  where
    cancel : (a b k : ℕ) → 1 ≤ k → a * k ≡ b * k → a ≡ b
    cancel a b k pos e = grind arith

-- ## Shares

pub degree_small : (a : Assigned) (v : ℕ) → IsAssignment a → told a < 2 * a.table.size → v ≤ 6 → v * (next_place a).turns ≤ 216
degree_small a v is room high =
    let few = (sound_next a is (told a) no_place room).few in
    let up : v * (next_place a).turns ≤ 6 * (next_place a).turns = mul-le-mul_right (next_place a).turns high in
    omega (arith, up, few)

-- the shares of the next place
pub some_sides : (a : Assigned) → IsAssignment a → told a < 2 * a.table.size → IsAtRoot a → 1 ≤ (next_place a).sides
some_sides a is room root = (sound_next a is (told a) no_place room).leads (root room)

pub tile_shares : (a : Assigned) → IsAssignment a → told a < a.table.size → 1 ≤ (next_place a).sides → HasShares a.request.faces (next_place a).turns (next_place a).sides (next_place a).shares
tile_shares a is low = (is.places.tiles (told a) no_place low).shares

pub vertex_shares : (a : Assigned) → IsAssignment a → told a < 2 * a.table.size → a.table.size ≤ told a → 1 ≤ (next_place a).sides → HasShares a.request.degrees (next_place a).turns (next_place a).sides (next_place a).shares
vertex_shares a is room high =
    let at : a.table.size + (told a - a.table.size) ≡ told a = omega (arith, high) in
    subst (λ j. let x = get_or a.places.items j no_place in 1 ≤ x.sides → HasShares a.request.degrees x.turns x.sides x.shares) at
    (is.places.vertices (told a - a.table.size) no_place (omega (arith, high, room))).shares

-- the share of a member is one of them
pub share_allowed : (a : Assigned) (v e : ℕ) → IsAssignment a → told a < 2 * a.table.size → IsAtRoot a → (s : Symbol) → IsMemberUnder a (prefix_of a) s → next_number (prefix_of a) s ≡ v * (next_place a).turns
    → e + 2 * (next_place a).sides ≡ (next_place a).sides * (12 / v) → bit_at (next_place a).shares e ≡ 1
share_allowed a v e is room root s under next beyond =
    let x = next_place a in
    let some = (sound_next a is (told a) no_place room).some in
    let m = next_number (prefix_of a) s in
    let sides = some_sides a is room root in
    next_choice a is room s under (bit_at x.shares e ≡ 1)
    (λ low c. share_told a.request.faces x.turns x.sides x.shares m e (tile_shares a is low sides) c (beyond ∙ ap (λ w. x.sides * (12 / w)) (sym (same_value a.request.faces x.turns v m some c next))))
    (λ high c. share_told a.request.degrees x.turns x.sides x.shares m e (vertex_shares a is room high sides) c (beyond ∙ ap (λ w. x.sides * (12 / w)) (sym (same_value a.request.degrees x.turns v m some c next))))

-- each of them has a branching value
pub branching_of : (a : Assigned) (e : ℕ) → IsAssignment a → told a < 2 * a.table.size → IsAtRoot a → bit_at (next_place a).shares e ≡ 1 → HasBranching (next_place a).sides e
branching_of a e is room root told_ =
    let sides = some_sides a is room root in
    ⊎_elim (λ low. ((tile_shares a is low sides).told e told_).branching) (λ high. ((vertex_shares a is room high sides).told e told_).branching) (cases_lt (told a) a.table.size)

-- and its degree is a choice
pub tile_choice : (a : Assigned) (e m : ℕ) → IsAssignment a → told a < 2 * a.table.size → IsAtRoot a → bit_at (next_place a).shares e ≡ 1 → IsDegreeWith (next_place a) e m → told a < a.table.size → IsChoice a.request.faces (next_place a).turns m
tile_choice a e m is room root told_ with low =
    let share = (tile_shares a is low (some_sides a is room root)).told e told_ in
    let has = share.branching in
    subst (IsChoice a.request.faces (next_place a).turns) (sym (with has.value has.crystallographic has.beyond)) (choice_told a.request.faces (next_place a).turns (next_place a).sides e share)

pub vertex_choice : (a : Assigned) (e m : ℕ) → IsAssignment a → told a < 2 * a.table.size → IsAtRoot a → bit_at (next_place a).shares e ≡ 1 → IsDegreeWith (next_place a) e m → a.table.size ≤ told a → IsChoice a.request.degrees (next_place a).turns m
vertex_choice a e m is room root told_ with high =
    let share = (vertex_shares a is room high (some_sides a is room root)).told e told_ in
    let has = share.branching in
    subst (IsChoice a.request.degrees (next_place a).turns) (sym (with has.value has.crystallographic has.beyond)) (choice_told a.request.degrees (next_place a).turns (next_place a).sides e share)

-- ## The next degree of a member

-- what the next degree of a member is
pub record IsNext (a : Assigned) (m : ℕ) : Type 0 where
  pub value : ℕ
  pub is_value : IsValue value
  pub product : m ≡ value * (next_place a).turns

pub next_value : (a : Assigned) → IsAssignment a → told a < 2 * a.table.size → (s : Symbol) → IsMemberUnder a (prefix_of a) s → IsNext a (next_number (prefix_of a) s)
next_value a is room s under =
    next_choice a is room s under (IsNext a (next_number (prefix_of a) s))
    (λ low c. record { value = c.value; is_value = value_of c.value c.crystallographic; product = c.product })
    (λ high c. record { value = c.value; is_value = value_of c.value c.crystallographic; product = c.product })

-- what was found after a degree was told
pub found_entered : (a b : Assigned) (m : ℕ) → HasEntered a m b → (old new : List Symbol) → Appends (AreUnder (IsMember b.request) b.table.size (prefix_of b)) old new → Appends (AreUnder (IsMember a.request) a.table.size (prefix_of a ++ m ∷ [])) old new
found_entered a b m entered old new more = record {
  list = more.list;
  grown = more.grown;
  holds = record {
    ascending = more.holds.ascending;
    members = λ s. (
      (λ there. (entered.under s).1 ((more.holds.members s).0 there)),
      (λ u. (more.holds.members s).1 ((entered.under s).0 u)),
    );
  };
}
