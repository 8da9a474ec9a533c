-- The cells of a pair where a request sets a limit to them.
use Rattle.std.proofs.Common.{◌≡◌, ℕ, zero, suc, ◌+◌, ◌-◌, ◌*◌, ◌/◌, ◌≤◌, ◌⊎◌, List, [], ◌∷◌, length, map, refl, sym, ap, ◌∙◌, subst, ⊎_elim, arith}
use Rattle.std.proofs.lemmas.Bool.{eq-eqb}
use Rattle.std.proofs.lemmas.List.{length-map}
use Rattle.std.proofs.lemmas.List.Sums.{sum_by-cons}
use Rattle.std.proofs.Math.Nat.{mul-le-mul_left, mul-le-mul_right}
use Rattle.std.specs.Prelude.{cond, nat_eq}
use Rattle.std.specs.List.{AllByRecursion, Contains, sum_by}
use Rattle.dd_model.specs.declared.pair.Pair.{Pair}
use Rattle.dd_model.specs.declared.pair.Pair.TheVariants.{Tile, Vertex}
use Rattle.dd_model.specs.declared.requests.Request.{Request}
use Rattle.dd_model.specs.Symbol.{Symbol, AreInvolutions, IsSymbol, IsChamber, first, second, op, degree}
use Rattle.dd_model.specs.Cell.{InCell, IsLeastOfCell}
use Rattle.dd_model.specs.Code.{chambers, count_from}
use Rattle.dd_model.specs.Flat.{all_degrees}
use Rattle.dd_model.specs.Wanted.{AtMost, Wanted}
use Rattle.dd_model.proofs.CellWalks.{in_cell-sym, in_cell-trans}
use Rattle.dd_model.proofs.CountFrom.{count_contains, length-count_from}
use Rattle.dd_model.proofs.Counts.{length-le_from_partners}
use Rattle.dd_model.proofs.Transport.{in_cell_within}
use Rattle.dd_cells.specs.Cells.{AreMembers}
use Rattle.dd_cells.proofs.CellSums.{AreRoots, has_roots, members_at, members_at_are, sum_by-map, sum_by_both, sum_by_equal, sum_by_same, chamber_listed}
use Rattle.dd_branch_tables.specs.Distinct.{AreDistinct}
use Rattle.dd_branch_bounds.specs.Census.{HasRoom}
use Rattle.dd_branch_bounds.specs.Closed.{fixed_flags}
use Rattle.dd_branch_bounds.specs.Counted.{AreAllMembers, AreOfOtherCells, HasCounted, IsFixedFlag}
use Rattle.dd_branch_bounds.specs.Ends.{led}
use Rattle.dd_branch_bounds.specs.Units.{share_unit}
use Rattle.dd_branch_bounds.specs.declared.census.Census.{Census}
use Rattle.dd_branch_bounds.proofs.Bounds.{sum_over_degrees}
use Rattle.dd_branch_bounds.proofs.CountBound.{flags_at_most, flagged_weight, sum_beyond_cells, even_flags, part_of_distinct, all_listed}
use Rattle.dd_branch_bounds.proofs.WithinLemmas.{led_even, led_odd}

-- ## All cells

sum_by_times : (c : ℕ) (f : ℕ → ℕ) (xs : List ℕ) → sum_by (λ x. c * f x) xs ≡ c * sum_by f xs
sum_by_times c f [] = omega arith
sum_by_times c f (x ∷ xs) =
    let a = sum_by-cons (λ y. c * f y) x xs in
    let b = ap (λ n. c * n) (sum_by-cons f x xs) in
    let rest = sum_by_times c f xs in
    omega arith

-- twice one sum and D times another
sum_by_mixed : (D : ℕ) (f g : ℕ → ℕ) (xs : List ℕ) → sum_by (λ x. 2 * f x + D * g x) xs ≡ 2 * sum_by f xs + D * sum_by g xs
sum_by_mixed D f g xs =
    let a = sum_by_both (λ x. 2 * f x) (λ x. D * g x) xs in
    let b = sum_by_times 2 f xs in
    let e = sum_by_times D g xs in
    omega arith

cell_size_at_most : (s : Symbol) → IsSymbol s → (p : Pair) (d : ℕ) (members : List ℕ) → IsChamber s d → AreMembers s p d members → sum_by (λ x. 1) members ≤ s.size
cell_size_at_most s is p d members h are =
    let few : length members ≤ length (chambers s) =
    length-le_from_partners (λ x y. x ≡ y) members (chambers s) are.ascending
    (λ x listed. (x, chamber_listed s x (in_cell_within s is.table.involutions p d x h ((are.each x).0 listed)), refl))
    (λ x x' y lx lx' e e'. e ∙ sym e') in
    let all = length-count_from 1 s.size in
    let ones = sum_by_same (λ x. 1) 1 members (λ x listed. refl) in
    omega (arith, few, all, ones)

-- the weights of all cells, from those of the whole ones
weights : (D L W flags own_weight own_flags most chains left h : ℕ) → 2 * W + D * flags ≤ 2 * own_weight + D * own_flags + left * (4 * D) → own_weight * L ≤ D * most → own_flags ≤ 2 * chains
    → 2 * h ≤ flags → h ≤ chains + left → W * L ≤ D * (most + (chains + 2 * left - h) * L)
weights D L W flags own_weight own_flags most chains left h all own few known fits =
    let rest = chains + 2 * left - h in
    let sum : rest + h ≡ chains + 2 * left = omega (arith, fits) in
    let a : D * own_flags ≤ D * (2 * chains) = mul-le-mul_left D few in
    let b : D * (2 * h) ≤ D * flags = mul-le-mul_left D known in
    let bound : 2 * W + D * (2 * h) ≤ 2 * own_weight + D * (2 * chains) + left * (4 * D) = omega (arith, all, a, b) in
    let shape : D * (2 * chains) + left * (4 * D) ≡ 2 * (D * (chains + 2 * left)) = grind arith in
    let whole : D * (chains + 2 * left) ≡ D * rest + D * h = ap (λ n. D * n) (sym sum) ∙ grind arith in
    let twice : D * (2 * h) ≡ 2 * (D * h) = grind arith in
    let less : W ≤ own_weight + D * rest = omega (arith, bound, shape, whole, twice) in
    let times : W * L ≤ (own_weight + D * rest) * L = mul-le-mul_right L less in
    let split : (own_weight + D * rest) * L ≡ own_weight * L + D * (rest * L) = grind arith in
    let join : D * (most + rest * L) ≡ D * most + D * (rest * L) = grind arith in
    omega (arith, times, split, join, own)

-- ## Fixed flags that are counted

-- 1 for a flag that is fixed
flag_one : Symbol → Pair → ℕ → ℕ
flag_one s p z = cond (nat_eq (led s p z) (z / 2)) 1 0

-- a sum over flags is one over chambers
by_chambers : (f : ℕ → ℕ) (k n : ℕ) → sum_by f (count_from (2 * k) (2 * n)) ≡ sum_by (λ d. f (2 * d) + f (2 * d + 1)) (count_from k n)
by_chambers f k zero = refl
by_chambers f k (suc n) =
    let e : 2 * suc n ≡ suc (suc (2 * n)) = omega arith in
    let split : count_from (2 * k) (2 * suc n) ≡ (2 * k) ∷ (2 * k + 1) ∷ count_from (2 * k + 1 + 1) (2 * n) = ap (count_from (2 * k)) e in
    let next : 2 * k + 1 + 1 ≡ 2 * (k + 1) = omega arith in
    let rest : sum_by f (count_from (2 * k + 1 + 1) (2 * n)) ≡ sum_by (λ d. f (2 * d) + f (2 * d + 1)) (count_from (k + 1) n) =
    ap (λ m. sum_by f (count_from m (2 * n))) next ∙ by_chambers f (k + 1) n in
    let one = sum_by-cons f (2 * k) ((2 * k + 1) ∷ count_from (2 * k + 1 + 1) (2 * n)) in
    let two = sum_by-cons f (2 * k + 1) (count_from (2 * k + 1 + 1) (2 * n)) in
    let cons = sum_by-cons (λ d. f (2 * d) + f (2 * d + 1)) k (count_from (k + 1) n) in
    let all = ap (sum_by f) split in
    omega (arith, rest, one, two, cons, all)

flags_of_chamber : (s : Symbol) (p : Pair) (d : ℕ) → flag_one s p (2 * d) + flag_one s p (2 * d + 1) ≡ fixed_flags s p d
unfolding flag_one
flags_of_chamber s p d =
    let even : 2 * d / 2 ≡ d = omega arith in
    let odd : (2 * d + 1) / 2 ≡ d = omega arith in
    let a : cond (nat_eq (led s p (2 * d)) (2 * d / 2)) (suc zero) zero ≡ cond (nat_eq (op s (first p) d) d) (suc zero) zero =
    ap (λ n. cond (nat_eq n (2 * d / 2)) (suc zero) zero) (led_even s p d) ∙ ap (λ n. cond (nat_eq (op s (first p) d) n) (suc zero) zero) even in
    let b : cond (nat_eq (led s p (2 * d + 1)) ((2 * d + 1) / 2)) (suc zero) zero ≡ cond (nat_eq (op s (second p) d) d) (suc zero) zero =
    ap (λ n. cond (nat_eq n ((2 * d + 1) / 2)) (suc zero) zero) (led_odd s p d) ∙ ap (λ n. cond (nat_eq (op s (second p) d) n) (suc zero) zero) odd in
    omega (arith, a, b)

-- different fixed flags are no more than those of all chambers
flags_within : (s : Symbol) (p : Pair) (zs : List ℕ) → AreDistinct zs → AllByRecursion (IsFixedFlag s p) zs → length zs ≤ sum_by (fixed_flags s p) (chambers s)
unfolding flag_one
flags_within s p zs distinct each =
    let ones = sum_by_same (flag_one s p) 1 zs (λ z listed. one z (all_listed (IsFixedFlag s p) zs z each listed)) in
    let part = part_of_distinct (flag_one s p) (count_from (2 * 1) (2 * s.size)) zs distinct (λ z listed. there z (all_listed (IsFixedFlag s p) zs z each listed)) in
    let pairs = by_chambers (flag_one s p) 1 s.size in
    let same = sum_by_equal (λ d. flag_one s p (2 * d) + flag_one s p (2 * d + 1)) (fixed_flags s p) (flags_of_chamber s p) (chambers s) in
    omega (arith, ones, part, pairs, same)
  where
    one : (z : ℕ) → IsFixedFlag s p z → flag_one s p z ≡ 1
    one z is = ap (λ t. cond t (suc zero) zero) (eq-eqb (led s p z) (z / 2) is.fixed)

    there : (z : ℕ) → IsFixedFlag s p z → Contains (count_from (2 * 1) (2 * s.size)) z
    there z is = let low = is.chamber.0 in let high = is.chamber.1 in count_contains (2 * 1) (2 * s.size) z (omega (arith, low)) (omega (arith, high))

-- ## Cells that are counted, by their least chambers

module _ (s : Symbol) (inv : AreInvolutions s) (p : Pair) (root : ℕ → ℕ) (roots : AreRoots s p root) where
  -- a chamber of another cell has another least one
  other_roots : (d : ℕ) → IsChamber s d → (ds : List ℕ) → AllByRecursion (IsChamber s) ds → AllByRecursion (λ e. InCell s p e d → ⊥) ds → AllByRecursion (λ y. root d ≡ y → ⊥) (map root ds)
  other_roots d h [] inside apart = tt
  other_roots d h (e ∷ es) inside apart = (
    λ same. apart.0 (in_cell-trans s p e (root e) d (roots.in_cell e inside.0) (subst (λ r. InCell s p r d) same (in_cell-sym s inv p d (root d) h (roots.in_cell d h)))),
    other_roots d h es inside.1 apart.1,
  )

  distinct_roots : (ds : List ℕ) → AllByRecursion (IsChamber s) ds → AreOfOtherCells s p ds → AreDistinct (map root ds)
  distinct_roots [] inside apart = tt
  distinct_roots (d ∷ ds) inside apart = (other_roots d inside.0 ds inside.1 apart.0, distinct_roots ds inside.1 apart.1)

  least_roots : (ds : List ℕ) → AllByRecursion (IsChamber s) ds → AllByRecursion (IsLeastOfCell s p) (map root ds)
  least_roots [] inside = tt
  least_roots (d ∷ ds) inside = (roots.least d inside.0, least_roots ds inside.1)

  -- the members at its least chamber are those of the cell of each chamber
  members_of_all : AreAllMembers s p (λ d. members_at s root (root d))
  members_of_all d h =
      let are = members_at_are s inv p root roots (root d) (roots.least d h) in
      let up = roots.in_cell d h in
      let down = in_cell-sym s inv p d (root d) h up in
      record {
        ascending = are.ascending;
        each = λ e. (
          λ listed. in_cell-trans s p d (root d) e up ((are.each e).0 listed),
          λ there. (are.each e).1 (in_cell-trans s p (root d) d e down there),
        );
      }

-- What was counted holds of each wanted symbol.
pub has_room : (q : Request) (p : Pair) (c : Census) (limit : ℕ) → (p ≡ Tile) ⊎ (p ≡ Vertex) → ((s : Symbol) → Wanted q s → AtMost s p limit) → 1 ≤ limit
    → (s : Symbol) → Wanted q s → HasCounted s p c → HasRoom s p c limit
has_room q p c limit which few some s wanted told =
    let is = wanted.symbol in
    let D = all_degrees s in
    let inv = is.table.involutions in
    let roots = has_roots s inv p in
    let root = roots.root in
    let members = members_at s root in
    let own_members : ℕ → List ℕ = λ d. members (root d) in
    let all_members = members_of_all s inv p root roots.are in
    let cells = told.cells in
    let least : List ℕ = map root cells in
    ⊎_elim
    (λ none. absurd (omega (arith, none, some)))
    (λ listed.
    let ds = listed.0 in
    let fits = listed.2 in
    let beyond = sum_beyond_cells s is p root roots.are ds least listed.1 (distinct_roots s inv p root roots.are cells told.inside told.apart)
    (λ g here. all_listed (IsLeastOfCell s p) least g (least_roots s inv p root roots.are cells told.inside) here) in
    let counted : length least ≡ c.cells = length-map cells root ∙ told.count in
    let left = length ds - length least in
    let part : ℕ → ℕ = λ x. D / degree s p x in
    let flags = sum_by (fixed_flags s p) (chambers s) in
    let weigh = beyond (λ x. 2 * part x + D * fixed_flags s p x) (4 * D)
    (λ j ms h am. let e = sum_by_mixed D part (fixed_flags s p) ms in let b = flagged_weight s is p D j ms h am in omega (arith, e, b)) in
    let enough = weigh.0 in
    let even = even_flags s is p root roots.are ds listed.1 in
    let within = flags_within s p told.flags told.distinct told.each in
    let numbered = told.fixed in
    let known : c.fixed ≤ flags = omega (arith, within, numbered) in
    let own_flags = sum_by (λ g. sum_by (fixed_flags s p) (members g)) least in
    let moved_flags = sum_by-map (λ g. sum_by (fixed_flags s p) (members g)) root cells in
    let told_flags = told.chains own_members all_members in
    let own : own_flags ≤ 2 * c.chains = omega (arith, moved_flags, told_flags) in
    let rest : flags ≤ own_flags + left * 2 = (beyond (fixed_flags s p) 2 (flags_at_most s is p)).1 in
    let fewer : left ≤ limit - c.cells = omega (arith, fits, counted, enough) in
    record {
      cells = omega (arith, fits, counted, enough);
      chambers = λ all.
          let size = (beyond (λ x. 1) s.size (cell_size_at_most s is p)).1 in
          let none : left ≡ 0 = omega (arith, fewer, all) in
          let zero_ : left * s.size ≡ 0 = ap (λ n. n * s.size) none ∙ omega arith in
          let ones = sum_by_same (λ x. 1) 1 (chambers s) (λ x listed. refl) in
          let count = length-count_from 1 s.size in
          let moved = sum_by-map (λ g. sum_by (λ x. 1) (members g)) root cells in
          let sizes : sum_by (λ d. sum_by (λ x. 1) (members (root d))) cells ≡ sum_by (λ d. length (members (root d))) cells =
          ap (λ (f : ℕ → ℕ). sum_by f cells) (λ i d. ones_of (members (root d)) i) in
          let have = told.size own_members all_members in
          omega (arith, size, zero_, ones, count, moved, sizes, have);
      chains = omega (arith, rest, own, known, even, fewer);
      total =
          let all = weigh.1 in
          let mixed = sum_by_mixed D part (fixed_flags s p) (chambers s) in
          let inner : sum_by (λ g. sum_by (λ x. 2 * part x + D * fixed_flags s p x) (members g)) least ≡ sum_by (λ g. 2 * sum_by part (members g) + D * sum_by (fixed_flags s p) (members g)) least =
          ap (λ (f : ℕ → ℕ). sum_by f least) (λ i g. sum_by_mixed D part (fixed_flags s p) (members g) i) in
          let outer = sum_by_mixed D (λ g. sum_by part (members g)) (λ g. sum_by (fixed_flags s p) (members g)) least in
          let more : left * (4 * D) ≤ (limit - c.cells) * (4 * D) = mul-le-mul_right (4 * D) fewer in
          let moved = sum_by-map (λ g. sum_by part (members g)) root cells in
          let weight : sum_by (λ g. sum_by part (members g)) least * share_unit ≤ D * c.most = subst (λ n. n * share_unit ≤ D * c.most) (sym moved) (told.total own_members all_members) in
          let bound = weights D share_unit (sum_by part (chambers s)) flags (sum_by (λ g. sum_by part (members g)) least) own_flags c.most c.chains (limit - c.cells) ((c.fixed + 1) / 2)
          (omega (arith, all, mixed, inner, outer, more)) weight own (omega (arith, known, even)) (omega (arith, rest, own, known, even, fewer)) in
          subst (λ x. x * share_unit ≤ D * (c.most + (c.chains + 2 * (limit - c.cells) - (c.fixed + 1) / 2) * share_unit)) (sum_over_degrees s is p (λ m. D / m) which) bound;
    })
    (few s wanted)
  where
    ones_of : (xs : List ℕ) → sum_by (λ x. 1) xs ≡ length xs
    ones_of xs = let e = sum_by_same (λ x. 1) 1 xs (λ x listed. refl) in omega (arith, e)
