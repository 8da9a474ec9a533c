-- Cells are settled one after the other, from the last one that was joined.
use Rattle.std.proofs.Common.{◌≡◌, ℕ, ◌+◌, ◌-◌, ◌*◌, ◌/◌, ◌%◌, ◌<◌, ◌≤◌, ◌⊎◌, Bool, true, false, not, cond, ◌&&◌, eqb, List, [], ◌∷◌, ◌++◌, length, set, slice_index, refl, sym, ap, ◌∙◌, subst, inl, inr, ⊎_elim, arith}
use Rattle.std.proofs.lemmas.Bool.{cases_lt, cases_eq, cases_Bool, eq-eqb, ne_eqb, le-leb, lt-leb}
use Rattle.std.proofs.lemmas.List.{append_assoc, append-nil, get_or-set_same, get_or-set_other, length-set}
use Rattle.std.proofs.lemmas.List.Elements.{Contains-push, Contains-append_left}
use Rattle.std.proofs.lemmas.Nat.{mod_below}
use Rattle.std.specs.List.{Contains, sum_by}
use Rattle.dd_model.specs.declared.index.Index.{Index}
use Rattle.dd_model.specs.declared.pair.Pair.{Pair}
use Rattle.dd_model.specs.Symbol.{Symbol, AreInvolutions, IsChamber, op, power}
use Rattle.dd_model.specs.Cell.{IsLeastTurns, IsBranching, IsLeastOfCell, AreCells}
use Rattle.dd_model.specs.Small.{IsSmallSymbol}
use Rattle.dd_model.proofs.Branching.{branching_same}
use Rattle.dd_model.proofs.CellWalks.{in_cell-sym}
use Rattle.dd_model.proofs.Lists.{Contains-none, Contains-cases}
use Rattle.dd_model.proofs.Transport.{in_cell_within}
use Rattle.dd_cells.specs.Orientation.{color}
use Rattle.dd_cells.proofs.CellSums.{AreRoots, has_roots, members_at, members_at_are, sum_by_listed, sum_by_both, Contains-from_filter}
use Rattle.dd_covers.specs.CellNumbers.{numbered}
use Rattle.dd_covers.specs.Ends.{Holds, one_end, other_end}
use Rattle.dd_covers.specs.Joins.{either, new_end, old_end, IsJoinedBy, IsJoin, AreJoins}
use Rattle.dd_covers.specs.Settling.{IsThisSide, IsPut, shift_of, AreReady, IsSettled}
use Rattle.dd_covers.specs.Shifts.{shift, HaveSize}
use Rattle.dd_covers.specs.TorusCover.{sum_along, round, AreColors, AreTorusShifts}
use Rattle.dd_covers.specs.Visits.{IsVisitOrder, IsFirstStep, IsFree, AreEndsJoined}
use Rattle.dd_covers.specs.declared.join.Join.{Join}
use Rattle.dd_covers.specs.declared.shifts.Shifts.{Shifts}
use Rattle.dd_covers.proofs.Assembled.{one_outward, other_inward, outward_one, inward_other, number_listed, number_of, least_side_turned}
use Rattle.dd_covers.proofs.CellEquations.{outward, inward, rule_from_equation}
use Rattle.dd_covers.proofs.CellFlows.{least_side, one_value}
use Rattle.dd_covers.proofs.Congruences.{AreCongruent, both_ways, congruent_same, remainders, remainder_none, mod_congruent}
use Rattle.dd_covers.proofs.EulerLemmas.{all_cells, all_ascending}
use Rattle.dd_covers.proofs.JoinLemmas.{number_is, number_low, joined_later, joined_last, joined_cases}
use Rattle.dd_covers.proofs.Levels.{one_holds, other_holds}
use Rattle.dd_covers.proofs.OrderedSides.{is_step}
use Rattle.dd_covers.proofs.SheetLemmas.{mod_same}
use Rattle.dd_covers.proofs.Sides.{same_index, index_same, same_index-refl}
use Rattle.dd_covers.proofs.Solving.{one_hit}
use Rattle.dd_covers.proofs.Trees.{Step}
use Rattle.dd_covers.proofs.Uniqueness.{sums_congruent}
use Rattle.dd_covers.proofs.WhiteSums.{whites}

-- ## Lists of joins

pub pop_join : (s : Symbol) (f : List ℕ) (before js : List Join) (j : Join) → AreJoins s f before (js ++ j ∷ []) → AreJoins s f before js × IsJoin s f (before ++ js) j
pop_join s f before [] j are = (tt, subst (λ xs. IsJoin s f xs j) (sym (append-nil before)) are.0)
pop_join s f before (k ∷ js) j are =
    let rest = pop_join s f (before ++ k ∷ []) js j are.1 in
    ((are.0, rest.0), subst (λ xs. IsJoin s f xs j) (append_assoc before (k ∷ []) js) rest.1)

-- both ends of a side are joined
record AreBothJoined (s : Symbol) (f : List ℕ) (js : List Join) (j : Join) : Type 0 where
  pub is : (before : List Join) × IsJoin s f before j
  pub new : IsJoinedBy js (new_end j)
  pub old : IsJoinedBy js (old_end j)

both_joined : (s : Symbol) (f : List ℕ) (before js : List Join) (j : Join) → AreJoins s f before js → Contains js j → AreBothJoined s f (before ++ js) j
both_joined s f before [] j are here = absurd (Contains-none j here)
both_joined s f before (k ∷ js) j are here =
    ⊎_elim
    (λ at. subst (AreBothJoined s f (before ++ k ∷ js)) at (record {
      is = (before, are.0);
      new = subst (λ xs. IsJoinedBy xs (new_end k)) (append_assoc before (k ∷ []) js) (joined_later (before ++ k ∷ []) js (new_end k) (joined_last before k (new_end k) refl));
      old = joined_later before (k ∷ js) (old_end k) are.0.old;
    }))
    (λ later. subst (λ xs. AreBothJoined s f xs j) (append_assoc before (k ∷ []) js) (both_joined s f (before ++ k ∷ []) js j are.1 later))
    (Contains-cases k j js here)

-- ## Numbers

either_ways : (t : Bool) (k z : ℕ) → z < k → (either t z ((k - z) % k) + either t ((k - z) % k) z) % k ≡ 0
either_ways true k z low = both_ways k z low
either_ways false k z low = let e : (k - z) % k + z ≡ z + (k - z) % k = omega arith in ap (λ n. n % k) e ∙ both_ways k z low

either_below : (t : Bool) (k z : ℕ) → 1 ≤ k → z < k → (either t z ((k - z) % k) < k) × (either t ((k - z) % k) z < k)
either_below true k z some low = (low, mod_below (k - z) k some)
either_below false k z some low = (mod_below (k - z) k some, low)

opposite_none : (k y : ℕ) → y < k → (0 + y) % k ≡ 0 → y ≡ 0
opposite_none k y low e = sym (mod_same y k low) ∙ (let z : y ≡ 0 + y = omega arith in ap (λ n. n % k) z) ∙ e

shift_low : (out : Bool) (k a b : ℕ) → 1 ≤ k → a < k → either out a ((k - b) % k) < k
shift_low true k a b some low = low
shift_low false k a b some low = mod_below (k - b) k some

ends_apart : (P : ℕ → Type 0) (out : Bool) (a b : ℕ) → P (either out b a) → ¬ (P (either out a b)) → a ≡ b → ⊥
ends_apart P true a b old new same = new (subst P (sym same) old)
ends_apart P false a b old new same = new (subst P same old)

all_of_it : (k n : ℕ) → 1 ≤ k → n < k → (n + (k - n)) % k ≡ 0
all_of_it k n some low = remainder_none k (n + (k - n)) (record { up = 0; down = 1; equal = omega arith })

-- at the new cell nothing is wanting any more
settled_end : (out : Bool) (k p q : ℕ) → 1 ≤ k → p < k → q < k
    → either out ((p + (k - either out p ((k - q) % k))) % k) ((q + either out p ((k - q) % k)) % k) ≡ 0
settled_end true k p q some hp hq = all_of_it k p some hp
settled_end false k p q some hp hq = both_ways k q hq

-- ## What is kept

abbrev pub root_of : (s : Symbol) → AreInvolutions s → Pair → ℕ → ℕ
root_of s inv p = (has_roots s inv p).root

-- the white chambers of a cell
abbrev pub whites_of : (s : Symbol) → AreInvolutions s → List Bool → Pair → ℕ → List ℕ
whites_of s inv white p l = whites (color white) (members_at s (root_of s inv p) l)

-- a free side whose ends no earlier free sides join
pub record IsBearing (s : Symbol) (f : List ℕ) (i : Index) (d : ℕ) : Type 0 where
  pub free : IsFree s f i d
  pub parted : ¬ AreEndsJoined s f i d

-- The cells that are not among those still to be settled want nothing, and what all want adds to nothing.
pub record IsSettling (s : Symbol) (k : ℕ) (white : List Bool) (f : List ℕ) (x : Shifts) (b : List ℕ) (js : List Join) : Type 0 where
  pub small : IsSmallSymbol s
  pub some : 1 ≤ k
  pub high : k ≤ 30
  pub are_colors : AreColors s white
  pub colors : length white ≡ s.size
  pub cells : Pair → List ℕ
  pub are_cells : (p : Pair) → AreCells s p (cells p)
  pub joins : AreJoins s f [] js
  pub sizes : HaveSize s x
  pub below : (i : Index) (d : ℕ) → IsChamber s d → shift x i d < k
  pub opposite : (i : Index) (d : ℕ) → IsChamber s d → (shift x i d + shift x i (op s i d)) % k ≡ 0
  pub bearing : (i : Index) (d : ℕ) → IsChamber s d → (shift x i d ≡ 0) ⊎ IsBearing s f i (least_side s i d)
  pub waiting : (j : Join) → Contains js j → shift x j.side.index j.side.chamber ≡ 0
  pub wants : length b ≡ 3 * (s.size + 1)
  pub few : (n : ℕ) → slice_index b n < k
  pub equation : (p : Pair) (l v : ℕ) → IsLeastOfCell s p l → IsBranching s p l v
      → AreCongruent k (k / v + sum_by (shift x (inward p)) (whites_of s small.symbol.table.involutions white p l))
      (sum_by (shift x (outward p)) (whites_of s small.symbol.table.involutions white p l) + slice_index b (numbered s p l))
  pub settled : (p : Pair) (l : ℕ) → IsLeastOfCell s p l → IsJoinedBy js (numbered s p l) ⊎ (slice_index b (numbered s p l) ≡ 0)
  pub total : AreCongruent k (sum_by (slice_index b) (all_cells s cells)) 0

-- ## One cell more

module _ (s : Symbol) (k : ℕ) (white : List Bool) (f : List ℕ) (x : Shifts) (b : List ℕ) (js : List Join) (j : Join) (v : IsSettling s k white f x b (js ++ j ∷ [])) where
  abbrev inv : AreInvolutions s
  inv = v.small.symbol.table.involutions

  abbrev root : Pair → ℕ → ℕ
  root p = root_of s inv p

  abbrev roots : (p : Pair) → AreRoots s p (root p)
  roots p = (has_roots s inv p).are

  abbrev i : Index
  i = j.side.index

  abbrev c : ℕ
  c = j.side.chamber

  abbrev z : ℕ
  z = shift_of b k j

  popped : AreJoins s f [] js × IsJoin s f js j
  popped = pop_join s f [] js j v.joins

  is : IsJoin s f js j
  is = popped.1

  hc : IsChamber s c
  hc = is.side.free.chamber

  hop : IsChamber s (op s i c)
  hop = (inv i).within c hc

  from_is : j.side.from ≡ numbered s (one_end i) (root (one_end i) c)
  from_is = number_is s inv (one_end i) (root (one_end i)) (roots (one_end i)) c j.side.from hc is.side.from

  to_is : j.side.to ≡ numbered s (other_end i) (root (other_end i) c)
  to_is = number_is s inv (other_end i) (root (other_end i)) (roots (other_end i)) c j.side.to hc is.side.to

  from_low : j.side.from < length b
  from_low = let l = number_low s (one_end i) c j.side.from is.side.from in let e = v.wants in omega arith

  to_low : j.side.to < length b
  to_low = let l = number_low s (other_end i) c j.side.to is.side.to in let e = v.wants in omega arith

  moved : op s i c ≡ c → ⊥
  moved same = let e = v.are_colors.exchanged i c hc in let g = ap (color white) same in turned (color white c) (sym g ∙ e) where
    turned : (t : Bool) → t ≡ not t → ⊥
    turned true e = cc
    turned false e = cc

  apart : j.side.from ≡ j.side.to → ⊥
  apart same = ends_apart (IsJoinedBy js) j.out j.side.from j.side.to is.old is.new same

  z_low : z < k
  z_low = shift_low j.out k (slice_index b j.side.from) (slice_index b j.side.to) v.some (v.few j.side.from)

  pub ready : AreReady s white k j x b
  ready = record {
    some = v.some;
    high = v.high;
    sizes = v.sizes;
    whites = v.colors;
    chamber = hc;
    moved = moved;
    below = v.few;
    from = from_low;
    to = to_low;
  }

  -- ### Sides

  decide_this : (a : Index) (d : ℕ) → IsThisSide s j.side a d ⊎ (IsThisSide s j.side a d → ⊥)
  decide_this a d =
      ⊎_elim
      (λ yes. ⊎_elim
      (λ at. inl (index_same a i yes, inl at))
      (λ other. ⊎_elim
      (λ at. inl (index_same a i yes, inr at))
      (λ neither. inr (λ this. ⊎_elim other neither this.1))
      (cases_eq d (op s i c)))
      (cases_eq d c))
      (λ out. inr (λ this. let yes = ap (λ q. same_index q i) this.0 ∙ same_index-refl i in absurd (cc)))
      (cases_Bool (same_index a i))

  this_turned : (a : Index) (d : ℕ) → IsChamber s d → IsThisSide s j.side a (op s a d) → IsThisSide s j.side a d
  this_turned a d h this =
      let back = (inv a).involutive d h in (
        this.0,
        ⊎_elim
            (λ at. inr (sym back ∙ ap (op s a) at ∙ ap (λ q. op s q c) this.0))
            (λ at. inl (sym back ∙ ap (op s a) at ∙ ap (λ q. op s q (op s i c)) this.0 ∙ (inv i).involutive c hc))
            this.1,
      )

  least_own : least_side s i c ≡ c
  least_own = ap (λ t. cond t c (op s i c)) (le-leb c (op s i c) is.side.free.least)

  least_this : (a : Index) (d : ℕ) → IsThisSide s j.side a d → least_side s a d ≡ c
  least_this a d this =
      ap (λ q. least_side s q d) this.0
      ∙ ⊎_elim (λ at. ap (least_side s i) at ∙ least_own) (λ at. ap (least_side s i) at ∙ least_side_turned s inv i c hc ∙ least_own) this.1

  this_least : (d : ℕ) → IsChamber s d → c ≡ least_side s i d → IsThisSide s j.side i d
  this_least d h same = (
    refl,
    ⊎_elim
        (λ low. inr (sym ((inv i).involutive d h) ∙ ap (op s i) (sym (same ∙ ap (λ t. cond t d (op s i d)) (lt-leb d (op s i d) low)))))
        (λ high. inl (sym (same ∙ ap (λ t. cond t d (op s i d)) (le-leb d (op s i d) high))))
        (cases_lt (op s i d) d),
  )

  none_here : shift x i c ≡ 0
  none_here = v.waiting j (Contains-push js j)

  none_there : shift x i (op s i c) ≡ 0
  none_there = opposite_none k (shift x i (op s i c)) (v.below i (op s i c) hop) (ap (λ n. (n + shift x i (op s i c)) % k) (sym none_here) ∙ v.opposite i c hc)

  none_this : (d : ℕ) → (d ≡ c) ⊎ (d ≡ op s i c) → shift x i d ≡ 0
  none_this d (inl at) = ap (shift x i) at ∙ none_here
  none_this d (inr at) = ap (shift x i) at ∙ none_there

  module _ (x' : Shifts) (b' : List ℕ) (done : IsSettled s white k j x b x' b') where
    put : IsPut s white k j.side z x x'
    put = done.put

    abbrev e : Step
    e = record { chamber = c; index = i }

    -- at a white chamber
    white_this : (d : ℕ) → color white d ≡ true → (d ≡ c) ⊎ (d ≡ op s i c) → shift x' i d ≡ z
    white_this d is_white (inl at) =
        ap (shift x' i) at ∙ put.here ∙ ap (λ t. either t z ((k - z) % k)) (ap (color white) (sym at) ∙ is_white)
    white_this d is_white (inr at) =
        let black : not (color white c) ≡ true = sym (v.are_colors.exchanged i c hc) ∙ ap (color white) (sym at) ∙ is_white in
        ap (shift x' i) at ∙ put.there ∙ ap (λ t. either t ((k - z) % k) z) (turned (color white c) black) where
          turned : (t : Bool) → not t ≡ true → t ≡ false
          turned true h = sym h
          turned false h = refl

    white_shift : (a : Index) (d : ℕ) → IsChamber s d → color white d ≡ true → shift x' a d ≡ shift x a d + cond (is_step e a (least_side s a d)) z 0
    white_shift a d h is_white =
        ⊎_elim
        (λ this.
        let old : shift x a d ≡ 0 = ap (λ q. shift x q d) this.0 ∙ none_this d this.1 in
        let new : shift x' a d ≡ z = ap (λ q. shift x' q d) this.0 ∙ white_this d is_white this.1 in
        let same : same_index i a ≡ true = ap (same_index i) this.0 ∙ same_index-refl i in
        let hit : cond (is_step e a (least_side s a d)) z 0 ≡ z =
        ap (λ t. cond (t && eqb c (least_side s a d)) z 0) same ∙ ap (λ t. cond t z 0) (eq-eqb c (least_side s a d) (sym (least_this a d this))) in
        omega arith)
        (λ other.
        let old = put.others a d h other in
        let miss : cond (is_step e a (least_side s a d)) z 0 ≡ 0 = ⊎_elim
        (λ yes.
        let at : i ≡ a = index_same i a yes in
        ap (λ t. cond (t && eqb c (least_side s a d)) z 0) yes
        ∙ ap (λ t. cond t z 0) (ne_eqb c (least_side s a d) (λ same. other (subst (λ q. IsThisSide s j.side q d) at (this_least d h (subst (λ q. c ≡ least_side s q d) (sym at) same))))))
        (λ out. ap (λ t. cond (t && eqb c (least_side s a d)) z 0) out)
        (cases_Bool (same_index i a)) in
        omega arith)
        (decide_this a d)

    shift_pair : (a : Index) (d : ℕ) → IsChamber s d → (shift x' a d < k) × ((shift x' a d + shift x' a (op s a d)) % k ≡ 0)
    shift_pair a d h =
        ⊎_elim
        (λ this. subst (λ q. (shift x' q d < k) × ((shift x' q d + shift x' q (op s q d)) % k ≡ 0)) (sym this.0)
        (⊎_elim
        (λ at. subst (λ n. (shift x' i n < k) × ((shift x' i n + shift x' i (op s i n)) % k ≡ 0)) (sym at) (
          subst (λ n. n < k) (sym put.here) (either_below (color white c) k z v.some z_low).0,
          ap (λ n. (n + shift x' i (op s i c)) % k) put.here ∙ ap (λ n. (either (color white c) z ((k - z) % k) + n) % k) put.there ∙ either_ways (color white c) k z z_low,
        ))
        (λ at. subst (λ n. (shift x' i n < k) × ((shift x' i n + shift x' i (op s i n)) % k ≡ 0)) (sym at) (
          subst (λ n. n < k) (sym put.there) (either_below (color white c) k z v.some z_low).1,
          ap (λ n. (shift x' i (op s i c) + shift x' i n) % k) ((inv i).involutive c hc)
              ∙ (let turned : shift x' i (op s i c) + shift x' i c ≡ shift x' i c + shift x' i (op s i c) = omega arith in ap (λ n. n % k) turned)
              ∙ ap (λ n. (n + shift x' i (op s i c)) % k) put.here ∙ ap (λ n. (either (color white c) z ((k - z) % k) + n) % k) put.there ∙ either_ways (color white c) k z z_low,
        ))
        this.1))
        (λ other.
        let there = (inv a).within d h in
        let own = put.others a d h other in
        let far = put.others a (op s a d) there (λ this. other (this_turned a d h this)) in (
          subst (λ n. n < k) (sym own) (v.below a d h),
          ap (λ n. (n + shift x' a (op s a d)) % k) own ∙ ap (λ n. (shift x a d + n) % k) far ∙ v.opposite a d h,
        ))
        (decide_this a d)

    bearing_after : (a : Index) (d : ℕ) → IsChamber s d → (shift x' a d ≡ 0) ⊎ IsBearing s f a (least_side s a d)
    bearing_after a d h =
        ⊎_elim
        (λ this. inr (subst (λ q. IsBearing s f q (least_side s a d)) (sym this.0) (subst (IsBearing s f i) (sym (least_this a d this)) (record { free = is.side.free; parted = is.parted }))))
        (λ other. ⊎_elim (λ none. inl (put.others a d h other ∙ none)) (λ bears. inr bears) (v.bearing a d h))
        (decide_this a d)

    waiting_after : (m : Join) → Contains js m → shift x' m.side.index m.side.chamber ≡ 0
    waiting_after m here =
        let both = both_joined s f [] js m popped.0 here in
        let side = both.is.1.side in
        let hm = side.free.chamber in
        let differ : IsThisSide s j.side m.side.index m.side.chamber → ⊥ = λ this.
        let same : m.side.chamber ≡ c = ⊎_elim
        (λ at. at)
        (λ at.
        let up : m.side.chamber ≤ op s i m.side.chamber = subst (λ q. m.side.chamber ≤ op s q m.side.chamber) this.0 side.free.least in
        let back : op s i m.side.chamber ≡ c = ap (op s i) at ∙ (inv i).involutive c hc in
        let low = is.side.free.least in
        omega arith)
        this.1 in
        let from_m : m.side.from ≡ j.side.from =
        number_is s inv (one_end m.side.index) (root (one_end m.side.index)) (roots (one_end m.side.index)) m.side.chamber m.side.from hm side.from
        ∙ ap (λ q. numbered s (one_end q) (root (one_end q) m.side.chamber)) this.0 ∙ ap (λ n. numbered s (one_end i) (root (one_end i) n)) same ∙ sym from_is in
        let to_m : m.side.to ≡ j.side.to =
        number_is s inv (other_end m.side.index) (root (other_end m.side.index)) (roots (other_end m.side.index)) m.side.chamber m.side.to hm side.to
        ∙ ap (λ q. numbered s (other_end q) (root (other_end q) m.side.chamber)) this.0 ∙ ap (λ n. numbered s (other_end i) (root (other_end i) n)) same ∙ sym to_is in
        is.new (one_of (IsJoinedBy js) j.out m.out m.side.from m.side.to j.side.from j.side.to from_m to_m both.new both.old) in
        put.others m.side.index m.side.chamber hm differ ∙ v.waiting m (Contains-append_left js (j ∷ []) m here) where
          one_of : (P : ℕ → Type 0) (out other : Bool) (a b' p q : ℕ) → a ≡ p → b' ≡ q → P (either other a b') → P (either other b' a) → P (either out p q)
          one_of P true true a b' p q ea eb one two = subst P ea one
          one_of P true false a b' p q ea eb one two = subst P ea two
          one_of P false true a b' p q ea eb one two = subst P eb two
          one_of P false false a b' p q ea eb one two = subst P eb one

    -- ### What is wanting

    abbrev n_from : ℕ
    n_from = j.side.from

    abbrev n_to : ℕ
    n_to = j.side.to

    abbrev one : List ℕ
    one = set b n_from ((slice_index b n_from + (k - z)) % k)

    long : length one ≡ length b
    long = length-set b n_from ((slice_index b n_from + (k - z)) % k)

    to_as_before : slice_index one n_to ≡ slice_index b n_to
    to_as_before = get_or-set_other b n_from n_to ((slice_index b n_from + (k - z)) % k) 0 (λ same. apart (sym same))

    at_to : slice_index b' n_to ≡ (slice_index b n_to + z) % k
    at_to =
        ap (λ xs. slice_index xs n_to) done.wanted ∙ get_or-set_same one n_to ((slice_index one n_to + z) % k) 0 (let l = long in let t = to_low in omega arith)
        ∙ ap (λ n. (n + z) % k) to_as_before

    at_from : slice_index b' n_from ≡ (slice_index b n_from + (k - z)) % k
    at_from =
        ap (λ xs. slice_index xs n_from) done.wanted ∙ get_or-set_other one n_to n_from ((slice_index one n_to + z) % k) 0 apart
        ∙ get_or-set_same b n_from ((slice_index b n_from + (k - z)) % k) 0 from_low

    elsewhere : (n : ℕ) → (n ≡ n_from → ⊥) → (n ≡ n_to → ⊥) → slice_index b' n ≡ slice_index b n
    elsewhere n nf nt =
        ap (λ xs. slice_index xs n) done.wanted ∙ get_or-set_other one n_to n ((slice_index one n_to + z) % k) 0 nt
        ∙ get_or-set_other b n_from n ((slice_index b n_from + (k - z)) % k) 0 nf

    few_after : (n : ℕ) → slice_index b' n < k
    few_after n =
        ⊎_elim
        (λ at. subst (λ m. slice_index b' m < k) (sym at) (subst (λ m. m < k) (sym at_from) (mod_below (slice_index b n_from + (k - z)) k v.some)))
        (λ nf. ⊎_elim
        (λ at. subst (λ m. slice_index b' m < k) (sym at) (subst (λ m. m < k) (sym at_to) (mod_below (slice_index b n_to + z) k v.some)))
        (λ nt. subst (λ m. m < k) (sym (elsewhere n nf nt)) (v.few n))
        (cases_eq n n_to))
        (cases_eq n n_from)

    changed : (n : ℕ) → AreCongruent k (slice_index b' n) (slice_index b n + cond (eqb n_from n) (k - z) 0 + cond (eqb n_to n) z 0)
    changed n =
        let low = z_low in
        ⊎_elim
        (λ at.
        let f1 : cond (eqb n_from n) (k - z) 0 ≡ k - z = ap (λ t. cond t (k - z) 0) (eq-eqb n_from n (sym at)) in
        let t0 : cond (eqb n_to n) z 0 ≡ 0 = ap (λ t. cond t z 0) (ne_eqb n_to n (λ same. apart (sym at ∙ sym same))) in
        let m = mod_congruent k (slice_index b n_from + (k - z)) in
        let p = m.equal in
        let a = ap (slice_index b') at ∙ at_from in
        let o = ap (slice_index b) at in
        record { up = m.up; down = m.down; equal = omega arith })
        (λ nf. ⊎_elim
        (λ at.
        let f0 : cond (eqb n_from n) (k - z) 0 ≡ 0 = ap (λ t. cond t (k - z) 0) (ne_eqb n_from n (λ same. nf (sym same))) in
        let t1 : cond (eqb n_to n) z 0 ≡ z = ap (λ t. cond t z 0) (eq-eqb n_to n (sym at)) in
        let m = mod_congruent k (slice_index b n_to + z) in
        let p = m.equal in
        let a = ap (slice_index b') at ∙ at_to in
        let o = ap (slice_index b) at in
        record { up = m.up; down = m.down; equal = omega arith })
        (λ nt.
        let f0 : cond (eqb n_from n) (k - z) 0 ≡ 0 = ap (λ t. cond t (k - z) 0) (ne_eqb n_from n (λ same. nf (sym same))) in
        let t0 : cond (eqb n_to n) z 0 ≡ 0 = ap (λ t. cond t z 0) (ne_eqb n_to n (λ same. nt (sym same))) in
        let a = elsewhere n nf nt in
        congruent_same k (slice_index b' n) _ (omega arith))
        (cases_eq n n_to))
        (cases_eq n n_from)

    root_listed : (p : Pair) (d : ℕ) → IsChamber s d → Contains (all_cells s v.cells) (numbered s p (root p d))
    root_listed p d h = number_listed s v.cells p (root p d) (((v.are_cells p).members (root p d)).1 ((roots p).least d h))

    total_after : AreCongruent k (sum_by (slice_index b') (all_cells s v.cells)) 0
    total_after =
        let vs = all_cells s v.cells in
        let up = all_ascending s inv v.cells v.are_cells in
        let hf : Contains vs n_from = subst (Contains vs) (sym from_is) (root_listed (one_end i) c hc) in
        let ht : Contains vs n_to = subst (Contains vs) (sym to_is) (root_listed (other_end i) c hc) in
        let sums = sums_congruent k (slice_index b') (λ n. slice_index b n + cond (eqb n_from n) (k - z) 0 + cond (eqb n_to n) z 0) vs (λ n here. changed n) in
        let both = sum_by_both (λ n. slice_index b n + cond (eqb n_from n) (k - z) 0) (λ n. cond (eqb n_to n) z 0) vs in
        let inner = sum_by_both (slice_index b) (λ n. cond (eqb n_from n) (k - z) 0) vs in
        let one_from = one_hit n_from 0 vs up hf (λ n. k - z) in
        let one_to = one_hit n_to 0 vs up ht (λ n. z) in
        let old = v.total in
        let p = sums.equal in
        let q = old.equal in
        let low = z_low in
        record { up = sums.up + old.up; down = sums.down + old.down + 1; equal = omega arith }

    -- ### The cells

    abbrev ws : Pair → ℕ → List ℕ
    ws p l = whites_of s inv white p l

    module _ (p : Pair) (l : ℕ) (least : IsLeastOfCell s p l) where
      in_ws : (d : ℕ) → Contains (ws p l) d → IsChamber s d × (color white d ≡ true)
      in_ws d here =
          let from = Contains-from_filter (color white) (members_at s (root p) l) d here in
          let are = members_at_are s inv p (root p) (roots p) l least in
          (in_cell_within s inv p l d least.0 ((are.each d).0 from.0), from.1)

      sum_after : (a : Index) → sum_by (shift x' a) (ws p l) ≡ sum_by (shift x a) (ws p l) + sum_by (λ d. cond (is_step e a (least_side s a d)) z 0) (ws p l)
      sum_after a =
          sum_by_listed (shift x' a) (λ d. shift x a d + cond (is_step e a (least_side s a d)) z 0) (ws p l) (λ d here. let w = in_ws d here in white_shift a d w.0 w.1)
          ∙ sum_by_both (shift x a) (λ d. cond (is_step e a (least_side s a d)) z 0) (ws p l)

      out_after : sum_by (shift x' (outward p)) (ws p l) ≡ sum_by (shift x (outward p)) (ws p l) + cond (eqb n_from (numbered s p l)) z 0
      out_after =
          sum_after (outward p)
          ∙ ap (λ n. sum_by (shift x (outward p)) (ws p l) + n)
          (one_value s inv root roots (color white) v.are_colors.exchanged one_end p (outward p) (one_outward p)
          (λ q differ at. differ (sym (outward_one q) ∙ ap outward at)) (subst (λ q. Holds q (outward p)) (one_outward p) (one_holds (outward p))) l least
          (members_at s (root p) l) (members_at_are s inv p (root p) (roots p) l least) e (record { chamber = hc; least = is.side.free.least }) z
          ∙ ap (λ n. cond (eqb n (numbered s p l)) z 0) (sym from_is))

      in_after : sum_by (shift x' (inward p)) (ws p l) ≡ sum_by (shift x (inward p)) (ws p l) + cond (eqb n_to (numbered s p l)) z 0
      in_after =
          sum_after (inward p)
          ∙ ap (λ n. sum_by (shift x (inward p)) (ws p l) + n)
          (one_value s inv root roots (color white) v.are_colors.exchanged other_end p (inward p) (other_inward p)
          (λ q differ at. differ (sym (inward_other q) ∙ ap inward at)) (subst (λ q. Holds q (inward p)) (other_inward p) (other_holds (inward p))) l least
          (members_at s (root p) l) (members_at_are s inv p (root p) (roots p) l least) e (record { chamber = hc; least = is.side.free.least }) z
          ∙ ap (λ n. cond (eqb n (numbered s p l)) z 0) (sym to_is))

      equation_after : (w : ℕ) → IsBranching s p l w
          → AreCongruent k (k / w + sum_by (shift x' (inward p)) (ws p l)) (sum_by (shift x' (outward p)) (ws p l) + slice_index b' (numbered s p l))
      equation_after w branching =
          let old = v.equation p l w least branching in
          let new = changed (numbered s p l) in
          let o = out_after in
          let n = in_after in
          let ce = old.equal in
          let cn = new.equal in
          let low = z_low in
          let halves : cond (eqb n_from (numbered s p l)) (k - z) 0 + cond (eqb n_from (numbered s p l)) z 0 ≡ cond (eqb n_from (numbered s p l)) k 0 = whole_of (eqb n_from (numbered s p l)) in
          elim (eqb n_from (numbered s p l)) as (λ t. cond (eqb n_from (numbered s p l)) k 0 ≡ cond t k 0 → AreCongruent k (k / w + sum_by (shift x' (inward p)) (ws p l)) (sum_by (shift x' (outward p)) (ws p l) + slice_index b' (numbered s p l))) [
            | true ↦ λ is_k. record { up = old.up + new.down + 1; down = old.down + new.up; equal = omega arith }
            | false ↦ λ is_k. record { up = old.up + new.down; down = old.down + new.up; equal = omega arith }
          ] refl where
            whole_of : (t : Bool) → cond t (k - z) 0 + cond t z 0 ≡ cond t k 0
            whole_of true = let low = z_low in omega arith
            whole_of false = refl

      settled_after : IsJoinedBy js (numbered s p l) ⊎ (slice_index b' (numbered s p l) ≡ 0)
      settled_after =
          let n = numbered s p l in
          let gone : slice_index b' (new_end j) ≡ 0 =
          (picked (slice_index b') j.out n_from n_to ∙ ap (λ q. either j.out q (slice_index b' n_to)) at_from ∙ ap (λ q. either j.out ((slice_index b n_from + (k - z)) % k) q) at_to)
          ∙ settled_end j.out k (slice_index b n_from) (slice_index b n_to) v.some (v.few n_from) (v.few n_to) in
          ⊎_elim
          (λ joined. ⊎_elim (λ before. inl before) (λ new. inr (ap (slice_index b') new ∙ gone)) (joined_cases js j n joined))
          (λ none.
          ⊎_elim
          (λ new. inr (ap (slice_index b') new ∙ gone))
          (λ not_new. ⊎_elim
          (λ old. inl (subst (IsJoinedBy js) (sym old) is.old))
          (λ not_old. let a = neither j.out n n_from n_to not_new not_old in inr (elsewhere n a.0 a.1 ∙ none))
          (cases_eq n (old_end j)))
          (cases_eq n (new_end j)))
          (v.settled p l least) where
            picked : (g : ℕ → ℕ) (out : Bool) (a b : ℕ) → g (either out a b) ≡ either out (g a) (g b)
            picked g true a b = refl
            picked g false a b = refl

            neither : (out : Bool) (n a b : ℕ) → (n ≡ either out a b → ⊥) → (n ≡ either out b a → ⊥) → (n ≡ a → ⊥) × (n ≡ b → ⊥)
            neither true n a b x y = (x, y)
            neither false n a b x y = (y, x)

    pub settled_more : IsSettling s k white f x' b' js
    settled_more = record {
      small = v.small;
      some = v.some;
      high = v.high;
      are_colors = v.are_colors;
      colors = v.colors;
      cells = v.cells;
      are_cells = v.are_cells;
      joins = popped.0;
      sizes = put.sizes;
      below = λ a d h. (shift_pair a d h).0;
      opposite = λ a d h. (shift_pair a d h).1;
      bearing = bearing_after;
      waiting = waiting_after;
      wants = ap length done.wanted ∙ length-set one n_to ((slice_index one n_to + z) % k) ∙ long ∙ v.wants;
      few = few_after;
      equation = λ p l w least branching. equation_after p l least w branching;
      settled = λ p l least. settled_after p l least;
      total = total_after;
    }

-- ## All cells are settled

module _ (s : Symbol) (k : ℕ) (white : List Bool) (f : List ℕ) (x : Shifts) (b : List ℕ) (v : IsSettling s k white f x b []) (visits : IsVisitOrder s f) where
  abbrev inv_ : AreInvolutions s
  inv_ = v.small.symbol.table.involutions

  want_none : (p : Pair) (l : ℕ) → IsLeastOfCell s p l → (numbered s p l ≡ 1) ⊎ (slice_index b (numbered s p l) ≡ 0)
  want_none p l least = ⊎_elim (λ joined. inl (⊎_elim (λ first. first) (λ here. absurd (Contains-none (numbered s p l) here)) joined)) (λ none. inr none) (v.settled p l least)

  nothing_left : (p : Pair) (l : ℕ) → IsLeastOfCell s p l → AreCongruent k (slice_index b (numbered s p l)) 0
  nothing_left p l least =
      let vs = all_cells s v.cells in
      let up = all_ascending s inv_ v.cells v.are_cells in
      ⊎_elim
      (λ first.
      let here : Contains vs 1 = subst (Contains vs) first (number_listed s v.cells p l (((v.are_cells p).members l).1 least)) in
      let alone = sum_by_listed (slice_index b) (λ w. cond (eqb 1 w) (slice_index b w) 0) vs (λ w listed.
      let m = number_of s v.cells w listed in
      let own = ((v.are_cells m.pair).members m.least).0 m.listed in
      ⊎_elim
      (λ at. sym (ap (λ t. cond t (slice_index b w) 0) (eq-eqb 1 w at)))
      (λ other. ⊎_elim
      (λ is. absurd (other (sym (sym m.number ∙ is))))
      (λ none. ap (slice_index b) (sym m.number) ∙ none ∙ sym (ap (λ t. cond t (slice_index b w) 0) (ne_eqb 1 w other)))
      (want_none m.pair m.least own))
      (cases_eq 1 w)) in
      let hit = one_hit 1 0 vs up here (slice_index b) in
      let same = ap (slice_index b) first in
      let t = v.total in
      let q = t.equal in
      record { up = t.up; down = t.down; equal = omega arith })
      (λ none. congruent_same k (slice_index b (numbered s p l)) 0 none)
      (want_none p l least)

  rounds_hold : (p : Pair) (d r w : ℕ) → IsChamber s d → color white d ≡ true → IsLeastTurns s p d r → IsBranching s p d w
      → sum_along s (shift x) (power (round p) r) d % k ≡ k / w % k
  rounds_hold p d r w h is_white turns branching =
      let root = root_of s inv_ p in
      let roots = (has_roots s inv_ p).are in
      let l = root d in
      let least = roots.least d h in
      let down = roots.in_cell d h in
      let near = in_cell-sym s inv_ p d l h down in
      let equation = v.equation p l w least (branching_same s v.small.symbol p d l w h down branching) in
      let none = nothing_left p l least in
      let q = equation.equal in
      let y = none.equal in
      remainders k (sum_along s (shift x) (power (round p) r) d) (k / w)
      (rule_from_equation s v.small.symbol k (shift x) white v.are_colors.exchanged v.opposite p l d r (k / w) h is_white turns least.0 near
      (members_at s root l) (members_at_are s inv_ p root roots l least)
      (record { up = equation.up + none.up; down = equation.down + none.down; equal = omega arith }))

  first_hold : (i : Index) (d : ℕ) → IsChamber s d → IsFirstStep s f i d → shift x i d ≡ 0
  first_hold i d h first =
      ⊎_elim
      (λ none. none)
      (λ bears.
      let own = bears.free in
      ⊎_elim
      (λ low.
      let at : least_side s i d ≡ op s i d = ap (λ t. cond t d (op s i d)) (lt-leb d (op s i d) low) in
      absurd ((subst (IsFree s f i) at own).back (subst (IsFirstStep s f i) (sym ((inv_ i).involutive d h)) first)))
      (λ more.
      let at : least_side s i d ≡ d = ap (λ t. cond t d (op s i d)) (le-leb d (op s i d) more) in
      absurd ((subst (IsFree s f i) at own).there first))
      (cases_lt (op s i d) d))
      (v.bearing i d h)

  joined_hold : (i : Index) (d : ℕ) → IsFree s f i d → AreEndsJoined s f i d → shift x i d ≡ 0
  joined_hold i d free joined =
      ⊎_elim
      (λ none. none)
      (λ bears.
      let at : least_side s i d ≡ d = ap (λ t. cond t d (op s i d)) (le-leb d (op s i d) free.least) in
      absurd ((subst (λ n. ¬ AreEndsJoined s f i n) at bears.parted) joined))
      (v.bearing i d free.chamber)

  pub shifts_settled : AreTorusShifts s k (shift x)
  shifts_settled = record {
    below = v.below;
    colors = white;
    are_colors = v.are_colors;
    order = f;
    visits = visits;
    opposite = v.opposite;
    rounds = rounds_hold;
    first_steps = first_hold;
    joined = joined_hold;
  }

-- by the numbers of first visits
pub record IsUnderWay (s : Symbol) (k : ℕ) (white : List Bool) (x : Shifts) (b : List ℕ) (js : List Join) : Type 0 where
  pub order : List ℕ
  pub visits : IsVisitOrder s order
  pub settling : IsSettling s k white order x b js

pub ready_on : (s : Symbol) (k : ℕ) (white : List Bool) (x : Shifts) (b : List ℕ) (js : List Join) (j : Join) → IsUnderWay s k white x b (js ++ j ∷ []) → AreReady s white k j x b
ready_on s k white x b js j u = ready s k white u.order x b js j u.settling

pub settled_on : (s : Symbol) (k : ℕ) (white : List Bool) (x : Shifts) (b : List ℕ) (js : List Join) (j : Join) → IsUnderWay s k white x b (js ++ j ∷ [])
    → (x' : Shifts) (b' : List ℕ) → IsSettled s white k j x b x' b' → IsUnderWay s k white x' b' js
settled_on s k white x b js j u x' b' done = record { order = u.order; visits = u.visits; settling = settled_more s k white u.order x b js j u.settling x' b' done }

pub settled_all : (s : Symbol) (k : ℕ) (white : List Bool) (x : Shifts) (b : List ℕ) → IsUnderWay s k white x b [] → AreTorusShifts s k (shift x)
settled_all s k white x b u = shifts_settled s k white u.order x b u.settling u.visits

-- what gives no last side has none
pub nothing_popped : (js : List Join) → (0 < length js → false ≡ true) → js ≡ []
nothing_popped [] none = refl
nothing_popped (j ∷ js) none = let clash = none (omega arith) in absurd (cc)
