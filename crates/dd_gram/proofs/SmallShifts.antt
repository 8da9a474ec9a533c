-- Both numbers of a shift are -1, 0 or 1. Without a crossing edge the others part the tiles in two; what goes from one part to the other
-- goes across that edge and across the one edge that is left.
use Rattle.std.proofs.Common.{◌≡◌, ◌≢◌, ℕ, ◌+◌, ◌*◌, ◌<◌, ◌≤◌, Bool, true, false, not, cond, eqb, List, [], ◌∷◌, length, get_or, ℤ, pos, negsuc, nat_abs, ◌-ℤ◌, refl, sym, ap, ◌∙◌, subst, inl, inr, ⊎_elim, arith}
use Rattle.std.proofs.lemmas.Bool.{cases_eq, cases_Bool, eq-eqb, ne_eqb}
use Rattle.std.proofs.lemmas.List.Sums.{sum_by-cons}
use Rattle.std.specs.List.{Contains, filter, sum_by}
use Rattle.std.specs.List.Sorted.{IsStrictlyIncreasing}
use borrow.Author.Differences.{up, down}
use Rattle.dd_model.specs.declared.index.Index.{Index}
use Rattle.dd_model.specs.declared.index.Index.TheVariants.{Zero, Two}
use Rattle.dd_model.specs.declared.pair.Pair.TheVariants.{Tile, Edge}
use Rattle.dd_model.specs.Symbol.{Symbol, AreInvolutions, IsChamber, op}
use Rattle.dd_model.specs.Cell.{InCell, IsLeastOfCell, IsPeriod, AreCells}
use Rattle.dd_model.specs.Code.{chambers}
use Rattle.dd_model.proofs.Branching.{branching_exists}
use Rattle.dd_model.proofs.CellLists.{cells_exist, increasing-head, increasing-tail}
use Rattle.dd_model.proofs.CellWalks.{has_period, in_cell-first, in_cell-refl}
use Rattle.dd_model.proofs.Lists.{Contains-none, Contains-head, Contains-later, Contains-cases}
use Rattle.dd_model.proofs.Turns.{IsLeastTurns-from_period, least_turns_unique}
use Rattle.dd_cells.proofs.CellSums.{has_roots, members_at, members_at_are, sum_by_listed, sum_over_cells}
use Rattle.dd_cells.specs.Orientation.{color}
use Rattle.dd_covers.specs.Torus.{IsTorus}
use Rattle.dd_covers.proofs.CellRanks.{all_whites, sum_over_kept}
use Rattle.dd_covers.proofs.Labels.{Link, labels, linked, joined_by_links}
use Rattle.dd_covers.proofs.Nodes.{root_beside}
use Rattle.dd_covers.proofs.WhiteSums.{sum_over_turns}
use Rattle.dd_lattice.specs.Edges.{IsOfCells, IsTreeEdge, IsKindOf, AreKindsOf, is_crossing}
use Rattle.dd_lattice.specs.Shifts.{IsLeftEdge, AreShifts}
use Rattle.dd_lattice.specs.declared.kinds.EdgeKind.{EdgeKind}
use Rattle.dd_lattice.specs.declared.kinds.EdgeKind.TheVariants.{Tree, Crossing, Left}
use Rattle.dd_lattice.proofs.Around.{through_edge}
use Rattle.dd_lattice.proofs.Dual.{all_tiles}
use Rattle.dd_lattice.proofs.Flows.{AreExchanged}
use Rattle.dd_lattice.proofs.KindCounts.{links, count_links, link_listed, level_by_chosen, all_but, but_other, one_fewer}
use Rattle.dd_lattice.proofs.KindLemmas.{listed_edge, same_default, own_root}
use Rattle.dd_lattice.proofs.KindsExist.{kinds_exist}
use Rattle.dd_lattice.proofs.OneChoice.{parts, round_total}
use Rattle.dd_lattice.proofs.TileFlows.{swaps, even}
use Rattle.dd_lattice.proofs.TreeCounts.{all_places, crossing_chosen, crossing_not_chosen, crossing_edges}

-- ## Sums over a list that differ at two members

one_off : (f g : ℕ → ℕ) (xs : List ℕ) → IsStrictlyIncreasing xs → (e : ℕ) → Contains xs e → ((z : ℕ) → Contains xs z → z ≢ e → f z ≡ g z) → sum_by f xs + g e ≡ sum_by g xs + f e
one_off f g [] rising e here same = absurd (Contains-none e here)
one_off f g (x ∷ xs) rising e here same =
    let a = sum_by-cons f x xs in
    let b = sum_by-cons g x xs in
    ⊎_elim
    (λ at.
    let rest = sum_by_listed f g xs (λ y later. same y (Contains-later x y xs later) (λ s. let below = increasing-head x y xs rising later in absurd (omega arith))) in
    let p = ap f at in
    let q = ap g at in
    omega arith)
    (λ later.
    let below = increasing-head x e xs rising later in
    let first = same x (Contains-head x xs) (λ s. absurd (omega arith)) in
    let rest = one_off f g xs (increasing-tail x xs rising) e later (λ z h. same z (Contains-later x z xs h)) in
    omega arith)
    (Contains-cases x e xs here)

two_off : (f g : ℕ → ℕ) (xs : List ℕ) → IsStrictlyIncreasing xs → (d e : ℕ) → d ≢ e → Contains xs d → Contains xs e → ((z : ℕ) → Contains xs z → z ≢ d → z ≢ e → f z ≡ g z)
    → sum_by f xs ≡ sum_by g xs → f d + f e ≡ g d + g e
two_off f g xs rising d e apart here there same equal =
    let h : ℕ → ℕ = λ z. cond (eqb z e) (g z) (f z) in
    let at : h e ≡ g e = ap (λ b. cond b (g e) (f e)) (eq-eqb e e refl) in
    let off : (z : ℕ) → z ≢ e → h z ≡ f z = λ z other. ap (λ b. cond b (g z) (f z)) (ne_eqb z e other) in
    let one = one_off f h xs rising e there (λ z listed other. sym (off z other)) in
    let two = one_off h g xs rising d here (λ z listed other.
    ⊎_elim (λ s. subst (λ y. h y ≡ g y) (sym s) at) (λ o. off z o ∙ same z listed other o) (cases_eq z e)) in
    let own = off d apart in
    omega arith

abs_small : (z : ℤ) → up z ≤ down z + 1 → down z ≤ up z + 1 → nat_abs z ≤ 1
abs_small (pos n) a b = omega arith
abs_small (negsuc n) a b = omega arith

module _ (t : Symbol) (torus : IsTorus t) where
  abbrev inv : AreInvolutions t
  inv = torus.symbol.table.involutions

  abbrev white : ℕ → Bool
  white = color torus.oriented.colors

  abbrev exchanged : (i : Index) (d : ℕ) → IsChamber t d → white (op t i d) ≡ not (white d)
  exchanged = torus.oriented.exchanged

  -- two turns round an edge, and no fewer, fix a chamber
  edge_period : (d : ℕ) → IsChamber t d → IsPeriod t Edge d 2
  edge_period d h =
      let is = branching_exists t torus.symbol Edge d h in
      let v = is.0 in
      let one = (torus.smooth Edge).each d v h is.1 in
      let two : v * is.1.r ≡ 2 = is.1.quotient in
      let turns : is.1.r ≡ 2 = let e = ap (λ n. n * is.1.r) one in omega arith in
      let has = has_period t inv Edge d h in
      let same = least_turns_unique t Edge d is.1.r has.r is.1.least_turns (IsLeastTurns-from_period t inv Edge d has.r h has.period) in
      subst (IsPeriod t Edge d) (sym same ∙ turns) has.period

  -- ## Sums over white chambers by edges

  module _ (a b : ℕ → ℕ) (swap : AreExchanged t torus.symbol white exchanged a b) where
    -- the value at the white chambers of an edge
    abbrev at_white : ℕ → ℕ
    at_white j = cond (white j) (a j) (b j)

    abbrev root : ℕ → ℕ
    root = (has_roots t inv Edge).root

    abbrev members : ℕ → List ℕ
    members j = members_at t root j

    from_white : (j d : ℕ) → IsLeastOfCell t Edge j → IsChamber t d → white d ≡ true → InCell t Edge j d → sum_by a (filter white (members j)) ≡ a d + a d
    from_white j d least h w near =
        let sum = sum_over_turns t inv white exchanged Edge j d 2 h w (edge_period d h) least.0 near (members j) (members_at_are t inv Edge root (has_roots t inv Edge).are j least) a in
        let next = op t Two (op t Zero d) in
        let there = (inv Zero).within d h in
        let again : a next ≡ a d = (swap Two (op t Zero d) there (inr refl)).0 ∙ (swap Zero d h (inl refl)).1 in
        let list = sum_by-cons a d (next ∷ []) in
        let last = sum_by-cons a next [] in
        sym sum ∙ list ∙ ap (λ n. a d + n) (last ∙ ap (λ n. n + 0) again) ∙ plain (a d)
      where
        plain : (n : ℕ) → n + (n + 0) ≡ n + n
        plain n = omega arith

    one_sum : (j : ℕ) → IsLeastOfCell t Edge j → sum_by a (filter white (members j)) ≡ at_white j + at_white j
    one_sum j least =
        ⊎_elim
        (λ yes_. from_white j j least least.0 yes_ (in_cell-refl t Edge j) ∙ sym (ap (λ c. cond c (a j) (b j) + cond c (a j) (b j)) yes_))
        (λ no_.
        let e = (swap Zero j least.0 (inl refl)).0 in
        from_white j (op t Zero j) least ((inv Zero).within j least.0) (exchanged Zero j least.0 ∙ ap not no_) (in_cell-first t Edge j j (in_cell-refl t Edge j))
        ∙ ap (λ n. n + n) e ∙ sym (ap (λ c. cond c (a j) (b j) + cond c (a j) (b j)) no_))
        (cases_Bool (white j))

    pub by_edges : (edges : List ℕ) → AreCells t Edge edges → sum_by a (all_whites t inv white exchanged) ≡ sum_by (λ j. at_white j + at_white j) edges
    by_edges edges cells =
        let counted : ℕ → ℕ = λ d. cond (white d) (a d) 0 in
        sum_over_kept a white (chambers t) ∙ sym (sum_over_cells t Edge root counted edges (has_roots t inv Edge).are cells)
        ∙ sum_by_listed (λ j. sum_by counted (members j)) (λ j. at_white j + at_white j) edges (λ j here. sym (sum_over_kept a white (members j)) ∙ one_sum j ((cells.members j).0 here))

  -- ## The parts beside a crossing edge

  module _ (edges : List ℕ) (cells : AreCells t Edge edges) (kinds : List EdgeKind) (are : AreKindsOf t edges kinds) (one : ℕ) (x : ℕ → ℤ) (shifts : AreShifts t one x) (left : IsLeftEdge t one) where
    abbrev edge : ℕ → ℕ
    edge k = get_or edges k 0

    abbrev crossing_at : ℕ → Bool
    crossing_at k = is_crossing (get_or kinds k Left)

    abbrev C : ℕ → Type 0
    C e = IsTreeEdge t e → ⊥

    module _ (m : ℕ) (inside : m < length edges) (crosses : crossing_at m ≡ true) where
      abbrev but : ℕ → Bool
      but = all_but t inv Tile Two C edges cells crossing_at m

      abbrev tile : ℕ → ℕ
      tile = (has_roots t inv Tile).root

      abbrev others : List Link
      others = links t inv Tile Two C edges cells but (length edges)

      abbrev value : ℕ → ℕ
      value d = labels others (tile d)

      of_tiles : IsOfCells t Tile value
      of_tiles j d h holds = ap (labels others) (root_beside t inv Tile tile (has_roots t inv Tile).are j d h holds)

      value_at : (q : ℕ) → q < length edges → crossing_at q ≡ true → q ≢ m → value (op t Two (edge q)) ≡ value (edge q)
      value_at q low is off =
          sym (linked others (record { from = tile (edge q); to = tile (op t Two (edge q)) }) (link_listed t inv Tile Two C edges cells but (length edges) q low (but_other t inv Tile Two C edges cells crossing_at m q off ∙ is)))

      everywhere : (g : ℕ → ℕ) → IsOfCells t Tile g → ((e : ℕ) → IsLeastOfCell t Edge e → C e → g (op t Two e) ≡ g e) → (d : ℕ) → IsChamber t d → g d ≡ g 1
      everywhere = all_tiles t torus.symbol torus.connected edges cells kinds are white exchanged

      -- the other crossing edges do not join its two tiles
      parted : value (op t Two (edge m)) ≡ value (edge m) → ⊥
      parted joined =
          let tiles = (cells_exist t inv Tile).0 in
          let of = (cells_exist t inv Tile).1 in
          let level = level_by_chosen t inv Tile Two C edges cells crossing_at (crossing_chosen t inv edges cells kinds are) (crossing_not_chosen t inv edges cells kinds are) value of_tiles
          (λ q low is. ⊎_elim (λ at. subst (λ z. value (op t Two (edge z)) ≡ value (edge z)) (sym at) joined) (λ off. value_at q low is off) (cases_eq q m)) in
          let same = everywhere value of_tiles level in
          let few = joined_by_links others tiles (value 1) of.ascending (λ v here.
          let least = (of.members v).0 here in
          ap (labels others) (own_root t inv Tile v least) ∙ same v least.0) in
          let many = count_links t inv Tile Two C edges cells but (length edges) in
          let fewer = one_fewer t inv Tile Two C edges cells crossing_at m crosses (length edges) inside in
          let places = all_places t inv edges cells kinds are Tile Two C is_crossing in
          let exact = crossing_edges t inv edges cells kinds are (omega arith, torus.symbol.table.chambers) tiles of everywhere in
          omega arith

      -- 1 in the part of its tile, and 0 in the other
      abbrev side : ℕ → ℕ
      side d = cond (eqb (value d) (value (edge m))) 1 0

      side_of_tiles : IsOfCells t Tile side
      side_of_tiles j d h holds = ap (λ v. cond (eqb v (value (edge m))) 1 0) (of_tiles j d h holds)

      side_small : (d : ℕ) → side d ≤ 1
      side_small d = elim (eqb (value d) (value (edge m))) as (λ b. cond b 1 0 ≤ 1) [ true ↦ omega arith | false ↦ omega arith ]

      abbrev out : ℕ → ℕ
      out d = up (x d)

      abbrev in_ : ℕ → ℕ
      in_ d = down (x d)

      out_0 : (d : ℕ) → IsChamber t d → out (op t Zero d) ≡ in_ d
      out_0 d h = (parts (x (op t Zero d)) (x d) (shifts.back d h)).0

      in_0 : (d : ℕ) → IsChamber t d → in_ (op t Zero d) ≡ out d
      in_0 d h = (parts (x (op t Zero d)) (x d) (shifts.back d h)).1

      out_2 : (d : ℕ) → IsChamber t d → out (op t Two d) ≡ out d
      out_2 d h = ap up (shifts.across d h)

      in_2 : (d : ℕ) → IsChamber t d → in_ (op t Two d) ≡ in_ d
      in_2 d h = ap down (shifts.across d h)

      abbrev a : ℕ → ℕ
      a d = side d * out d + side (op t Two d) * in_ d

      abbrev b : ℕ → ℕ
      b d = side d * in_ d + side (op t Two d) * out d

      swap : AreExchanged t torus.symbol white exchanged a b
      swap = swaps t torus.symbol white exchanged out in_ (round_total t torus one x shifts) side side_of_tiles out_0 in_0 out_2 in_2

      back_swap : AreExchanged t torus.symbol white exchanged b a
      back_swap i d h holds = let s = swap i d h holds in (s.1, s.0)

      equal : sum_by (λ j. cond (white j) (a j) (b j) + cond (white j) (a j) (b j)) edges ≡ sum_by (λ j. cond (white j) (b j) (a j) + cond (white j) (b j) (a j)) edges
      equal =
          sym (by_edges a b swap edges cells) ∙ even t torus.symbol white exchanged out in_ (round_total t torus one x shifts) side side_of_tiles out_0 in_0 out_2 in_2
          ∙ by_edges b a back_swap edges cells

      -- nothing is told apart where both tiles are in one part, and where nothing passes
      in_one_part : (d : ℕ) → side (op t Two d) ≡ side d → a d ≡ b d
      in_one_part d same =
          let turned_over : side d * out d + side d * in_ d ≡ side d * in_ d + side d * out d = omega arith in
          ap (λ v. side d * out d + v * in_ d) same ∙ turned_over ∙ sym (ap (λ v. side d * in_ d + v * out d) same)

      nothing_passes : (d : ℕ) → x d ≡ pos 0 → a d ≡ b d
      nothing_passes d none =
          let o : out d ≡ 0 = ap up none in
          let i : in_ d ≡ 0 = ap down none in
          let s = side d in
          let r = side (op t Two d) in
          ap (λ v. s * v + r * in_ d) o ∙ ap (λ v. s * 0 + r * v) i ∙ sym (ap (λ v. s * v + r * out d) i ∙ ap (λ v. s * 0 + r * v) o)

      off_both : (k : EdgeKind) (z : ℕ) → IsLeastOfCell t Edge z → IsKindOf t z k → z ≢ one → is_crossing k ≡ false → x z ≡ pos 0
      off_both Tree z least is other no_ = shifts.trees z least is
      off_both Crossing z least is other no_ = cc
      off_both Left z least is other no_ = shifts.left z (record { least = least; kind = is }) other

      elsewhere : (z : ℕ) → Contains edges z → z ≢ edge m → z ≢ one → a z ≡ b z
      elsewhere z listed off other =
          let least = (cells.members z).0 listed in
          let q = listed.0 in
          let own = same_default edges q z listed.1 listed.2 in
          ⊎_elim
          (λ yes_. in_one_part z (subst (λ e. side (op t Two e) ≡ side e) own (ap (λ v. cond (eqb v (value (edge m))) 1 0) (value_at q listed.1 yes_ (λ at. off (sym own ∙ ap edge at))))))
          (λ no_. nothing_passes z (off_both (get_or kinds q Left) z least (subst (λ e. IsKindOf t e (get_or kinds q Left)) own (are.each q Left listed.1)) other no_))
          (cases_Bool (crossing_at q))

      crossing_is_not_left : edge m ≢ one
      crossing_is_not_left same =
          let none = (crossing_chosen t inv edges cells kinds are m inside crosses).1 in
          none (subst (λ z. (e : IsKindOf t z Left) → IsKindOf t z Left) (sym same) (λ e. e) (subst (λ z. IsKindOf t z Left) (sym same) left.kind)).1

      halves : (p q r s : ℕ) → (p + p) + (q + q) ≡ (r + r) + (s + s) → p + q ≡ r + s
      halves p q r s e = omega arith

      -- as much goes across both, whichever of their chambers are white
      across_both : (cond (white (edge m)) (a (edge m)) (b (edge m)) + cond (white one) (a one) (b one)) ≡ (cond (white (edge m)) (b (edge m)) (a (edge m)) + cond (white one) (b one) (a one))
      across_both =
          halves (cond (white (edge m)) (a (edge m)) (b (edge m))) (cond (white one) (a one) (b one)) (cond (white (edge m)) (b (edge m)) (a (edge m))) (cond (white one) (b one) (a one))
          (two_off (λ j. cond (white j) (a j) (b j) + cond (white j) (a j) (b j)) (λ j. cond (white j) (b j) (a j) + cond (white j) (b j) (a j)) edges cells.ascending (edge m) one crossing_is_not_left
          ((cells.members (edge m)).1 (listed_edge t edges cells m inside)) ((cells.members one).1 left.least)
          (λ z listed off other. let same = elsewhere z listed off other in
          elim (white z) as (λ c. cond c (a z) (b z) + cond c (a z) (b z) ≡ cond c (b z) (a z) + cond c (b z) (a z)) [ true ↦ ap (λ n. n + n) same | false ↦ ap (λ n. n + n) (sym same) ])
          equal)

      at_edge : (a (edge m) ≡ out (edge m)) × (b (edge m) ≡ in_ (edge m))
      at_edge =
          let here : side (edge m) ≡ 1 = ap (λ c. cond c 1 0) (eq-eqb (value (edge m)) (value (edge m)) refl) in
          let there : side (op t Two (edge m)) ≡ 0 = ap (λ c. cond c 1 0) (ne_eqb (value (op t Two (edge m))) (value (edge m)) parted) in (
            ap (λ v. v * out (edge m) + side (op t Two (edge m)) * in_ (edge m)) here ∙ ap (λ v. 1 * out (edge m) + v * in_ (edge m)) there ∙ plain (out (edge m)) (in_ (edge m)),
            ap (λ v. v * in_ (edge m) + side (op t Two (edge m)) * out (edge m)) here ∙ ap (λ v. 1 * in_ (edge m) + v * out (edge m)) there ∙ plain (in_ (edge m)) (out (edge m)),
          )
        where
          plain : (n k : ℕ) → 1 * n + 0 * k ≡ n
          plain n k = omega arith

      at_one : (a one ≤ 1) × (b one ≤ 1)
      at_one =
          let o : out one ≡ 1 = ap up shifts.unit in
          let i : in_ one ≡ 0 = ap down shifts.unit in
          let p = ap (λ v. side one * v + side (op t Two one) * in_ one) o ∙ ap (λ v. side one * 1 + side (op t Two one) * v) i in
          let q = ap (λ v. side one * v + side (op t Two one) * out one) i ∙ ap (λ v. side one * 0 + side (op t Two one) * v) o in
          let s = side_small one in
          let r = side_small (op t Two one) in
          (omega arith, omega arith)

      small_crossing : nat_abs (x (edge m)) ≤ 1
      small_crossing =
          let e = at_edge in
          let ea = e.0 in
          let eb = e.1 in
          let o = at_one in
          let oa = o.0 in
          let ob = o.1 in
          let sums = across_both in
          let both : (a (edge m) ≤ b (edge m) + 1) × (b (edge m) ≤ a (edge m) + 1) = bounds (white (edge m)) (white one) (a (edge m)) (b (edge m)) (a one) (b one) oa ob sums in
          let low = both.0 in
          let high = both.1 in
          abs_small (x (edge m)) (omega arith) (omega arith)
        where
          bounds : (c w : Bool) (p q r s : ℕ) → r ≤ 1 → s ≤ 1 → cond c p q + cond w r s ≡ cond c q p + cond w s r → (p ≤ q + 1) × (q ≤ p + 1)
          bounds true true p q r s hr hs e = (omega arith, omega arith)
          bounds true false p q r s hr hs e = (omega arith, omega arith)
          bounds false true p q r s hr hs e = (omega arith, omega arith)
          bounds false false p q r s hr hs e = (omega arith, omega arith)

    of_kind : (k : EdgeKind) (q : ℕ) → q < length edges → get_or kinds q Left ≡ k → nat_abs (x (edge q)) ≤ 1
    of_kind Tree q inside is =
        let least = listed_edge t edges cells q inside in
        let tree = subst (IsKindOf t (edge q)) is (are.each q Left inside) in
        let e = ap nat_abs (shifts.trees (edge q) least tree) in
        omega arith
    of_kind Crossing q inside is = small_crossing q inside (ap is_crossing is)
    of_kind Left q inside is =
        let least = listed_edge t edges cells q inside in
        let kind = subst (IsKindOf t (edge q)) is (are.each q Left inside) in
        ⊎_elim
        (λ own. let e = ap nat_abs (ap x own ∙ shifts.unit) in omega arith)
        (λ other. let e = ap nat_abs (shifts.left (edge q) (record { least = least; kind = kind }) other) in omega arith)
        (cases_eq (edge q) one)

  opposite_size : (z w : ℤ) → z ≡ pos 0 -ℤ w → nat_abs w ≤ 1 → nat_abs z ≤ 1
  opposite_size z w e small = let p = parts z w e in let p0 = p.0 in let p1 = p.1 in abs_small z (size_up w small p0 p1) (size_down w small p0 p1)
    where
      size_up : (w : ℤ) → nat_abs w ≤ 1 → up z ≡ down w → down z ≡ up w → up z ≤ down z + 1
      size_up (pos n) s a b = omega arith
      size_up (negsuc n) s a b = omega arith

      size_down : (w : ℤ) → nat_abs w ≤ 1 → up z ≡ down w → down z ≡ up w → down z ≤ up z + 1
      size_down (pos n) s a b = omega arith
      size_down (negsuc n) s a b = omega arith

  pub small_shifts : (one : ℕ) (x : ℕ → ℤ) → AreShifts t one x → IsLeftEdge t one → (d : ℕ) → IsChamber t d → nat_abs (x d) ≤ 1
  small_shifts one x shifts left =
      let edges = cells_exist t inv Edge in
      let kinds = kinds_exist t inv edges.0 edges.1 in
      through_edge t torus.symbol (λ d. nat_abs (x d) ≤ 1)
      (λ i d h holds small. ⊎_elim
      (λ e. subst (λ j. nat_abs (x (op t j d)) ≤ 1) (sym e) (opposite_size (x (op t Zero d)) (x d) (shifts.back d h) small))
      (λ e. subst (λ j. nat_abs (x (op t j d)) ≤ 1) (sym e) (subst (λ z. nat_abs z ≤ 1) (sym (shifts.across d h)) small))
      holds)
      (λ e least.
      let listed = (edges.1.members e).1 least in
      subst (λ z. nat_abs (x z) ≤ 1) (same_default edges.0 listed.0 e listed.1 listed.2)
      (of_kind edges.0 edges.1 kinds.0 kinds.1 one x shifts left (get_or kinds.0 listed.0 Left) listed.0 listed.1 refl))
