-- The white chambers of a symbol, ranked by cells and then by the turns that each is away from the base of its cell. A turn
-- disagrees with this ranking at the base of a cell and the others of the cell alone: it has the sign of whites less cells.
use Rattle.std.proofs.Common.{◌≡◌, ℕ, zero, suc, ◌+◌, ◌-◌, ◌*◌, ◌<◌, ◌≤◌, ◌⊎◌, Bool, true, false, not, cond, eqb, List, length, refl, sym, ap, ◌∙◌, subst, inl, inr, ⊎_elim, arith}
use Rattle.std.proofs.Math.Nat.{mul-le-mul_right}
use Rattle.std.proofs.lemmas.Bool.{cases_lt, cases_eq, cases_order, cases_Bool, eq-eqb, ne_eqb}
use Rattle.std.proofs.lemmas.List.Kept.{IsStrictlyIncreasing-filter}
use Rattle.std.proofs.lemmas.List.Filters.{sum_by-filter_both}
use Rattle.std.specs.List.{Contains, filter, sum_by}
use borrow.Author.Tests.{eqb-true}
use Rattle.dd_model.specs.declared.index.Index.{Index}
use Rattle.dd_model.specs.declared.pair.Pair.{Pair}
use Rattle.dd_model.specs.Symbol.{Symbol, AreInvolutions, IsChamber, first, second, turn, op, act}
use Rattle.dd_model.specs.Code.{chambers}
use Rattle.dd_model.specs.Cell.{InCell, AreCells, turned}
use Rattle.dd_model.proofs.CellSearch.{Decided, least_where, least_of_cell_unique}
use Rattle.dd_model.proofs.CellWalks.{in_cell-sym, in_cell-trans, has_period}
use Rattle.dd_model.proofs.CountFrom.{increasing-count_from}
use Rattle.dd_model.proofs.Turns.{turned_within, turned-suc, turned-add, turned_apart}
use Rattle.dd_cells.proofs.CellSums.{AreRoots, sum_by_listed, sum_by_both, sum_by_same, sum_by_none, Contains-filter, Contains-from_filter, members_at, members_at_are, chamber_listed, listed_chamber, sum_over_cells}
use Rattle.dd_cells.proofs.OrbitCounts.{sum_over_images}
use Rattle.dd_covers.proofs.Nodes.{root_beside}
use Rattle.dd_covers.proofs.Solving.{one_hit}
use Rattle.dd_covers.proofs.WhiteSums.{whites, white_end, white_end_is, turned_white, white_met}
use Rattle.dd_covers.proofs.Crossings.{doubly_listed, doubly_both, sums_exchanged, cond_same, opposed_first, opposed_turned, opposed_none, opposed_one, IsRanking, crossing, crossings, no_crossings, crossings_along, crossings_moved}
use Rattle.dd_covers.proofs.Congruences.{AreCongruent}

-- a place in a row of rows of n
rows_less : (a b t u n : ℕ) → a < b → t < n → a * n + t < b * n + u
rows_less a b t u n low inside = let m : (a + 1) * n ≤ b * n = mul-le-mul_right n (omega arith) in omega arith

-- a sum over what passes a test
pub sum_over_kept : (g : ℕ → ℕ) (p : ℕ → Bool) (xs : List ℕ) → sum_by g (filter p xs) ≡ sum_by (λ x. cond (p x) (g x) 0) xs
sum_over_kept g p xs =
    let f : ℕ → ℕ = λ x. cond (p x) (g x) 0 in
    let both = sum_by-filter_both p (λ x. not (p x)) (λ x. refl) f xs in
    let kept = sum_by_listed f g (filter p xs) (λ x here. ap (λ t. cond t (g x) 0) ((Contains-from_filter p xs x here).1)) in
    let left = sum_by_none f (filter (λ x. not (p x)) xs) (λ x here.
    let out = (Contains-from_filter (λ x. not (p x)) xs x here).1 in
    ⊎_elim (λ yes. let e = ap not yes in absurd (cc)) (λ no_. ap (λ t. cond t (g x) 0) no_) (cases_Bool (p x))) in
    omega arith

module _ (s : Symbol) (inv : AreInvolutions s) (white : ℕ → Bool) (exchanged : (i : Index) (d : ℕ) → IsChamber s d → white (op s i d) ≡ not (white d)) where
  abbrev pub all_whites : List ℕ
  all_whites = whites white (chambers s)

  abbrev pub IsWhite : ℕ → Type 0
  IsWhite d = IsChamber s d × (white d ≡ true)

  pub white_listed : (d : ℕ) → IsWhite d → Contains all_whites d
  white_listed d w = Contains-filter white (chambers s) d (chamber_listed s d w.0) w.1

  pub listed_white : (d : ℕ) → Contains all_whites d → IsWhite d
  listed_white d here = let from = Contains-from_filter white (chambers s) d here in (listed_chamber s d from.0, from.1)

  module _ (p : Pair) where
    -- a turn
    abbrev pub round : ℕ → ℕ
    round d = act s (turn p) d

    pub round_white : (d : ℕ) → IsWhite d → IsWhite (round d)
    round_white d w = (turned_within s inv p 1 d w.0, turned_white s inv white exchanged p d w.0 w.1 1)

    -- A turn permutes the white chambers.
    pub sum_over_round : (g : ℕ → ℕ) → sum_by (λ d. g (round d)) all_whites ≡ sum_by g all_whites
    sum_over_round g =
        let f : ℕ → ℕ = λ d. cond (white d) (g d) 0 in
        sum_over_kept (λ d. g (round d)) white (chambers s)
        ∙ sum_by_listed (λ d. cond (white d) (g (round d)) 0) (λ d. f (round d)) (chambers s) (λ d here.
        let h = listed_chamber s d here in
        ap (λ t. cond t (g (round d)) 0) (sym (same_color (white d) (white (op s (first p) d)) (white (round d))
        (exchanged (first p) d h) (exchanged (second p) (op s (first p) d) ((inv (first p)).within d h)))))
        ∙ sum_over_images s inv (first p) (λ d. f (op s (second p) d))
        ∙ sum_over_images s inv (second p) f
        ∙ sym (sum_over_kept g white (chambers s)) where
          same_color : (a b c : Bool) → b ≡ not a → c ≡ not b → c ≡ a
          same_color true b c e f = f ∙ ap not e
          same_color false b c e f = f ∙ ap not e

    module _ (root : ℕ → ℕ) (roots : AreRoots s p root) where
      -- the white one of the first two chambers of a cell
      abbrev base : ℕ → ℕ
      base d = white_end s white (first p) (root d)

      root_again : (d : ℕ) → IsChamber s d → root (root d) ≡ root d
      root_again d h =
          let least = roots.least d h in
          sym (least_of_cell_unique s inv p (root d) (root (root d)) least (roots.least (root d) least.0) (roots.in_cell (root d) least.0))

      base_is : (d : ℕ) → IsChamber s d → IsWhite (base d) × (root (base d) ≡ root d)
      base_is d h =
          let w = white_end_is s inv white exchanged p root roots (first p) (inl refl) (root d) (roots.least d h).0 in
          ((w.0, w.1), w.2 ∙ root_again d h)

      base_again : (d : ℕ) → IsChamber s d → base (base d) ≡ base d
      base_again d h = ap (white_end s white (first p)) (base_is d h).1

      base_round : (d : ℕ) → IsChamber s d → base (round d) ≡ base d
      base_round d h =
          ap (white_end s white (first p))
          (root_beside s inv p root roots (second p) (op s (first p) d) ((inv (first p)).within d h) (inr refl) ∙ root_beside s inv p root roots (first p) d h (inl refl))

      -- ## How many turns lead to the base

      abbrev IsThere : ℕ → ℕ → Type 0
      IsThere d k = (turned s p k d ≡ base d) ⊎ (s.size ≤ k)

      is_there : (d k : ℕ) → Decided (IsThere d k)
      is_there d k =
          ⊎_elim
          (λ at. inl (inl at))
          (λ off. ⊎_elim (λ low. inr (λ there. ⊎_elim off (λ high. omega arith) there)) (λ high. inl (inr high)) (cases_lt k s.size))
          (cases_eq (turned s p k d) (base d))

      way : (d : ℕ) → (k : ℕ) × IsThere d k × ((j : ℕ) → IsThere d j → k ≤ j)
      way d = least_where (IsThere d) (is_there d) s.size (inr (omega arith))

      abbrev away : ℕ → ℕ
      away d = (way d).0

      first_time : (d k : ℕ) → turned s p k d ≡ base d → away d ≤ k
      first_time d k at = (way d).2 k (inl at)

      leads_to_base : (d : ℕ) → IsWhite d → (k : ℕ) × (k < s.size) × (turned s p k d ≡ base d)
      leads_to_base d w =
          let has = has_period s inv p d w.0 in
          let b = base_is d w.0 in
          let back = subst (InCell s p (base d)) b.1 (roots.in_cell (base d) b.0.0) in
          let near = in_cell-trans s p d (root d) (base d) (roots.in_cell d w.0) (in_cell-sym s inv p (base d) (root d) b.0.0 back) in
          let m = white_met s inv white exchanged p d has.r (base d) w.0 w.1 has.period near b.0.1 in
          (m.0, (let low = m.1 in let high = has.bound in omega arith), m.2)

      away_below : (d : ℕ) → IsWhite d → away d < s.size
      away_below d w = let l = leads_to_base d w in let low = l.1 in let least = first_time d l.0 l.2 in omega arith

      away_leads : (d : ℕ) → IsWhite d → turned s p (away d) d ≡ base d
      away_leads d w = ⊎_elim (λ at. at) (λ high. let low = away_below d w in absurd (omega arith)) (way d).1

      away_base : (d : ℕ) → d ≡ base d → away d ≡ 0
      away_base d e = let least = first_time d 0 e in omega arith

      -- a turn is a step nearer to the base, but at the base itself
      away_round : (d : ℕ) → IsWhite d → (d ≡ base d → ⊥) → away d ≡ suc (away (round d))
      away_round d w off = nearer (away d) refl where
        nearer : (n : ℕ) → away d ≡ n → away d ≡ suc (away (round d))
        nearer zero e = absurd (off (ap (λ k. turned s p k d) (sym e) ∙ away_leads d w))
        nearer (suc n) e =
            let same = base_round d w.0 in
            let there = sym (turned-suc s p n d) ∙ ap (λ k. turned s p k d) (sym e) ∙ away_leads d w ∙ sym same in
            let low = first_time (round d) n there in
            let back = turned-suc s p (away (round d)) d ∙ away_leads (round d) (round_white d w) ∙ same in
            let high = first_time d (suc (away (round d))) back in
            omega arith

      -- from the base a turn leads farthest away
      away_most : (b d : ℕ) → IsWhite b → IsWhite d → b ≡ base b → base d ≡ b → away d ≤ away (round b)
      away_most b d wb wd at same =
          ⊎_elim
          (λ more.
          let q = suc (away (round b)) in
          let j = away d - q in
          let sum : j + q ≡ away d = omega arith in
          let z = turned s p j d in
          let whole : turned s p q b ≡ b = turned-suc s p (away (round b)) b ∙ away_leads (round b) (round_white b wb) ∙ base_round b wb.0 ∙ sym at in
          let rest : turned s p q z ≡ b = sym (turned-add s p j q d) ∙ ap (λ k. turned s p k d) sum ∙ away_leads d wd ∙ same in
          let early = turned_apart s inv p q z b (turned_within s inv p j d wd.0) wb.0 (rest ∙ sym whole) in
          let least = first_time d j (early ∙ sym same) in
          absurd (omega arith))
          (λ less. less)
          (cases_lt (away (round b)) (away d))

      -- ## The ranking

      abbrev rank : ℕ → ℕ
      rank d = base d * s.size + away d

      rank_less : (d e : ℕ) → IsWhite d → base d < base e → rank d < rank e
      rank_less d e w low = rows_less (base d) (base e) (away d) (away e) s.size low (away_below d w)

      rank_rows : (d e : ℕ) → base d ≡ base e → away d < away e → rank d < rank e
      rank_rows d e same low = let m = ap (λ z. z * s.size) same in omega arith

      is_ranking : IsRanking all_whites rank
      is_ranking d e hd he same =
          let wd = listed_white d hd in
          let we = listed_white e he in
          ⊎_elim
          (λ one.
          let m = ap (λ z. z * s.size) one in
          let turns : away d ≡ away e = omega arith in
          turned_apart s inv p (away d) d e wd.0 we.0 (away_leads d wd ∙ one ∙ sym (away_leads e we) ∙ ap (λ k. turned s p k e) (sym turns)))
          (λ two. ⊎_elim
          (λ low. let less = rank_less d e wd low in absurd (omega arith))
          (λ high. let less = rank_less e d we high in absurd (omega arith))
          two)
          (cases_order (base d) (base e))

      -- ## Where a turn disagrees with it

      -- 1 for a base
      abbrev is_base : ℕ → ℕ
      is_base d = cond (eqb d (base d)) 1 0

      abbrev is_other : ℕ → ℕ
      is_other d = cond (eqb d (base d)) 0 1

      -- 1 for a base and another chamber of its cell
      abbrev under : ℕ → ℕ → ℕ
      under d e = cond (eqb (base e) d) (is_other e) 0

      under_no : (d e : ℕ) → (base e ≡ d → ⊥) → under d e ≡ 0
      under_no d e off = ap (λ t. cond t (is_other e) 0) (ne_eqb (base e) d off)

      under_yes : (d e : ℕ) → base e ≡ d → (e ≡ base e → ⊥) → under d e ≡ 1
      under_yes d e at off = ap (λ t. cond t (is_other e) 0) (eq-eqb (base e) d at) ∙ ap (λ t. cond t 0 1) (ne_eqb e (base e) off)

      under_own : (d : ℕ) → under d d ≡ 0
      under_own d =
          ⊎_elim
          (λ at. ap (λ t. cond t (is_other d) 0) (eq-eqb (base d) d (sym at)) ∙ ap (λ t. cond t 0 1) (eq-eqb d (base d) at))
          (λ off. under_no d d (λ e. off (sym e)))
          (cases_eq d (base d))

      abbrev turned_rank : ℕ → ℕ
      turned_rank d = rank (round d)

      crossing_up : (d e : ℕ) → IsWhite d → IsWhite e → rank d < rank e → crossing rank turned_rank d e ≡ under d e + under e d
      crossing_up d e wd we less =
          let rd = base_round d wd.0 in
          let re = base_round e we.0 in
          ⊎_elim
          (λ one.
          let m = ap (λ z. z * s.size) one in
          let some : away d < away e = omega arith in
          let off : e ≡ base e → ⊥ = λ at. let none = away_base e at in absurd (omega arith) in
          let last = away_round e we off in
          let none = under_no e d (λ at. off (sym at ∙ one)) in
          ⊎_elim
          (λ at.
          let most = away_most d e wd we at (sym one ∙ sym at) in
          let now = rank_rows (round e) (round d) (re ∙ sym one ∙ sym rd) (omega arith) in
          let yes = under_yes d e (sym one ∙ sym at) off in
          let crossed = opposed_one (rank d) (rank e) (rank (round d)) (rank (round e)) less now in
          omega arith)
          (λ not_at.
          let down = away_round d wd not_at in
          let now = rank_rows (round d) (round e) (rd ∙ one ∙ sym re) (omega arith) in
          let no_ = under_no d e (λ at. not_at (sym at ∙ sym one)) in
          let kept = opposed_none (rank d) (rank e) (rank (round d)) (rank (round e)) less now in
          omega arith)
          (cases_eq d (base d)))
          (λ two. ⊎_elim
          (λ low.
          let now = rank_less (round d) (round e) (round_white d wd) (omega arith) in
          let kept = opposed_none (rank d) (rank e) (rank (round d)) (rank (round e)) less now in
          let a = under_no d e (λ at. let b = base_again e we.0 in let c = ap base at in absurd (omega arith)) in
          let b = under_no e d (λ at. let b = base_again d wd.0 in let c = ap base at in absurd (omega arith)) in
          omega arith)
          (λ high. let more = rank_less e d we high in absurd (omega arith))
          two)
          (cases_order (base d) (base e))

      crossing_is : (d e : ℕ) → Contains all_whites d → Contains all_whites e → crossing rank turned_rank d e ≡ under d e + under e d
      crossing_is d e hd he =
          let wd = listed_white d hd in
          let we = listed_white e he in
          ⊎_elim
          (λ same.
          let one = is_ranking d e hd he same in
          subst (λ z. crossing rank turned_rank d z ≡ under d z + under z d) one
          (let a = opposed_first (rank d) (rank d) (turned_rank d) (turned_rank d) refl in let b = under_own d in omega arith))
          (λ two. ⊎_elim
          (λ low. crossing_up d e wd we low)
          (λ high.
          let up = crossing_up e d we wd high in
          let turned_round = opposed_turned (rank e) (rank d) (turned_rank e) (turned_rank d) in
          omega arith)
          two)
          (cases_order (rank d) (rank e))

      -- ## Their number

      under_base : sum_by (λ e. sum_by (λ d. under d e) all_whites) all_whites ≡ sum_by is_other all_whites
      under_base = sum_by_listed (λ e. sum_by (λ d. under d e) all_whites) is_other all_whites (λ e here.
          one_hit (base e) 0 all_whites (IsStrictlyIncreasing-filter white (chambers s) (increasing-count_from 1 s.size))
          (white_listed (base e) (base_is e (listed_white e here).0).0) (λ d. is_other e))

      -- each cell has one base
      module _ (ds : List ℕ) (cells : AreCells s p ds) where
        base_of_cell : (l : ℕ) → Contains ds l → sum_by (λ d. cond (white d) (is_base d) 0) (members_at s root l) ≡ 1
        base_of_cell l here =
            let least = (cells.members l).0 here in
            let are = members_at_are s inv p root roots l least in
            let own : root l ≡ l = sym (least_of_cell_unique s inv p l (root l) least (roots.least l least.0) (roots.in_cell l least.0)) in
            let b = base_is l least.0 in
            let near = in_cell-sym s inv p (base l) l b.0.0 (subst (InCell s p (base l)) (b.1 ∙ own) (roots.in_cell (base l) b.0.0)) in
            sum_by_listed (λ d. cond (white d) (is_base d) 0) (λ d. cond (eqb (base l) d) 1 0) (members_at s root l) (λ d listed.
            let at_root = eqb-true (root d) l (Contains-from_filter (λ z. eqb (root z) l) (chambers s) d listed).1 in
            let same : base d ≡ base l = ap (white_end s white (first p)) (at_root ∙ sym own) in
            ⊎_elim
            (λ at.
            ap (λ t. cond t (is_base d) 0) (ap white (sym at) ∙ b.0.1)
            ∙ ap (λ t. cond t 1 0) (eq-eqb d (base d) (sym at ∙ sym same))
            ∙ sym (ap (λ t. cond t 1 0) (eq-eqb (base l) d at)))
            (λ off.
            ap (λ t. cond (white d) (cond t 1 0) 0) (ne_eqb d (base d) (λ e. off (sym same ∙ sym e)))
            ∙ cond_same (white d) 0
            ∙ sym (ap (λ t. cond t 1 0) (ne_eqb (base l) d off)))
            (cases_eq (base l) d))
            ∙ one_hit (base l) 0 (members_at s root l) are.ascending ((are.each (base l)).1 near) (λ d. 1)

        bases : sum_by is_base all_whites ≡ length ds
        bases =
            let each = sum_by_same (λ l. sum_by (λ d. cond (white d) (is_base d) 0) (members_at s root l)) 1 ds base_of_cell in
            let sum = sum_over_cells s p root (λ d. cond (white d) (is_base d) 0) ds roots cells in
            let kept = sum_over_kept is_base white (chambers s) in
            omega arith

        turn_crossings : crossings rank turned_rank all_whites + 2 * length ds ≡ 2 * length all_whites
        turn_crossings =
            let each = doubly_listed (crossing rank turned_rank) (λ d e. under d e + under e d) all_whites crossing_is in
            let both = doubly_both under (λ d e. under e d) all_whites in
            let other = sums_exchanged under all_whites all_whites in
            let count = under_base in
            let split = sum_by_both is_base is_other all_whites in
            let ones = sum_by_same (λ d. is_base d + is_other d) 1 all_whites (λ d _. one (eqb d (base d))) in
            let cells_of = bases in
            omega arith
          where
            one : (t : Bool) → cond t 1 0 + cond t 0 1 ≡ 1
            one true = refl
            one false = refl

        -- Modulo 4, a turn has twice the whites less twice the cells.
        pub turn_sign : AreCongruent 4 (crossings (λ d. d) round all_whites + 2 * length ds) (2 * length all_whites)
        turn_sign =
            let own : ℕ → ℕ = λ d. d in
            let moved : (d : ℕ) → Contains all_whites d → Contains all_whites (round d) = λ d here. white_listed (round d) (round_white d (listed_white d here)) in
            let is_own : IsRanking all_whites own = λ d e hd he same. same in
            let is_moved : IsRanking all_whites round = λ d e hd he same. turned_apart s inv p 1 d e (listed_white d hd).0 (listed_white e he).0 same in
            let is_turned : IsRanking all_whites turned_rank = λ d e hd he same. is_moved d e hd he (is_ranking (round d) (round e) (moved d hd) (moved e he) same) in
            let there = crossings_along own rank round all_whites is_own is_ranking is_moved in
            let over = crossings_along rank turned_rank round all_whites is_ranking is_turned is_moved in
            let back = crossings_along own rank own all_whites is_own is_ranking is_own in
            let shifted = crossings_moved round all_whites (sum_over_round) rank own in
            let none = no_crossings own all_whites in
            let turns = turn_crossings in
            let a = there.1 in
            let b = over.1 in
            let c = back.1 in
            record { up = there.0 + over.0; down = back.0; equal = omega arith }
