-- What passes edges, and as much goes into each tile as out of it. Where it is 0 at all edges but one with unlike tiles, it is 0 there.
use Rattle.std.proofs.Common.{◌≡◌, ◌≢◌, ℕ, zero, suc, ◌+◌, ◌*◌, Bool, true, not, cond, List, [], ◌∷◌, ◌++◌, map, refl, sym, ap, ◌∙◌, subst, inl, ⊎_elim, arith}
use Rattle.std.proofs.lemmas.Bool.{cases_Bool}
use Rattle.std.proofs.lemmas.List.{map-append}
use Rattle.std.proofs.lemmas.List.Sums.{sum_by-cons, sum_by-append}
use Rattle.std.specs.List.{Contains, filter, sum_by}
use Rattle.dd_model.specs.declared.index.Index.{Index}
use Rattle.dd_model.specs.declared.index.Index.TheVariants.{Zero, Two}
use Rattle.dd_model.specs.declared.pair.Pair.TheVariants.{Tile, Edge}
use Rattle.dd_model.specs.Symbol.{Symbol, AreInvolutions, IsChamber, IsSymbol, op}
use Rattle.dd_model.specs.Cell.{InCell, IsLeastOfCell, IsPeriod, turned}
use Rattle.dd_model.specs.Code.{chambers, count_from}
use Rattle.dd_model.proofs.CellLists.{cells_exist}
use Rattle.dd_model.proofs.CellWalks.{has_period, in_cell-first, in_cell-refl}
use Rattle.dd_model.proofs.CountFrom.{count_from-more}
use Rattle.dd_model.proofs.Lists.{Contains-head, Contains-later}
use Rattle.dd_cells.proofs.CellSums.{has_roots, members_at, members_at_are, sum_by_both, sum_by_listed, sum_over_cells, Contains-from_filter}
use Rattle.dd_covers.proofs.CellRanks.{all_whites, listed_white, sum_over_kept, sum_over_round}
use Rattle.dd_covers.proofs.WhiteSums.{turned_list, sum_over_turns}
use Rattle.dd_lattice.specs.Edges.{IsOfCells}
use Rattle.dd_lattice.proofs.Around.{commute}
use Rattle.dd_lattice.proofs.Flows.{AreExchanged, one_edge}
use Rattle.dd_lattice.proofs.KindLemmas.{value_of_cell}
use Rattle.dd_lattice.proofs.TileSums.{total}

total_listed : (t : Symbol) (f : ℕ → ℕ) (d n : ℕ) → total t f d n ≡ sum_by f (turned_list t Tile d n)
total_listed t f d zero = refl
total_listed t f d (suc n) =
    let walk : ℕ → ℕ = λ j. turned t Tile j d in
    let rest = total_listed t f d n in
    let e : suc n ≡ n + 1 = omega arith in
    let own : 0 + n ≡ n = omega arith in
    let more : turned_list t Tile d (suc n) ≡ map walk (count_from 0 n) ++ walk (0 + n) ∷ [] =
    ap (λ k. map walk (count_from 0 k)) e ∙ ap (map walk) (count_from-more 0 n) ∙ map-append walk (count_from 0 n) ((0 + n) ∷ []) in
    let split = sum_by-append f (map walk (count_from 0 n)) (walk (0 + n) ∷ []) in
    let last = sum_by-cons f (walk (0 + n)) [] in
    let whole = ap (sum_by f) more in
    let place = ap (λ k. f (walk k)) own in
    omega arith

weighed : (g a : ℕ → ℕ) (w : ℕ) (xs : List ℕ) → ((x : ℕ) → Contains xs x → g x ≡ w) → sum_by (λ x. g x * a x) xs ≡ w * sum_by a xs
weighed g a w [] same = omega arith
weighed g a w (x ∷ xs) same =
    let one = sum_by-cons (λ y. g y * a y) x xs in
    let two = sum_by-cons a x xs in
    let here = ap (λ z. z * a x) (same x (Contains-head x xs)) in
    let rest = weighed g a w xs (λ y later. same y (Contains-later x y xs later)) in
    let whole = ap (λ z. w * z) two in
    omega arith

module _ (t : Symbol) (symbol : IsSymbol t) (white : ℕ → Bool) (exchanged : (i : Index) (d : ℕ) → IsChamber t d → white (op t i d) ≡ not (white d)) where
  abbrev inv : AreInvolutions t
  inv = symbol.table.involutions

  abbrev whites : List ℕ
  whites = all_whites t inv white exchanged

  abbrev root : ℕ → ℕ
  root = (has_roots t inv Tile).root

  abbrev tile : ℕ → List ℕ
  tile j = members_at t root j

  by_tiles : (f : ℕ → ℕ) → sum_by f whites ≡ sum_by (λ j. sum_by f (filter white (tile j))) (cells_exist t inv Tile).0
  by_tiles f =
      let ds = (cells_exist t inv Tile).0 in
      let counted : ℕ → ℕ = λ x. cond (white x) (f x) 0 in
      sum_over_kept f white (chambers t) ∙ sym (sum_over_cells t Tile root counted ds (has_roots t inv Tile).are (cells_exist t inv Tile).1)
      ∙ sum_by_listed (λ j. sum_by counted (tile j)) (λ j. sum_by f (filter white (tile j))) ds (λ j here. sym (sum_over_kept f white (tile j)))

  module _ (out back : ℕ → ℕ) (rounds : (d r : ℕ) → IsChamber t d → IsPeriod t Tile d r → total t out d r ≡ total t back d r) where
    one_tile : (j : ℕ) → IsLeastOfCell t Tile j → sum_by out (filter white (tile j)) ≡ sum_by back (filter white (tile j))
    one_tile j least =
        let are = members_at_are t inv Tile root (has_roots t inv Tile).are j least in
        let from = λ (d : ℕ) (h : IsChamber t d) (w : white d ≡ true) (near : InCell t Tile j d).
        let has = has_period t inv Tile d h in
        let sums = sum_over_turns t inv white exchanged Tile j d has.r h w has.period least.0 near (tile j) are in
        sym (sums out) ∙ sym (total_listed t out d has.r) ∙ rounds d has.r h has.period ∙ total_listed t back d has.r ∙ sums back in
        ⊎_elim
        (λ yes_. from j least.0 yes_ (in_cell-refl t Tile j))
        (λ no_. from (op t Zero j) ((inv Zero).within j least.0) (exchanged Zero j least.0 ∙ ap not no_) (in_cell-first t Tile j j (in_cell-refl t Tile j)))
        (cases_Bool (white j))

    module _ (g : ℕ → ℕ) (of_tiles : IsOfCells t Tile g) where
      all_tiles_even : sum_by (λ d. g d * out d) whites ≡ sum_by (λ d. g d * back d) whites
      all_tiles_even =
          let ds = (cells_exist t inv Tile).0 in
          let each = λ (j : ℕ) (here : Contains ds j).
          let least = ((cells_exist t inv Tile).1.members j).0 here in
          let are = members_at_are t inv Tile root (has_roots t inv Tile).are j least in
          let same : (x : ℕ) → Contains (filter white (tile j)) x → g x ≡ g j =
          λ x listed. value_of_cell t inv Tile g of_tiles j x least.0 ((are.each x).0 (Contains-from_filter white (tile j) x listed).0) in
          weighed g out (g j) (filter white (tile j)) same ∙ ap (λ z. g j * z) (one_tile j least) ∙ sym (weighed g back (g j) (filter white (tile j)) same) in
          by_tiles (λ d. g d * out d) ∙ sum_by_listed (λ j. sum_by (λ d. g d * out d) (filter white (tile j))) (λ j. sum_by (λ d. g d * back d) (filter white (tile j))) ds each ∙ sym (by_tiles (λ d. g d * back d))

      module _ (out_0 : (d : ℕ) → IsChamber t d → out (op t Zero d) ≡ back d) (back_0 : (d : ℕ) → IsChamber t d → back (op t Zero d) ≡ out d)
          (out_2 : (d : ℕ) → IsChamber t d → out (op t Two d) ≡ out d) (back_2 : (d : ℕ) → IsChamber t d → back (op t Two d) ≡ back d) where
        abbrev pub forth : ℕ → ℕ
        forth d = g d * out d + g (op t Two d) * back d

        abbrev pub opposite : ℕ → ℕ
        opposite d = g d * back d + g (op t Two d) * out d

        tile_0 : (d : ℕ) → IsChamber t d → g (op t Zero d) ≡ g d
        tile_0 d h = of_tiles Zero d h (inl refl)

        tile_02 : (d : ℕ) → IsChamber t d → g (op t Two (op t Zero d)) ≡ g (op t Two d)
        tile_02 d h = ap g (commute t symbol d h) ∙ tile_0 (op t Two d) ((inv Two).within d h)

        again : (d : ℕ) → IsChamber t d → g (op t Two (op t Two d)) ≡ g d
        again d h = ap g ((inv Two).involutive d h)

        terms : (a b c e a' b' c' e' : ℕ) → a' ≡ a → b' ≡ b → c' ≡ c → e' ≡ e → a' * b' + c' * e' ≡ a * b + c * e
        terms a b c e a' b' c' e' ha hb hc he = ap (λ z. z * b' + c' * e') ha ∙ ap (λ z. a * z + c' * e') hb ∙ ap (λ z. a * b + z * e') hc ∙ ap (λ z. a * b + c * z) he

        turned_over : (a b : ℕ) → a + b ≡ b + a
        turned_over a b = omega arith

        pub swaps : AreExchanged t symbol white exchanged forth opposite
        swaps i d h holds =
            ⊎_elim
            (λ e. subst (λ j. (forth (op t j d) ≡ opposite d) × (opposite (op t j d) ≡ forth d)) (sym e) (
              terms (g d) (back d) (g (op t Two d)) (out d) (g (op t Zero d)) (out (op t Zero d)) (g (op t Two (op t Zero d))) (back (op t Zero d)) (tile_0 d h) (out_0 d h) (tile_02 d h) (back_0 d h),
              terms (g d) (out d) (g (op t Two d)) (back d) (g (op t Zero d)) (back (op t Zero d)) (g (op t Two (op t Zero d))) (out (op t Zero d)) (tile_0 d h) (back_0 d h) (tile_02 d h) (out_0 d h),
            ))
            (λ e. subst (λ j. (forth (op t j d) ≡ opposite d) × (opposite (op t j d) ≡ forth d)) (sym e) (
              terms (g (op t Two d)) (out d) (g d) (back d) (g (op t Two d)) (out (op t Two d)) (g (op t Two (op t Two d))) (back (op t Two d)) refl (out_2 d h) (again d h) (back_2 d h) ∙ turned_over (g (op t Two d) * out d) (g d * back d),
              terms (g (op t Two d)) (back d) (g d) (out d) (g (op t Two d)) (back (op t Two d)) (g (op t Two (op t Two d))) (out (op t Two d)) refl (back_2 d h) (again d h) (out_2 d h) ∙ turned_over (g (op t Two d) * back d) (g d * out d),
            ))
            holds

        -- what goes across an edge is counted from both sides
        other_side : (a b : ℕ → ℕ) → ((d : ℕ) → IsChamber t d → a (op t Zero d) ≡ b d) → ((d : ℕ) → IsChamber t d → a (op t Two d) ≡ a d) → sum_by (λ d. g (op t Two d) * b d) whites ≡ sum_by (λ d. g d * a d) whites
        other_side a b at_0 at_2 =
            sum_by_listed (λ d. g (op t Two d) * b d) (λ d. g (op t Two (op t Zero d)) * a (op t Two (op t Zero d))) whites (λ d here.
            let h = (listed_white t inv white exchanged d here).0 in
            let across : a (op t Two (op t Zero d)) ≡ b d = at_2 (op t Zero d) ((inv Zero).within d h) ∙ at_0 d h in
            sym (ap (λ z. z * a (op t Two (op t Zero d))) (tile_02 d h) ∙ ap (λ z. g (op t Two d) * z) across))
            ∙ sum_over_round t inv white exchanged Edge (λ d. g d * a d)

        pub even : sum_by forth whites ≡ sum_by opposite whites
        even =
            let a = sum_by_both (λ d. g d * out d) (λ d. g (op t Two d) * back d) whites in
            let b = sum_by_both (λ d. g d * back d) (λ d. g (op t Two d) * out d) whites in
            let c = other_side out back out_0 out_2 in
            let e = other_side back out back_0 back_2 in
            let same = all_tiles_even in
            omega arith

        pub even_at : (e : ℕ) → IsChamber t e → ((x : ℕ) → IsLeastOfCell t Edge x → x ≢ e → forth x ≡ opposite x) → forth e ≡ opposite e
        even_at = one_edge t symbol white exchanged forth opposite swaps even
