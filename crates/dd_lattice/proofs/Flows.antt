-- Round each vertex the differences of the values of tiles add to nothing. Where they are 0 off a tree, they are 0 on it.
use Rattle.std.proofs.Common.{◌≡◌, ◌≢◌, ℕ, ◌+◌, ◌*◌, ◌≤◌, Bool, true, false, not, List, [], ◌∷◌, refl, sym, ap, ◌∙◌, subst, inl, inr, ⊎_elim, arith}
use Rattle.std.proofs.lemmas.Bool.{cases_lt, cases_eq, cases_Bool}
use Rattle.std.proofs.lemmas.List.Sums.{sum_by-cons}
use Rattle.std.specs.List.{Contains, sum_by}
use Rattle.dd_model.specs.declared.index.Index.{Index}
use Rattle.dd_model.specs.declared.index.Index.TheVariants.{Zero, One, Two}
use Rattle.dd_model.specs.declared.pair.Pair.TheVariants.{Tile, Vertex, Edge}
use Rattle.dd_model.specs.Symbol.{Symbol, AreInvolutions, IsChamber, IsSymbol, op}
use Rattle.dd_model.specs.Cell.{IsLeastOfCell}
use Rattle.dd_model.proofs.Lists.{Contains-none, Contains-head, Contains-later, Contains-cases}
use Rattle.dd_cells.proofs.CellSums.{sum_by_listed, sum_by_both}
use Rattle.dd_covers.specs.Ends.{Holds}
use Rattle.dd_covers.proofs.CellRanks.{all_whites, white_listed, listed_white, sum_over_round}
use Rattle.dd_lattice.specs.Edges.{IsOfCells}
use Rattle.dd_lattice.proofs.Around.{commute, through_edge}

-- ## Sums of which no term is greater

sums_below : (f g : ℕ → ℕ) (xs : List ℕ) → ((x : ℕ) → Contains xs x → f x ≤ g x) → sum_by f xs ≤ sum_by g xs
sums_below f g [] below = omega arith
sums_below f g (x ∷ xs) below =
    let a = sum_by-cons f x xs in
    let b = sum_by-cons g x xs in
    let first = below x (Contains-head x xs) in
    let rest = sums_below f g xs (λ y later. below y (Contains-later x y xs later)) in
    omega arith

terms_equal : (f g : ℕ → ℕ) (xs : List ℕ) → ((x : ℕ) → Contains xs x → f x ≤ g x) → sum_by f xs ≡ sum_by g xs → (x : ℕ) → Contains xs x → f x ≡ g x
terms_equal f g [] below same x here = absurd (Contains-none x here)
terms_equal f g (y ∷ xs) below same x here =
    let a = sum_by-cons f y xs in
    let b = sum_by-cons g y xs in
    let first = below y (Contains-head y xs) in
    let rest = sums_below f g xs (λ z later. below z (Contains-later y z xs later)) in
    ⊎_elim
    (λ at. subst (λ z. f z ≡ g z) at (omega arith))
    (λ later. terms_equal f g xs (λ z h. below z (Contains-later y z xs h)) (omega arith) x later)
    (Contains-cases y x xs here)

module _ (t : Symbol) (symbol : IsSymbol t) (white : ℕ → Bool) (exchanged : (i : Index) (d : ℕ) → IsChamber t d → white (op t i d) ≡ not (white d)) where
  abbrev inv : AreInvolutions t
  inv = symbol.table.involutions

  abbrev pub listed : List ℕ
  listed = all_whites t inv white exchanged

  -- two functions of chambers that s0 and s2 exchange
  abbrev pub AreExchanged : (ℕ → ℕ) → (ℕ → ℕ) → Type 0
  AreExchanged x y = (i : Index) (d : ℕ) → IsChamber t d → Holds Edge i → (x (op t i d) ≡ y d) × (y (op t i d) ≡ x d)

  -- the first is no greater at white chambers, and the second at others
  abbrev IsBelowAt : (ℕ → ℕ) → (ℕ → ℕ) → ℕ → Type 0
  IsBelowAt x y d = (white d ≡ true → x d ≤ y d) × (white d ≡ false → y d ≤ x d)

  below_beside : (x y : ℕ → ℕ) → AreExchanged x y → (i : Index) (d : ℕ) → IsChamber t d → Holds Edge i → IsBelowAt x y d → IsBelowAt x y (op t i d)
  below_beside x y swap i d h holds below =
      let s = swap i d h holds in
      let other = exchanged i d h in
      let a = s.0 in
      let b = s.1 in
      ⊎_elim
      (λ w. (λ yes_. absurd (let n = ap not w in cc), λ no_. let l = below.0 w in omega arith))
      (λ w. (λ yes_. let l = below.1 w in omega arith, λ no_. absurd (let n = ap not w in cc)))
      (cases_Bool (white d))

  equal_at : (x y : ℕ → ℕ) → AreExchanged x y → sum_by x listed ≡ sum_by y listed → ((e : ℕ) → IsLeastOfCell t Edge e → IsBelowAt x y e) → (d : ℕ) → IsChamber t d → x d ≡ y d
  equal_at x y swap same at d h =
      let whites = λ (c : ℕ) (hc : IsChamber t c) (w : white c ≡ true).
      terms_equal x y listed (λ z here. let wz = listed_white t inv white exchanged z here in (through_edge t symbol (IsBelowAt x y) (below_beside x y swap) at z wz.0).0 wz.1) same c
      (white_listed t inv white exchanged c (hc, w)) in
      ⊎_elim
      (λ w. whites d h w)
      (λ w.
      let s = swap Zero d h (inl refl) in
      let there = whites (op t Zero d) ((inv Zero).within d h) (exchanged Zero d h ∙ ap not w) in
      sym s.1 ∙ sym there ∙ s.0)
      (cases_Bool (white d))

  around_edge : (x y : ℕ → ℕ) (e : ℕ) → IsBelowAt x y e → ((z : ℕ) → IsLeastOfCell t Edge z → z ≢ e → x z ≡ y z) → (z : ℕ) → IsLeastOfCell t Edge z → IsBelowAt x y z
  around_edge x y e below rest z is =
      ⊎_elim
      (λ same. subst (IsBelowAt x y) (sym same) below)
      (λ off. let equal = rest z is off in (λ yes_. omega arith, λ no_. omega arith))
      (cases_eq z e)

  -- two functions with equal sums that are equal at all edges but one are so at that one, too
  pub one_edge : (x y : ℕ → ℕ) → AreExchanged x y → sum_by x listed ≡ sum_by y listed → (e : ℕ) → IsChamber t e → ((z : ℕ) → IsLeastOfCell t Edge z → z ≢ e → x z ≡ y z) → x e ≡ y e
  one_edge x y swap same e own others =
      let there : AreExchanged y x = λ i d hd holds. let s = swap i d hd holds in (s.1, s.0) in
      let first = λ (below : IsBelowAt x y e). equal_at x y swap same (around_edge x y e below others) e own in
      let second = λ (below : IsBelowAt y x e). sym (equal_at y x there (sym same) (around_edge y x e below (λ z is off. sym (others z is off))) e own) in
      ⊎_elim
      (λ w. ⊎_elim
      (λ less. first (λ yes_. omega arith, λ no_. absurd (cc)))
      (λ more. second (λ yes_. more, λ no_. absurd (cc)))
      (cases_lt (x e) (y e)))
      (λ w. ⊎_elim
      (λ less. second (λ yes_. absurd (cc), λ no_. omega arith))
      (λ more. first (λ yes_. absurd (cc), λ no_. more))
      (cases_lt (x e) (y e)))
      (cases_Bool (white e))

  module _ (h g : ℕ → ℕ) (of_vertices : IsOfCells t Vertex h) (of_tiles : IsOfCells t Tile g) where
    -- what an edge has, once with the values exchanged along it, and once with those across it
    abbrev pub straight : ℕ → ℕ
    straight d = h (op t Zero d) * g (op t Two d) + h d * g d

    abbrev pub crossed : ℕ → ℕ
    crossed d = h d * g (op t Two d) + h (op t Zero d) * g d

    chamber : (d : ℕ) → Contains listed d → IsChamber t d
    chamber d here = (listed_white t inv white exchanged d here).0

    round_vertices : sum_by (λ d. h d * g d) listed ≡ sum_by (λ d. h d * g (op t Two d)) listed
    round_vertices =
        sum_by_listed (λ d. h d * g d) (λ d. h (op t Two (op t One d)) * g (op t Two (op t Two (op t One d)))) listed (λ d here.
        let own = chamber d here in
        let there = (inv One).within d own in
        let a : h (op t Two (op t One d)) ≡ h d = of_vertices Two (op t One d) there (inr refl) ∙ of_vertices One d own (inl refl) in
        let b : g (op t Two (op t Two (op t One d))) ≡ g d = ap g ((inv Two).involutive (op t One d) there) ∙ of_tiles One d own (inr refl) in
        sym (ap (λ z. z * g (op t Two (op t Two (op t One d)))) a ∙ ap (λ z. h d * z) b))
        ∙ sum_over_round t inv white exchanged Vertex (λ d. h d * g (op t Two d))

    along_edges : sum_by (λ d. h (op t Zero d) * g (op t Two d)) listed ≡ sum_by (λ d. h d * g d) listed
    along_edges =
        sum_by_listed (λ d. h (op t Zero d) * g (op t Two d)) (λ d. h (op t Two (op t Zero d)) * g (op t Two (op t Zero d))) listed (λ d here.
        let own = chamber d here in
        let a : h (op t Two (op t Zero d)) ≡ h (op t Zero d) = of_vertices Two (op t Zero d) ((inv Zero).within d own) (inr refl) in
        let b : g (op t Two (op t Zero d)) ≡ g (op t Two d) = ap g (commute t symbol d own) ∙ of_tiles Zero (op t Two d) ((inv Two).within d own) (inl refl) in
        sym (ap (λ z. z * g (op t Two (op t Zero d))) a ∙ ap (λ z. h (op t Zero d) * z) b))
        ∙ sum_over_round t inv white exchanged Edge (λ d. h d * g d)

    across_edges : sum_by (λ d. h (op t Zero d) * g d) listed ≡ sum_by (λ d. h d * g (op t Two d)) listed
    across_edges =
        sum_by_listed (λ d. h (op t Zero d) * g d) (λ d. h (op t Two (op t Zero d)) * g (op t Two (op t Two (op t Zero d)))) listed (λ d here.
        let own = chamber d here in
        let there = (inv Zero).within d own in
        let a : h (op t Two (op t Zero d)) ≡ h (op t Zero d) = of_vertices Two (op t Zero d) there (inr refl) in
        let b : g (op t Two (op t Two (op t Zero d))) ≡ g d = ap g ((inv Two).involutive (op t Zero d) there) ∙ of_tiles Zero d own (inl refl) in
        sym (ap (λ z. z * g (op t Two (op t Two (op t Zero d)))) a ∙ ap (λ z. h (op t Zero d) * z) b))
        ∙ sum_over_round t inv white exchanged Edge (λ d. h d * g (op t Two d))

    equal_sums : sum_by straight listed ≡ sum_by crossed listed
    equal_sums =
        let a = sum_by_both (λ d. h (op t Zero d) * g (op t Two d)) (λ d. h d * g d) listed in
        let b = sum_by_both (λ d. h d * g (op t Two d)) (λ d. h (op t Zero d) * g d) listed in
        let one = round_vertices in
        let two = along_edges in
        let three = across_edges in
        omega arith

    exchanged_sides : AreExchanged straight crossed
    exchanged_sides i d own holds =
        ⊎_elim
        (λ e. subst (λ j. (straight (op t j d) ≡ crossed d) × (crossed (op t j d) ≡ straight d)) (sym e) (by_zero))
        (λ e. subst (λ j. (straight (op t j d) ≡ crossed d) × (crossed (op t j d) ≡ straight d)) (sym e) (by_two))
        holds
      where
        back : h (op t Zero (op t Zero d)) ≡ h d
        back = ap h ((inv Zero).involutive d own)

        tile_0 : g (op t Zero d) ≡ g d
        tile_0 = of_tiles Zero d own (inl refl)

        tile_02 : g (op t Two (op t Zero d)) ≡ g (op t Two d)
        tile_02 = ap g (commute t symbol d own) ∙ of_tiles Zero (op t Two d) ((inv Two).within d own) (inl refl)

        by_zero : (straight (op t Zero d) ≡ crossed d) × (crossed (op t Zero d) ≡ straight d)
        by_zero = (
          ap (λ z. z * g (op t Two (op t Zero d)) + h (op t Zero d) * g (op t Zero d)) back ∙ ap (λ z. h d * z + h (op t Zero d) * g (op t Zero d)) tile_02 ∙ ap (λ z. h d * g (op t Two d) + h (op t Zero d) * z) tile_0,
          ap (λ z. h (op t Zero d) * g (op t Two (op t Zero d)) + z * g (op t Zero d)) back ∙ ap (λ z. h (op t Zero d) * z + h d * g (op t Zero d)) tile_02 ∙ ap (λ z. h (op t Zero d) * g (op t Two d) + h d * z) tile_0,
        )

        again : g (op t Two (op t Two d)) ≡ g d
        again = ap g ((inv Two).involutive d own)

        vertex_2 : h (op t Two d) ≡ h d
        vertex_2 = of_vertices Two d own (inr refl)

        vertex_02 : h (op t Zero (op t Two d)) ≡ h (op t Zero d)
        vertex_02 = ap h (sym (commute t symbol d own)) ∙ of_vertices Two (op t Zero d) ((inv Zero).within d own) (inr refl)

        turned_sum : (a b : ℕ) → a + b ≡ b + a
        turned_sum a b = omega arith

        by_two : (straight (op t Two d) ≡ crossed d) × (crossed (op t Two d) ≡ straight d)
        by_two = (
          ap (λ z. z * g (op t Two (op t Two d)) + h (op t Two d) * g (op t Two d)) vertex_02 ∙ ap (λ z. h (op t Zero d) * z + h (op t Two d) * g (op t Two d)) again ∙ ap (λ z. h (op t Zero d) * g d + z * g (op t Two d)) vertex_2
              ∙ turned_sum (h (op t Zero d) * g d) (h d * g (op t Two d)),
          ap (λ z. h (op t Two d) * g (op t Two (op t Two d)) + z * g (op t Two d)) vertex_02 ∙ ap (λ z. h (op t Two d) * z + h (op t Zero d) * g (op t Two d)) again ∙ ap (λ z. z * g d + h (op t Zero d) * g (op t Two d)) vertex_2
              ∙ turned_sum (h d * g d) (h (op t Zero d) * g (op t Two d)),
        )

    -- where all edges but one have the same both ways, that one has, too
    pub same_at : (e : ℕ) → IsChamber t e → ((x : ℕ) → IsLeastOfCell t Edge x → x ≢ e → straight x ≡ crossed x) → straight e ≡ crossed e
    same_at = one_edge straight crossed exchanged_sides equal_sums
