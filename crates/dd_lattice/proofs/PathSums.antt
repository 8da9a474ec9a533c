-- A path goes out of each tile as often as into it, but for its ends.
use Rattle.std.proofs.Common.{◌≡◌, ◌≢◌, ℕ, ◌+◌, ◌-◌, Bool, true, false, not, cond, List, length, set, sym, ap, ◌∙◌, ⊎_elim, arith}
use Rattle.std.proofs.lemmas.Bool.{cases_eq}
use Rattle.std.proofs.lemmas.List.{get_or-set_same, get_or-set_other}
use Rattle.dd_model.specs.declared.index.Index.{Index}
use Rattle.dd_model.specs.declared.index.Index.TheVariants.{Zero, Two}
use Rattle.dd_model.specs.declared.pair.Pair.TheVariants.{Tile}
use Rattle.dd_model.specs.Symbol.{Symbol, AreInvolutions, IsChamber, IsSymbol, op}
use Rattle.dd_model.specs.Cell.{IsPeriod, turned}
use Rattle.dd_model.proofs.Turns.{turned_within}
use Rattle.dd_cells.proofs.CellSums.{AreRoots}
use Rattle.dd_lattice.specs.Paths.{mark}
use Rattle.dd_lattice.specs.Steps.{flag, across}
use Rattle.dd_lattice.proofs.Around.{commute}
use Rattle.dd_lattice.proofs.TileSums.{one, one_same, one_at, one_off, total, total_same, total_both, hits_total}

-- how often a path goes out of the tile of d, and how often into it
abbrev pub out_of : Symbol → List Bool → ℕ → ℕ → ℕ
out_of t exits d r = total t (λ c. mark exits c + mark exits (op t Zero c)) d r

abbrev pub into : Symbol → List Bool → ℕ → ℕ → ℕ
into t exits d r = total t (λ c. mark exits (op t Two c) + mark exits (op t Zero (op t Two c))) d r

pub mark_at : (exits : List Bool) (d : ℕ) → flag exits d ≡ true → mark exits d ≡ 1
mark_at exits d e = ap (λ b. cond b 1 0) e

pub mark_off : (exits : List Bool) (d : ℕ) → flag exits d ≡ false → mark exits d ≡ 0
mark_off exits d e = ap (λ b. cond b 1 0) e

module _ (t : Symbol) (exits : List Bool) (whole : length exits ≡ t.size) (c : ℕ) (hc : IsChamber t c) (none : flag exits c ≡ false) where
  abbrev more : List Bool
  more = set exits (c - 1) true

  pub flag_here : flag more c ≡ true
  flag_here = get_or-set_same exits (c - 1) true false (let h = hc.0 in let g = hc.1 in omega arith)

  pub flag_there : (d : ℕ) → IsChamber t d → d ≢ c → flag more d ≡ flag exits d
  flag_there d h off = let a = h.0 in let b = hc.0 in get_or-set_other exits (c - 1) (d - 1) true false (λ e. off (omega arith))

  mark_more : (d : ℕ) → IsChamber t d → mark more d ≡ mark exits d + one d c
  mark_more d h =
      ⊎_elim
      (λ e.
      let now = mark_at more d (ap (flag more) e ∙ flag_here) in
      let old = mark_off exits d (ap (flag exits) e ∙ none) in
      let hit = one_at d c e in
      omega arith)
      (λ off.
      let now : mark more d ≡ mark exits d = ap (λ b. cond b 1 0) (flag_there d h off) in
      let miss = one_off d c off in
      omega arith)
      (cases_eq d c)

  module _ (symbol : IsSymbol t) (color : ℕ → Bool) (exchanged : (i : Index) (d : ℕ) → IsChamber t d → color (op t i d) ≡ not (color d)) (root : ℕ → ℕ) (roots : AreRoots t Tile root)
      (d r : ℕ) (hd : IsChamber t d) (period : IsPeriod t Tile d r) where
    abbrev inv : AreInvolutions t
    inv = symbol.table.involutions

    abbrev walk : ℕ → ℕ
    walk j = turned t Tile j d

    here : (j : ℕ) → IsChamber t (walk j)
    here j = turned_within t inv Tile j d hd

    pub out_more : out_of t more d r ≡ out_of t exits d r + one (root d) (root c)
    out_more =
        let each : (j : ℕ) → mark more (walk j) + mark more (op t Zero (walk j)) ≡ (mark exits (walk j) + mark exits (op t Zero (walk j))) + (one (walk j) c + one (op t Zero (walk j)) c) =
        λ j. let a = mark_more (walk j) (here j) in let b = mark_more (op t Zero (walk j)) ((inv Zero).within (walk j) (here j)) in omega arith in
        total_same t (λ x. mark more x + mark more (op t Zero x)) (λ x. (mark exits x + mark exits (op t Zero x)) + (one x c + one (op t Zero x) c)) d r each
        ∙ total_both t (λ x. mark exits x + mark exits (op t Zero x)) (λ x. one x c + one (op t Zero x) c) d r
        ∙ ap (λ n. out_of t exits d r + n) (hits_total t inv color exchanged root roots d c r hd hc period)

    abbrev beyond : ℕ
    beyond = across t c

    hb : IsChamber t beyond
    hb = (inv Zero).within (op t Two c) ((inv Two).within c hc)

    -- s2 leads to c from beside the chamber beyond, and s0 after it from that chamber
    first_hit : (x : ℕ) → IsChamber t x → one (op t Two x) c ≡ one (op t Zero x) beyond
    first_hit x h =
        one_same (op t Two x) c (op t Zero x) beyond
        (λ e. ap (op t Zero) (sym ((inv Two).involutive x h) ∙ ap (op t Two) e))
        (λ e. ap (op t Two) (sym ((inv Zero).involutive x h) ∙ ap (op t Zero) e ∙ (inv Zero).involutive (op t Two c) ((inv Two).within c hc)) ∙ (inv Two).involutive c hc)

    second_hit : (x : ℕ) → IsChamber t x → one (op t Zero (op t Two x)) c ≡ one x beyond
    second_hit x h =
        let x2 = op t Two x in
        let h2 = (inv Two).within x h in
        one_same (op t Zero x2) c x beyond
        (λ e.
        let up : x2 ≡ op t Zero c = sym ((inv Zero).involutive x2 h2) ∙ ap (op t Zero) e in
        sym ((inv Two).involutive x h) ∙ ap (op t Two) up ∙ commute t symbol c hc)
        (λ e. ap (λ z. op t Zero (op t Two z)) (e ∙ sym (commute t symbol c hc)) ∙ ap (op t Zero) ((inv Two).involutive (op t Zero c) ((inv Zero).within c hc)) ∙ (inv Zero).involutive c hc)

    pub into_more : into t more d r ≡ into t exits d r + one (root d) (root beyond)
    into_more =
        let each : (j : ℕ) → mark more (op t Two (walk j)) + mark more (op t Zero (op t Two (walk j))) ≡ (mark exits (op t Two (walk j)) + mark exits (op t Zero (op t Two (walk j)))) + (one (walk j) beyond + one (op t Zero (walk j)) beyond) =
        λ j.
        let h2 = (inv Two).within (walk j) (here j) in
        let a = mark_more (op t Two (walk j)) h2 in
        let b = mark_more (op t Zero (op t Two (walk j))) ((inv Zero).within (op t Two (walk j)) h2) in
        let x = first_hit (walk j) (here j) in
        let y = second_hit (walk j) (here j) in
        omega arith in
        total_same t (λ x. mark more (op t Two x) + mark more (op t Zero (op t Two x))) (λ x. (mark exits (op t Two x) + mark exits (op t Zero (op t Two x))) + (one x beyond + one (op t Zero x) beyond)) d r each
        ∙ total_both t (λ x. mark exits (op t Two x) + mark exits (op t Zero (op t Two x))) (λ x. one x beyond + one (op t Zero x) beyond) d r
        ∙ ap (λ n. into t exits d r + n) (hits_total t inv color exchanged root roots d beyond r hd hb period)
