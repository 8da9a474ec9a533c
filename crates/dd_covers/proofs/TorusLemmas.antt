-- What the four rules give is a torus.
use Rattle.std.proofs.Common.{◌≡◌, ℕ, zero, suc, ◌+◌, ◌-◌, ◌*◌, ◌/◌, ◌%◌, ◌<◌, ◌≤◌, ◌++◌, refl, sym, ap, ◌∙◌, subst, inl, inr, ⊎_elim, arith}
use Rattle.std.proofs.lemmas.Bool.{cases_lt}
use Rattle.std.proofs.lemmas.Nat.{same_from_place}
use Rattle.dd_model.specs.declared.index.Index.{Index}
use Rattle.dd_model.specs.declared.pair.Pair.{Pair}
use Rattle.dd_model.specs.Symbol.{Symbol, IsSymbol, IsChamber, item, act, power, turn, degree}
use Rattle.dd_model.specs.Connected.{IsReached, Connected}
use Rattle.dd_model.specs.Cell.{InCell, turned, IsLeastTurns, IsBranching}
use Rattle.dd_model.specs.Flat.{Flat}
use Rattle.dd_model.proofs.Branching.{branching_exists, degree_same}
use Rattle.dd_model.proofs.CellWalks.{HasPeriod, has_period}
use Rattle.dd_model.proofs.Transport.{in_cell-along, in_cell_within, degree-along}
use Rattle.dd_model.proofs.Turns.{period_divides, turned-mul, least_turns_unique, IsLeastTurns-from_period}
use Rattle.dd_model.proofs.Words.{act-append, act_within}
use Rattle.dd_model.proofs.Numbers.{whole_quotient}
use Rattle.dd_cells.specs.Fraction.{Divides}
use Rattle.dd_cells.specs.Orientation.{IsOriented, color}
use Rattle.dd_cells.proofs.FractionLemmas.{same_factor}
use Rattle.dd_cells.proofs.MemberLemmas.{period_from_turns, value_positive}
use Rattle.dd_cells.proofs.ReciprocalSums.{product_of_quotient, quotient_is}
use Rattle.dd_covers.specs.PlaneValues.{IsGreatestValue}
use Rattle.dd_covers.specs.Sheets.{sheets_of, below_sheets}
use Rattle.dd_covers.specs.Torus.{IsTorus}
use Rattle.dd_covers.specs.TorusCover.{sum_along, AreTorusShifts}
use Rattle.dd_covers.proofs.ClosedWalks.{sum-append, sum_of_turns, power_times}
use Rattle.dd_covers.proofs.Congruences.{AreCongruent, congruent_same, congruent_on, remainders, remainder_none, mod_congruent}
use Rattle.dd_covers.proofs.FlatSheets.{flat-sheets}
use Rattle.dd_covers.proofs.OrientedLemmas.{oriented_by, leads_between}
use Rattle.dd_covers.proofs.PlaneUses.{plane_multiples}
use Rattle.dd_covers.proofs.SheetLemmas.{AreJoining, place_in, act_in, below_in, mod_same, symbol-sheets, morphism-sheets}
use Rattle.dd_covers.proofs.Units.{IsUnit, unit_round}

-- ## Units

-- v units are a whole round
round_of_units : (k u v total : ℕ) → v * u ≡ k → IsUnit k u total → AreCongruent k (v * total) 0
round_of_units k u v total whole (inl c) =
    let p = ap (λ z. v * z) c.equal in
    record { up = v * c.up; down = v * c.down + 1; equal = omega arith }
round_of_units k u v total whole (inr c) =
    let p = ap (λ z. v * z) c.equal in
    record { up = v * c.up + 1; down = v * c.down; equal = omega arith }

-- as many units as totals
units_of_totals : (k u q total : ℕ) → IsUnit k u total → AreCongruent k (q * total) 0 → AreCongruent k (q * u) 0
units_of_totals k u q total (inl c) none =
    let p = ap (λ z. q * z) c.equal in
    let e = none.equal in
    record { up = q * c.down + none.up; down = q * c.up + none.down; equal = omega arith }
units_of_totals k u q total (inr c) none =
    let p = ap (λ z. q * z) c.equal in
    let e = none.equal in
    record { up = q * c.up + none.down; down = q * c.down + none.up; equal = omega arith }

-- so many totals as lead from one sheet to another
pub record AreTurns (k total from to : ℕ) : Type 0 where
  pub turns : ℕ
  pub leads : AreCongruent k (from + turns * total) to

turns_between : (k total from to : ℕ) → 1 ≤ k → IsUnit k 1 total → AreTurns k total from to
turns_between zero total from to some unit = absurd (omega arith)
turns_between (suc k) total from to some (inl c) =
    let j = to + k * from in
    let p = ap (λ z. j * z) c.equal in
    record { turns = j; leads = record { up = j * c.up; down = j * c.down + from; equal = omega arith } }
turns_between (suc k) total from to some (inr c) =
    let j = from + k * to in
    let p = ap (λ z. j * z) c.equal in
    record { turns = j; leads = record { up = j * c.up + to; down = j * c.down; equal = omega arith } }

-- ## Branching values

last_value : (w q v up down : ℕ) → 1 ≤ q → 1 ≤ v → w * q ≡ v → q + up * v ≡ down * v → w ≡ 1
last_value w q v up down some pos e f =
    ⊎_elim
    (λ more.
    let j = down - up - 1 in
    let d : down ≡ up + 1 + j = omega arith in
    let g : q ≡ v + j * v = let h = ap (λ z. z * v) d in omega arith in
    by_value w q v j some pos e g)
    (λ less.
    let j = up - down in
    let d : up ≡ down + j = omega arith in
    let h = ap (λ z. z * v) d in
    absurd (omega arith))
    (cases_lt up down) where
      by_value : (w q v j : ℕ) → 1 ≤ q → 1 ≤ v → w * q ≡ v → q ≡ v + j * v → w ≡ 1
      by_value zero q v j some pos e g = absurd (omega arith)
      by_value (suc zero) q v j some pos e g = refl
      by_value (suc (suc w)) q v j some pos e g = absurd (omega arith)

module _ (s : Symbol) (is : IsSymbol s) (k : ℕ) (x : Index → ℕ → ℕ) (shifts : AreTorusShifts s k x)
    (great : IsGreatestValue s k) (multiple : (p : Pair) (d v : ℕ) → IsChamber s d → IsBranching s p d v → Divides v k) where
  some_sheets : 1 ≤ k
  some_sheets = value_positive s is great.pair great.chamber k great.is_chamber great.branching

  whole_round : (p : Pair) (d v : ℕ) → IsChamber s d → IsBranching s p d v → v * (k / v) ≡ k
  whole_round p d v h b =
      let e : k / v * v ≡ k = product_of_quotient v k (value_positive s is p d v h b) (multiple p d v h b) in omega arith

  round_none : (p : Pair) (d : ℕ) → IsChamber s d → sum_along s x (power (turn p) (degree s p d)) d % k ≡ 0
  round_none p d h =
      let b = branching_exists s is p d h in
      let v = b.0 in
      let r = b.1.r in
      let back = (period_from_turns s is.table.involutions p d r h b.1.least_turns).fixed in
      let unit = unit_round s is k x shifts p d r v h b.1.least_turns b.1 in
      let none = round_of_units k (k / v) v (sum_along s x (power (turn p) r) d) (whole_round p d v h b.1) unit in
      let e : sum_along s x (power (turn p) (degree s p d)) d ≡ v * sum_along s x (power (turn p) r) d =
      ap (λ m. sum_along s x (power (turn p) m) d) (sym b.1.quotient) ∙ ap (λ w. sum_along s x w d) (sym (power_times (turn p) v r))
      ∙ sum_of_turns s x (power (turn p) r) d back v in
      ap (λ z. z % k) e ∙ remainder_none k (v * sum_along s x (power (turn p) r) d) none

  pub joining : AreJoining s k x
  joining = record { some = some_sheets; undone = shifts.opposite; round = round_none }

  -- ## Every branching value is 1

  -- Turns that fix a chamber of the sheets fix the one below, and go round it as often as v, or a multiple of it.
  smooth_value : (p : Pair) (d r q v w : ℕ) → IsChamber s d → IsLeastTurns s p d r → (b : IsBranching s p d v) → 1 ≤ q
      → AreCongruent k (q * sum_along s x (power (turn p) r) d) 0 → w * (q * r) ≡ degree s p d → w ≡ 1
  smooth_value p d r q v w h turns b some none degree_is =
      let unit = unit_round s is k x shifts p d r v h turns b in
      let whole = whole_round p d v h b in
      let pos = value_positive s is p d v h b in
      let c = units_of_totals k (k / v) q (sum_along s x (power (turn p) r) d) unit none in
      let u : 1 ≤ k / v = unit_positive (k / v) v k whole some_sheets in
      let up = ap (λ z. c.up * z) (sym whole) in
      let down = ap (λ z. c.down * z) (sym whole) in
      let e = c.equal in
      let f : q + c.up * v ≡ c.down * v = same_factor (q + c.up * v) (c.down * v) (k / v) u (omega arith) in
      let same : b.r ≡ r = least_turns_unique s p d b.r r b.least_turns turns in
      let quotient : v * r ≡ degree s p d = ap (λ z. v * z) (sym same) ∙ b.quotient in
      let g : w * q ≡ v = same_factor (w * q) v r turns.positive (omega arith) in
      last_value w q v c.up c.down some pos g f where
        unit_positive : (u v k : ℕ) → v * u ≡ k → 1 ≤ k → 1 ≤ u
        unit_positive zero v k whole some = absurd (omega arith)
        unit_positive (suc u) v k whole some = omega arith

  smooth_at : (p : Pair) (e w : ℕ) → IsChamber (sheets_of s k x) e → IsBranching (sheets_of s k x) p e w → w ≡ 1
  smooth_at p e w h b =
      let t = sheets_of s k x in
      let inv = is.table.involutions in
      let it = symbol-sheets s is k x joining in
      let m = morphism-sheets s is k x in
      let f = below_sheets s k in
      let far = b.least_turns.chamber in
      let hfar = in_cell_within t it.table.involutions p e far h b.least_turns.in_cell in
      let at = place_in s k far hfar.0 hfar.1 in
      let d = at.chamber in
      let turns = period_of_cell p d at.is_chamber in
      let fixed : turned t p b.r (d + at.sheet * s.size) ≡ d + at.sheet * s.size = subst (λ z. turned t p b.r z ≡ z) (sym at.place) b.least_turns.fixed in
      let moved = act_in s inv k x (power (turn p) b.r) d at.sheet at.is_chamber at.is_sheet in
      let apart = same_place s.size (turned s p b.r d) ((at.sheet + sum_along s x (power (turn p) b.r) d) % k) d at.sheet
      (act_within s inv (power (turn p) b.r) d at.is_chamber) at.is_chamber (sym moved ∙ fixed) in
      let divides : b.r % turns.r ≡ 0 = period_divides s p d turns.r b.r turns.period apart.0 in
      let q = b.r / turns.r in
      let whole : q * turns.r ≡ b.r = whole_quotient b.r turns.r turns.period.positive divides in
      let along : sum_along s x (power (turn p) b.r) d ≡ q * sum_along s x (power (turn p) turns.r) d =
      ap (λ n. sum_along s x (power (turn p) n) d) (sym whole) ∙ ap (λ u. sum_along s x u d) (sym (power_times (turn p) q turns.r))
      ∙ sum_of_turns s x (power (turn p) turns.r) d turns.period.fixed q in
      let none : AreCongruent k (q * sum_along s x (power (turn p) turns.r) d) 0 =
      congruent_on k _ _ 0 (congruent_same k _ _ (sym along))
      (no_shift at.sheet (sum_along s x (power (turn p) b.r) d) apart.1) in
      let here = branching_exists s is p d at.is_chamber in
      let deg : degree t p e ≡ degree s p d =
      sym (degree-along t s f m p e h) ∙ degree_of_cell p e far h b.least_turns.in_cell ∙ ap (λ z. degree s p (item f z)) (sym at.place) ∙ ap (degree s p) (below_in s k d at.sheet at.is_chamber at.is_sheet) in
      smooth_value p d turns.r q here.0 w at.is_chamber (IsLeastTurns-from_period s inv p d turns.r at.is_chamber turns.period) here.1
      (positive_factor q turns.r b.r whole b.least_turns.positive) none
      (ap (λ z. w * z) whole ∙ b.quotient ∙ deg) where
        period_of_cell : (p : Pair) (d : ℕ) → IsChamber s d → HasPeriod s p d
        period_of_cell p d h = has_period s is.table.involutions p d h

        same_place : (n c a d b : ℕ) → (1 ≤ c) × (c ≤ n) → (1 ≤ d) × (d ≤ n) → c + a * n ≡ d + b * n → (c ≡ d) × (a ≡ b)
        same_place n c a d b hc hd e =
            let f : a * n + (c - 1) ≡ b * n + (d - 1) = omega (arith, hc.0, hd.0) in
            let g = same_from_place a (c - 1) b (d - 1) n (omega (arith, hc.0, hc.1)) (omega (arith, hd.0, hd.1)) f in
            (let z = g.1 in omega (arith, hc.0, hd.0), g.0)

        no_shift : (a y : ℕ) → (a + y) % k ≡ a → AreCongruent k y 0
        no_shift a y e =
            let c = mod_congruent k (a + y) in
            let p = c.equal in
            record { up = c.down; down = c.up; equal = omega arith }

        positive_factor : (q r n : ℕ) → q * r ≡ n → 1 ≤ n → 1 ≤ q
        positive_factor zero r n e some = absurd (omega arith)
        positive_factor (suc q) r n e some = omega arith

        degree_of_cell : (p : Pair) (e far : ℕ) → IsChamber (sheets_of s k x) e → InCell (sheets_of s k x) p e far
            → degree s p (item (below_sheets s k) e) ≡ degree s p (item (below_sheets s k) far)
        degree_of_cell p e far h there =
            let t = sheets_of s k x in
            let it = symbol-sheets s is k x joining in
            let m = morphism-sheets s is k x in
            let f = below_sheets s k in
            let c = in_cell-along t s f it.table.involutions m p e far h there in
            sym (ap (degree s p) (sym c.leads) ∙ degree_same s is p c.word (item f e) (m.within e h) c.letters)

  -- ## All sheets hang together by a cell with v equal to k

  reached_in : Connected s → (d a : ℕ) → IsChamber s d → a < k → IsReached (sheets_of s k x) (d + a * s.size)
  reached_in all d a h below =
      let inv = is.table.involutions in
      let c = great.chamber in
      let b = great.branching in
      let one : k / k ≡ 1 = whole_of_itself k some_sheets in
      let unit = subst (λ u. IsUnit k u (sum_along s x (power (turn great.pair) b.r) c)) one
      (unit_round s is k x shifts great.pair c b.r k great.is_chamber b.least_turns b) in
      let there = all c great.is_chamber in
      let on = leads_between s inv all c d great.is_chamber h in
      let back = (period_from_turns s inv great.pair c b.r great.is_chamber b.least_turns).fixed in
      let start = sum_along s x there.word 1 in
      let end = sum_along s x on.word c in
      let j = turns_between k (sum_along s x (power (turn great.pair) b.r) c) (start + end) a some_sheets unit in
      let turns = power (power (turn great.pair) b.r) j.turns in
      let closed : act s turns c ≡ c = ap (λ w. act s w c) (power_times (turn great.pair) j.turns b.r) ∙ turned-mul s great.pair b.r c back j.turns in
      let word = there.word ++ turns ++ on.word in
      let first_leads : act s (there.word ++ turns) 1 ≡ c = act-append s there.word turns 1 ∙ ap (act s turns) there.leads ∙ closed in
      let leads : act s word 1 ≡ d = act-append s (there.word ++ turns) on.word 1 ∙ ap (act s on.word) first_leads ∙ on.leads in
      let split = sum-append s x (there.word ++ turns) on.word 1 in
      let inner = sum-append s x there.word turns 1 in
      let far = ap (sum_along s x on.word) first_leads in
      let middle = ap (sum_along s x turns) there.leads in
      let round = sum_of_turns s x (power (turn great.pair) b.r) c back j.turns in
      let sum : 0 + sum_along s x word 1 ≡ start + end + j.turns * sum_along s x (power (turn great.pair) b.r) c = omega arith in
      let sheet : (0 + sum_along s x word 1) % k ≡ a = ap (λ z. z % k) sum ∙ remainders k _ a j.leads ∙ mod_same a k below in
      let chamber : IsChamber s 1 = (omega arith, is.table.chambers) in
      let origin : 1 + 0 * s.size ≡ 1 = omega arith in
      record {
        word = word;
        leads = ap (act (sheets_of s k x) word) (sym origin) ∙ act_in s inv k x word 1 0 chamber some_sheets
            ∙ ap (λ z. z + (0 + sum_along s x word 1) % k * s.size) leads ∙ ap (λ z. d + z * s.size) sheet;
      } where
        whole_of_itself : (k : ℕ) → 1 ≤ k → k / k ≡ 1
        whole_of_itself k some = quotient_is 1 k k some (omega arith)

  pub connected-torus : Connected s → Connected (sheets_of s k x)
  connected-torus all e h =
      let at = place_in s k e h.0 h.1 in
      subst (IsReached (sheets_of s k x)) at.place (reached_in all at.chamber at.sheet at.is_chamber at.is_sheet)

  -- ## Colors go up

  oriented-torus : IsOriented (sheets_of s k x)
  oriented-torus =
      let t = sheets_of s k x in
      let it = symbol-sheets s is k x joining in
      let m = morphism-sheets s is k x in
      let f = below_sheets s k in
      oriented_by t it.table.involutions (λ e. color shifts.colors (item f e))
      (λ i e h. ap (color shifts.colors) (m.op i e h) ∙ shifts.are_colors.exchanged i (item f e) (m.within e h))

  pub is_torus : Connected s → Flat s → IsTorus (sheets_of s k x)
  is_torus all flat = record {
    symbol = symbol-sheets s is k x joining;
    connected = connected-torus all;
    oriented = oriented-torus;
    flat = flat-sheets s is flat k x some_sheets;
    smooth = λ p. record { each = smooth_at p };
  }

-- The rules give a torus above every connected, oriented, flat symbol, with a morphism down to it.
pub torus_by_rules : (s : Symbol) → IsSymbol s → Connected s → IsOriented s → Flat s → (k : ℕ) (x : Index → ℕ → ℕ) → IsGreatestValue s k → AreTorusShifts s k x
    → IsTorus (sheets_of s k x)
torus_by_rules s is connected oriented flat k x great shifts =
    is_torus s is k x shifts great (plane_multiples s is connected oriented flat k great) connected flat
