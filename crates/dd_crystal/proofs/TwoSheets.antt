-- The branching values of a symbol are those of its two sheets.
use Rattle.std.proofs.Common.{◌≡◌, ℕ, ◌+◌, ◌*◌, ◌%◌, ◌≤◌, sym, ap, ◌∙◌, arith}
use Rattle.dd_model.specs.declared.pair.Pair.{Pair}
use Rattle.dd_model.specs.Symbol.{Symbol, IsSymbol, IsChamber, item, degree, power, turn}
use Rattle.dd_model.specs.Cell.{turned, IsPeriod, IsBranching}
use Rattle.dd_model.proofs.Branching.{branching_exists}
use Rattle.dd_model.proofs.Turns.{IsLeastTurns-from_period}
use Rattle.dd_cells.proofs.MemberLemmas.{period_from_turns}
use Rattle.dd_covers.specs.OrientedCover.{next_sheet, two_sheets}
use Rattle.dd_covers.specs.PlaneValues.{IsGreatestValue}
use Rattle.dd_covers.specs.Sheets.{below_sheets}
use Rattle.dd_covers.specs.TorusCover.{sum_along}
use Rattle.dd_covers.proofs.BelowLemmas.{branching_below}
use Rattle.dd_covers.proofs.OrientedLemmas.{twice, even, symbol_of_two, morphism_of_two}
use Rattle.dd_covers.proofs.SheetLemmas.{act_in, degree_in}

pub chamber_of_two : (s : Symbol) (d : ℕ) → IsChamber s d → IsChamber (two_sheets s) d
chamber_of_two s d h = (h.0, twice_high d s.size h.1) where
  twice_high : (d n : ℕ) → d ≤ n → d ≤ 2 * n
  twice_high d n high = omega arith

-- A turn leads to the other sheet and back.
pub turned_two : (s : Symbol) → IsSymbol s → (p : Pair) (k d : ℕ) → IsChamber s d → turned (two_sheets s) p k d ≡ turned s p k d
turned_two s is p k d h =
    let t = two_sheets s in
    let sum = sum_along s next_sheet (power (turn p) k) d in
    let start : d + 0 * s.size ≡ d = omega arith in
    let plain : 0 + sum ≡ 2 * k = let e = twice s p k d in omega arith in
    let back : (0 + sum) % 2 ≡ 0 = ap (λ z. z % 2) plain ∙ even k in
    let end : turned s p k d + 0 * s.size ≡ turned s p k d = omega arith in
    ap (λ e. turned t p k e) (sym start)
    ∙ act_in s is.table.involutions 2 next_sheet (power (turn p) k) d 0 h (omega arith)
    ∙ ap (λ z. turned s p k d + z * s.size) back ∙ end

pub branching_two : (s : Symbol) → IsSymbol s → (p : Pair) (d v : ℕ) → IsChamber s d → IsBranching s p d v → IsBranching (two_sheets s) p d v
branching_two s is p d v h b =
    let t = two_sheets s in
    let old = period_from_turns s is.table.involutions p d b.r h b.least_turns in
    let start : d + 0 * s.size ≡ d = omega arith in
    let period : IsPeriod t p d b.r = record {
      positive = old.positive;
      fixed = turned_two s is p b.r d h ∙ old.fixed;
      least = λ k some fixed. old.least k some (sym (turned_two s is p k d h) ∙ fixed);
    } in
    record {
      r = b.r;
      least_turns = IsLeastTurns-from_period t (symbol_of_two s is).table.involutions p d b.r (chamber_of_two s d h) period;
      quotient = b.quotient ∙ sym (ap (λ e. degree t p e) (sym start) ∙ degree_in s is.table 2 next_sheet p d 0 h (omega arith));
    }

-- The two have one greatest branching value.
pub greatest_of_two : (s : Symbol) → IsSymbol s → (k j : ℕ) → IsGreatestValue s k → IsGreatestValue (two_sheets s) j → k ≡ j
greatest_of_two s is k j one two =
    let f = below_sheets s 2 in
    let m = morphism_of_two s is in
    let there = m.within two.chamber two.is_chamber in
    let under = branching_exists s is two.pair (item f two.chamber) there in
    let low = two.greatest one.pair one.chamber k (chamber_of_two s one.chamber one.is_chamber) (branching_two s is one.pair one.chamber k one.is_chamber one.branching) in
    let less = branching_below (two_sheets s) s f (symbol_of_two s is).table.involutions m two.pair two.chamber j under.0 two.is_chamber two.branching under.1 in
    let high = one.greatest two.pair (item f two.chamber) under.0 there under.1 in
    omega arith
