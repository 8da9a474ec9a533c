-- The torus cover has the fewest sheets.
use Rattle.std.proofs.Common.{◌≡◌, ℕ, ◌*◌, ◌≤◌, List, sym, ap, ◌∙◌, subst, inl, inr, refl, ⊎_elim, arith}
use Rattle.dd_model.specs.Symbol.{Symbol, IsSymbol}
use Rattle.dd_model.specs.Connected.{Connected}
use Rattle.dd_model.specs.Flat.{Flat}
use Rattle.dd_model.specs.Isomorphic.{IsMorphism}
use Rattle.dd_cells.specs.Fraction.{Divides}
use Rattle.dd_cells.proofs.FractionLemmas.{same_factor}
use Rattle.dd_covers.specs.OrientedCover.{two_sheets, IsOrientedCover}
use Rattle.dd_covers.specs.PlaneValues.{IsGreatestValue}
use Rattle.dd_covers.specs.Torus.{IsTorus}
use Rattle.dd_covers.specs.TorusCover.{IsTorusCover}
use Rattle.dd_covers.proofs.OrientedLemmas.{symbol_of_two, two_are_connected, two_are_oriented, decide_oriented}
use Rattle.dd_covers.proofs.PlaneUses.{divisor_le}
use Rattle.dd_covers.proofs.TorusCovers.{torus_above, morphism_above, sheets_above}
use Rattle.dd_covers.proofs.Uniqueness.{same_greatest}
use Rattle.dd_covers.proofs.WantLemmas.{greatest_exists}
use Rattle.dd_crystal.specs.SheetCounts.{HasSheets, IsTorusSheets}
use Rattle.dd_crystal.proofs.Fibers.{sheet_number, sheets_unique}
use Rattle.dd_crystal.proofs.Multiples.{value_divides}
use Rattle.dd_crystal.proofs.Passing.{passing, passes}
use Rattle.dd_crystal.proofs.TwoSheets.{chamber_of_two, branching_two, greatest_of_two}

-- ## Every torus has a multiple of the number

-- n sheets that pass through two are twice as many as above the two
twice_sheets : (n half size above : ℕ) → 1 ≤ size → above ≡ n * size → above ≡ half * (2 * size) → 2 * half ≡ n
twice_sheets n half size above some one two = same_factor (2 * half) n size some (omega arith)

pub sheets_divide : (s t : Symbol) (f : List ℕ) (n k : ℕ) → IsSymbol s → Connected s → IsTorusSheets s n → IsTorus t → IsMorphism t s f → HasSheets s t f k → Divides n k
sheets_divide s t f n k is connected count torus m sheets =
    let great = count.greatest in
    ⊎_elim
    (λ c.
    let by = value_divides s t is c.0 torus f m great.pair great.chamber count.value k great.is_chamber great.branching sheets in
    subst (λ v. Divides v k) (sym c.1) by)
    (λ c.
    let two = two_sheets s in
    let it = symbol_of_two s is in
    let inv = torus.symbol.table.involutions in
    let g = passing s t is.table inv torus.oriented f m in
    let up = passes s t is.table inv torus.oriented f m in
    let over = sheet_number two t it.table (two_are_connected s is connected c.0) torus.symbol.table g up in
    let own = sheet_number s t is.table connected torus.symbol.table f m in
    let same = sheets_unique s t f own.number k is.table.chambers own.sheets sheets in
    let size : t.size ≡ k * s.size = own.size ∙ ap (λ z. z * s.size) same in
    let double = twice_sheets k over.number s.size t.size is.table.chambers size over.size in
    let by = value_divides two t it (two_are_oriented s is) torus g up great.pair great.chamber count.value over.number
    (chamber_of_two s great.chamber great.is_chamber) (branching_two s is great.pair great.chamber count.value great.is_chamber great.branching) over.sheets in
    let product = by.product in
    subst (λ v. Divides v k) (sym c.1) (record { quotient = by.quotient; product = omega arith }))
    count.number

pub sheets_fewest : (s t : Symbol) (f : List ℕ) (n k : ℕ) → IsSymbol s → Connected s → IsTorusSheets s n → IsTorus t → IsMorphism t s f → HasSheets s t f k → n ≤ k
sheets_fewest s t f n k is connected count torus m sheets =
    let own = sheet_number s t is.table connected torus.symbol.table f m in
    let same = sheets_unique s t f own.number k is.table.chambers own.sheets sheets in
    divisor_le n k (sheets_divide s t f n k is connected count torus m sheets) (subst (λ z. 1 ≤ z) same own.some)

-- ## The torus cover has the number

-- the oriented cover has the greatest value of the symbol
middle_value : (s middle : Symbol) (lower : List ℕ) (k j : ℕ) → IsSymbol s → IsOrientedCover s middle lower → IsGreatestValue s k → IsGreatestValue middle j → k ≡ j
middle_value s middle lower k j is (inl c) one two = same_greatest s k j one (subst (λ u. IsGreatestValue u j) c.same two)
middle_value s middle lower k j is (inr c) one two = greatest_of_two s is k j one (subst (λ u. IsGreatestValue u j) c.sheets two)

pub cover_sheets : (s t : Symbol) (f : List ℕ) (n : ℕ) → IsSymbol s → Connected s → Flat s → IsTorusSheets s n → IsTorusCover s t f → HasSheets s t f n
cover_sheets s t f n is connected flat count cover =
    let torus = torus_above s t f is connected flat cover in
    let m = morphism_above s t f is connected flat cover in
    let own = sheet_number s t is.table connected torus.symbol.table f m in
    let value = middle_value s cover.middle cover.lower count.value cover.sheets is cover.oriented count.greatest cover.torus.greatest in
    let size = own.size in
    let same : own.number ≡ n =
    ⊎_elim
    (λ a. ⊎_elim
    (λ b. same_factor own.number n s.size is.table.chambers (sym size ∙ b.1 ∙ ap (λ z. z * s.size) (sym value ∙ sym a.1)))
    (λ b. absurd (b.0 a.0))
    (sheets_above s t f cover))
    (λ a. ⊎_elim
    (λ b. absurd (a.0 b.0))
    (λ b. same_factor own.number n s.size is.table.chambers (sym size ∙ b.1 ∙ ap (λ z. 2 * z * s.size) (sym value) ∙ ap (λ z. z * s.size) (sym a.1)))
    (sheets_above s t f cover))
    count.number in
    subst (HasSheets s t f) same own.sheets

-- ## No torus has fewer sheets

-- each connected symbol has such a number
count_exists : (s : Symbol) → IsSymbol s → Connected s → (n : ℕ) × IsTorusSheets s n
count_exists s is connected =
    let g = greatest_exists s is in
    ⊎_elim
    (λ oriented. (g.value, record { value = g.value; greatest = g.greatest; number = inl (oriented, refl) }))
    (λ not_oriented. (2 * g.value, record { value = g.value; greatest = g.greatest; number = inr (not_oriented, refl) }))
    (decide_oriented s is connected)

pub cover_fewest : (s t u : Symbol) (f g : List ℕ) (n k : ℕ) → IsSymbol s → Connected s → Flat s → IsTorusCover s t f → HasSheets s t f n → IsTorus u → IsMorphism u s g
    → HasSheets s u g k → n ≤ k
cover_fewest s t u f g n k is connected flat cover sheets torus m others =
    let count = count_exists s is connected in
    let own = sheets_unique s t f count.0 n is.table.chambers (cover_sheets s t f count.0 is connected flat count.1 cover) sheets in
    subst (λ z. z ≤ k) own (sheets_fewest s u g count.0 k is connected count.1 torus m others)
