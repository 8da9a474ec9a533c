-- The torus cover of a flat symbol, through its oriented cover.
use Rattle.std.proofs.Common.{◌≡◌, ℕ, zero, suc, ◌*◌, ◌≤◌, ◌⊎◌, List, length, map, refl, sym, ap, ◌∙◌, subst, inl, inr, ⊎_elim, arith}
use Rattle.dd_model.specs.declared.index.Index.{Index}
use Rattle.dd_model.specs.Symbol.{Symbol, IsSymbol, item}
use Rattle.dd_model.specs.Code.{chambers}
use Rattle.dd_symbol.specs.Building.{IsConnectedSymbol}
use Rattle.dd_model.specs.Connected.{Connected}
use Rattle.dd_model.specs.Flat.{Flat}
use Rattle.dd_model.specs.Isomorphic.{IsMorphism}
use Rattle.dd_model.specs.Small.{IsSmallSymbol}
use Rattle.dd_model.proofs.Isomorphisms.{IsMorphism-after, identity_isomorphism}
use Rattle.dd_cells.specs.Orientation.{IsOriented}
use Rattle.dd_covers.specs.OrientedCover.{next_sheet, two_sheets, IsOrientedCover}
use Rattle.dd_covers.specs.PlaneValues.{IsCrystal, IsGreatestValue}
use Rattle.dd_covers.specs.Sheets.{sheets_of, below_sheets}
use Rattle.dd_covers.specs.Torus.{IsTorus}
use Rattle.dd_covers.specs.TorusCover.{AreTorusShifts, IsTorusCoverOf, IsTorusCover, HasTorusCover}
use Rattle.dd_covers.proofs.Assembled.{shifts_exist}
use Rattle.dd_covers.proofs.BelowLemmas.{small_above}
use Rattle.dd_covers.proofs.FlatSheets.{flat-sheets}
use Rattle.dd_covers.proofs.OrientedLemmas.{symbol_of_two, two_are_connected, two_are_oriented, decide_oriented, morphism_of_two}
use Rattle.dd_covers.proofs.PlaneUses.{plane_crystal}
use Rattle.dd_covers.proofs.SheetLemmas.{morphism-sheets}
use Rattle.dd_covers.proofs.TorusLemmas.{torus_by_rules}
use Rattle.dd_covers.proofs.Uniqueness.{one_cover, one_below}
use Rattle.dd_covers.proofs.WantLemmas.{greatest_exists}

-- what the oriented cover of a symbol is
pub record IsMiddle (s middle : Symbol) (lower : List ℕ) : Type 0 where
  pub symbol : IsSymbol middle
  pub connected : Connected middle
  pub oriented : IsOriented middle
  pub flat : Flat s → Flat middle
  pub morphism : IsMorphism middle s lower

pub middle_of : (s middle : Symbol) (lower : List ℕ) → IsSymbol s → Connected s → IsOrientedCover s middle lower → IsMiddle s middle lower
middle_of s middle lower is connected (inl c) = subst (λ t. IsMiddle s t lower) (sym c.same) (record {
  symbol = is;
  connected = connected;
  oriented = c.oriented;
  flat = λ flat. flat;
  morphism = subst (IsMorphism s s) (sym c.is_below) (identity_isomorphism s is.table).morphism;
})
middle_of s middle lower is connected (inr c) = subst (λ t. IsMiddle s t lower) (sym c.sheets) (record {
  symbol = symbol_of_two s is;
  connected = two_are_connected s is connected c.not_oriented;
  oriented = two_are_oriented s is;
  flat = λ flat. flat-sheets s is flat 2 next_sheet (omega arith);
  morphism = subst (IsMorphism (two_sheets s) s) (sym c.is_below) (morphism_of_two s is);
})

pub torus_above : (s t : Symbol) (below : List ℕ) → IsSymbol s → Connected s → Flat s → IsTorusCover s t below → IsTorus t
torus_above s t below symbol connected flat is =
    let m = middle_of s is.middle is.lower symbol connected is.oriented in
    subst IsTorus (sym is.torus.cover) (torus_by_rules is.middle m.symbol m.connected m.oriented (m.flat flat) is.sheets is.torus.shifts is.torus.greatest is.torus.are_shifts)

pub morphism_above : (s t : Symbol) (below : List ℕ) → IsSymbol s → Connected s → Flat s → IsTorusCover s t below → IsMorphism t s below
morphism_above s t below symbol connected flat is =
    let m = middle_of s is.middle is.lower symbol connected is.oriented in
    let torus = torus_above s t below symbol connected flat is in
    let down : IsMorphism t is.middle is.upper =
    subst (λ u. IsMorphism u is.middle is.upper) (sym is.torus.cover)
    (subst (IsMorphism (sheets_of is.middle is.sheets is.torus.shifts) is.middle) (sym is.torus.is_below) (morphism-sheets is.middle m.symbol is.sheets is.torus.shifts)) in
    subst (IsMorphism t s) (sym is.composed) (IsMorphism-after t is.middle s is.upper is.lower torus.symbol.table down m.morphism)

-- k sheets above an oriented symbol, and twice as many above another
pub sheets_above : (s t : Symbol) (below : List ℕ) (is : IsTorusCover s t below)
    → (IsOriented s × (t.size ≡ is.sheets * s.size)) ⊎ ((¬ IsOriented s) × (t.size ≡ 2 * is.sheets * s.size))
sheets_above s t below is =
    let size : t.size ≡ is.sheets * is.middle.size = ap (λ u. u.size) is.torus.cover in
    ⊎_elim
    (λ c. inl (c.oriented, size ∙ ap (λ u. is.sheets * u.size) c.same))
    (λ c. inr (c.not_oriented, (let e = ap (λ u. is.sheets * u.size) c.sheets in omega arith)))
    is.oriented

-- ## There is exactly one

record HasOrientedCover (s : Symbol) : Type 0 where
  pub middle : Symbol
  pub lower : List ℕ
  pub is : IsOrientedCover s middle lower

oriented_cover_exists : (s : Symbol) → IsSymbol s → Connected s → HasOrientedCover s
oriented_cover_exists s is connected =
    ⊎_elim
    (λ oriented. record { middle = s; lower = chambers s; is = inl (record { oriented = oriented; same = refl; is_below = refl }) })
    (λ not_oriented. record { middle = two_sheets s; lower = below_sheets s 2; is = inr (record { not_oriented = not_oriented; sheets = refl; is_below = refl }) })
    (decide_oriented s is connected)

pub torus_cover_exists : (s : Symbol) → IsSymbol s → Connected s → Flat s → HasTorusCover s
torus_cover_exists s is connected flat =
    let c = oriented_cover_exists s is connected in
    let m = middle_of s c.middle c.lower is connected c.is in
    let g = greatest_exists c.middle m.symbol in
    let x = shifts_exist c.middle m.symbol m.connected m.oriented (m.flat flat) g.value g.greatest in
    record {
      cover = sheets_of c.middle g.value x.shifts;
      below = map (item c.lower) (below_sheets c.middle g.value);
      is = record {
        middle = c.middle;
        lower = c.lower;
        oriented = c.is;
        sheets = g.value;
        upper = below_sheets c.middle g.value;
        torus = record { greatest = g.greatest; shifts = x.shifts; are_shifts = x.are; cover = refl; is_below = refl };
        composed = refl;
      };
    }

pub oriented_cover_once : (s t u : Symbol) (m n : List ℕ) → IsOrientedCover s t m → IsOrientedCover s u n → (t ≡ u) × (m ≡ n)
oriented_cover_once s t u m n (inl a) (inl b) = (a.same ∙ sym b.same, a.is_below ∙ sym b.is_below)
oriented_cover_once s t u m n (inl a) (inr b) = absurd (b.not_oriented a.oriented)
oriented_cover_once s t u m n (inr a) (inl b) = absurd (a.not_oriented b.oriented)
oriented_cover_once s t u m n (inr a) (inr b) = (a.sheets ∙ sym b.sheets, a.is_below ∙ sym b.is_below)

pub torus_cover_once : (s t u : Symbol) (f g : List ℕ) → IsSymbol s → Connected s → IsTorusCover s t f → IsTorusCover s u g → (t ≡ u) × (f ≡ g)
torus_cover_once s t u f g is connected x y =
    let m = middle_of s x.middle x.lower is connected x.oriented in
    let same = oriented_cover_once s x.middle y.middle x.lower y.lower x.oriented y.oriented in
    let torus : IsTorusCoverOf x.middle y.sheets u y.upper = subst (λ c. IsTorusCoverOf c y.sheets u y.upper) (sym same.0) y.torus in
    let upper = one_below x.middle t u x.sheets y.sheets x.upper y.upper x.torus torus in (
      one_cover x.middle t u x.sheets y.sheets x.upper y.upper m.symbol m.connected x.torus torus,
      x.composed ∙ ap (map (item x.lower)) upper ∙ ap (λ l. map (item l) y.upper) same.1 ∙ sym y.composed,
    )

-- ## As it is made

-- few enough sheets
pub crystal_few : (k n : ℕ) → IsCrystal k → n ≤ 2048 → k * n ≤ 16384
crystal_few k n (zero, h, e) few = subst (λ z. z * n ≤ 16384) e (omega arith)
crystal_few k n (suc zero, h, e) few = subst (λ z. z * n ≤ 16384) e (omega arith)
crystal_few k n (suc (suc zero), h, e) few = subst (λ z. z * n ≤ 16384) e (omega arith)
crystal_few k n (suc (suc (suc zero)), h, e) few = subst (λ z. z * n ≤ 16384) e (omega arith)
crystal_few k n (suc (suc (suc (suc zero))), h, e) few = subst (λ z. z * n ≤ 16384) e (omega arith)
crystal_few k n (suc (suc (suc (suc (suc q)))), h, e) few = absurd (omega (arith, h))

pub sheets_few : (s : Symbol) → IsSymbol s → Connected s → IsOriented s → Flat s → (k : ℕ) → IsGreatestValue s k → s.size ≤ 2048 → k * s.size ≤ 16384
sheets_few s is connected oriented flat k g few = crystal_few k s.size (plane_crystal s is connected oriented flat g.pair g.chamber k g.is_chamber g.branching) few

pub sheets_connected : (s : Symbol) → IsSmallSymbol s → Connected s → IsOriented s → Flat s → (k : ℕ) → IsGreatestValue s k → s.size ≤ 2048
    → (x : Index → ℕ → ℕ) → AreTorusShifts s k x → IsConnectedSymbol (sheets_of s k x)
sheets_connected s small connected oriented flat k g few x shifts =
    let torus = torus_by_rules s small.symbol connected oriented flat k x g shifts in
    record {
      symbol = small_above (sheets_of s k x) s (below_sheets s k) torus.symbol small (morphism-sheets s small.symbol k x) (sheets_few s small.symbol connected oriented flat k g few);
      connected = torus.connected;
    }

-- where the chambers of a torus cover lie, those of the oriented cover have places in the lower map
pub within_lower : (s middle t : Symbol) (k : ℕ) (lower upper : List ℕ) → IsMiddle s middle lower → IsTorusCoverOf middle k t upper
    → (d : ℕ) → 1 ≤ d → d ≤ length upper → (1 ≤ item upper d) × (item upper d ≤ length lower)
within_lower s middle t k lower upper m is d low high =
    let down : IsMorphism t middle upper =
    subst (λ u. IsMorphism u middle upper) (sym is.cover)
    (subst (IsMorphism (sheets_of middle k is.shifts) middle) (sym is.is_below) (morphism-sheets middle m.symbol k is.shifts)) in
    let size = down.images in
    let places = m.morphism.images in
    let w = down.within d (low, omega arith) in
    (w.0, omega (arith, w.1))
