-- A morphism from an oriented symbol onto one that is not oriented passes through the two sheets of the latter.
use Rattle.std.proofs.Common.{◌≡◌, ℕ, ◌+◌, ◌*◌, ◌%◌, ◌<◌, ◌≤◌, Bool, true, false, not, cond, List, map, refl, sym, ap, ◌∙◌, subst, arith}
use Rattle.std.proofs.lemmas.List.{length-map}
use Rattle.dd_model.specs.declared.pair.Pair.TheVariants.{Tile, Vertex}
use Rattle.dd_model.specs.Symbol.{Symbol, AreInvolutions, IsTable, IsChamber, item, op}
use Rattle.dd_model.specs.Code.{chambers}
use Rattle.dd_model.specs.Isomorphic.{IsMorphism}
use Rattle.dd_model.proofs.CountFrom.{length-count_from, item-map-count_from}
use Rattle.dd_cells.specs.Orientation.{IsOriented, color}
use Rattle.dd_covers.specs.OrientedCover.{next_sheet, two_sheets}
use Rattle.dd_covers.proofs.SheetLemmas.{op_in, degree_in}

-- the sheet in which a chamber of a color lies
abbrev sheet_of : Bool → ℕ
sheet_of b = cond b 0 1

sheet_low : (b : Bool) → sheet_of b < 2
sheet_low true = omega arith
sheet_low false = omega arith

sheet_turned : (b : Bool) → sheet_of (not b) ≡ (sheet_of b + 1) % 2
sheet_turned true = refl
sheet_turned false = refl

in_two : (n c : ℕ) (b : Bool) → 1 ≤ c → c ≤ n → (1 ≤ c + sheet_of b * n) × (c + sheet_of b * n ≤ 2 * n)
in_two n c true low high = (omega arith, omega arith)
in_two n c false low high = (omega arith, omega arith)

module _ (s t : Symbol) (table : IsTable s) (inv : AreInvolutions t) (oriented : IsOriented t) (f : List ℕ) (m : IsMorphism t s f) where
  abbrev sheet : ℕ → ℕ
  sheet e = sheet_of (color oriented.colors e)

  abbrev lifted : ℕ → ℕ
  lifted e = item f e + sheet e * s.size

  abbrev pub passing : List ℕ
  passing = map lifted (chambers t)

  passing_at : (e : ℕ) → IsChamber t e → item passing e ≡ lifted e
  passing_at e h = item-map-count_from lifted t.size e h.0 h.1

  pub passes : IsMorphism t (two_sheets s) passing
  passes = record {
    images = length-map (chambers t) lifted ∙ length-count_from 1 t.size;
    within = λ e h.
        let there = m.within e h in
        subst (IsChamber (two_sheets s)) (sym (passing_at e h)) (in_two s.size (item f e) (color oriented.colors e) there.0 there.1);
    op = λ i e h.
        let there = m.within e h in
        passing_at (op t i e) ((inv i).within e h)
        ∙ ap (λ c. c + sheet (op t i e) * s.size) (m.op i e h)
        ∙ ap (λ b. op s i (item f e) + sheet_of b * s.size) (oriented.exchanged i e h)
        ∙ ap (λ a. op s i (item f e) + a * s.size) (sheet_turned (color oriented.colors e))
        ∙ sym (op_in s 2 next_sheet i (item f e) (sheet e) there (sheet_low (color oriented.colors e)))
        ∙ ap (op (two_sheets s) i) (sym (passing_at e h));
    m01 = λ e h.
        ap (item (two_sheets s).m01) (passing_at e h)
        ∙ degree_in s table 2 next_sheet Tile (item f e) (sheet e) (m.within e h) (sheet_low (color oriented.colors e)) ∙ m.m01 e h;
    m12 = λ e h.
        ap (item (two_sheets s).m12) (passing_at e h)
        ∙ degree_in s table 2 next_sheet Vertex (item f e) (sheet e) (m.within e h) (sheet_low (color oriented.colors e)) ∙ m.m12 e h;
  }
