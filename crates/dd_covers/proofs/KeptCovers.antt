-- The covers that are kept are oriented covers and torus covers.
use Rattle.std.proofs.Common.{◌≡◌, ℕ, ◌≤◌, List, sym, ◌∙◌, subst, inl, inr, arith}
use Rattle.dd_model.specs.Symbol.{Symbol, IsTable}
use Rattle.dd_model.specs.Code.{chambers}
use Rattle.dd_model.specs.Connected.{Connected}
use Rattle.dd_model.specs.Isomorphic.{IsMorphism, IsIsomorphism}
use Rattle.dd_model.specs.Small.{IsSmallSymbol}
use Rattle.dd_model.proofs.Isomorphisms.{identity_isomorphism}
use Rattle.dd_symbol.specs.Building.{IsConnectedSymbol}
use Rattle.dd_cells.specs.Orientation.{IsOriented}
use Rattle.dd_covers.specs.declared.cover.Cover.{Cover}
use Rattle.dd_covers.specs.declared.shifts.Shifts.{Shifts}
use Rattle.dd_covers.specs.Covers.{AreSheets, IsCoverBy, IsOrientedBy}
use Rattle.dd_covers.specs.OrientedCover.{next_sheet, two_sheets}
use Rattle.dd_covers.specs.Sheets.{below_sheets, turned}
use Rattle.dd_covers.specs.Shifts.{AreOnes, shift}
use Rattle.dd_covers.proofs.OrientedLemmas.{below_two, two_by_ones, two_are_oriented, morphism_of_two, connected_sheets}
use Rattle.dd_covers.proofs.TurnLemmas.{turn_is_automorphism}

-- a morphism and an automorphism of equal symbols and maps
moved : (s t u : Symbol) (f g : List ℕ) → t ≡ u → f ≡ g → IsMorphism u s g → IsMorphism t s f
moved s t u f g same equal is = subst (λ v. IsMorphism v s f) (sym same) (subst (IsMorphism u s) (sym equal) is)

pub automorphism : (t u : Symbol) (f g : List ℕ) → t ≡ u → f ≡ g → IsIsomorphism u u g → IsIsomorphism t t f
automorphism t u f g same equal is = subst (λ v. IsIsomorphism v v f) (sym same) (subst (IsIsomorphism u u) (sym equal) is)

-- an oriented symbol is its own cover
pub oriented_by_itself : (s : Symbol) → IsTable s → Connected s → IsOriented s → (cover : Cover) → cover.symbol ≡ s → cover.below ≡ chambers s → cover.turn ≡ chambers s
    → IsOrientedBy s cover
oriented_by_itself s table all oriented cover same below turn =
    let own = identity_isomorphism s table in
    record {
      cover = inl (record { oriented = oriented; same = same; is_below = below });
      morphism = moved s cover.symbol s cover.below (chambers s) same below own.morphism;
      turn = automorphism cover.symbol s cover.turn (chambers s) same turn own;
      oriented = subst IsOriented (sym same) oriented;
      connected = subst Connected (sym same) all;
    }

-- any other symbol has two sheets
module _ (s : Symbol) (small : IsSmallSymbol s) (all : Connected s) (few : s.size ≤ 8192) (not_oriented : ¬ IsOriented s) (x : Shifts) (ones : AreOnes s x) where
  pub two_are_sheets : AreSheets s 2 x
  two_are_sheets = record {
    shifts = below_two s x ones;
    small = omega arith;
    symbol = subst IsConnectedSymbol (sym (two_by_ones s x ones)) (connected_sheets s small all few not_oriented);
  }

  pub oriented_by_two : (cover : Cover) → IsCoverBy s 2 (shift x) cover → IsOrientedBy s cover
  oriented_by_two cover is =
      let same : cover.symbol ≡ two_sheets s = is.symbol ∙ two_by_ones s x ones in
      record {
        cover = inr (record { not_oriented = not_oriented; sheets = same; is_below = is.below });
        morphism = moved s cover.symbol (two_sheets s) cover.below (below_sheets s 2) same is.below (morphism_of_two s small.symbol);
        turn = automorphism cover.symbol (two_sheets s) cover.turn (turned s 2 1) same is.turn
            (turn_is_automorphism s 2 small.symbol.table next_sheet (omega arith));
        oriented = subst IsOriented (sym same) (two_are_oriented s small.symbol);
        connected = subst Connected (sym same) (connected_sheets s small all few not_oriented).connected;
      }
