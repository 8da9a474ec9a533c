-- What is told of one symbol.
use Rattle.std.specs.Prelude.{◌≡◌, ◌↔◌, ℕ, pos, List, ◌++◌, length, codes, decimal, cond, IsTrue, Bool, true, false}
use Rattle.std.specs.Fmt.{signed_decimal}
use Rattle.std.specs.Ordering.{int_eq}
use Rattle.dd_model.specs.Symbol.{Symbol}
use Rattle.dd_model.specs.Cell.{AreCells}
use Rattle.dd_model.specs.Minimal.{Minimal}
use Rattle.dd_model.specs.declared.pair.Pair.{Pair}
use Rattle.dd_model.specs.declared.pair.Pair.TheVariants.{Tile, Vertex, Edge}
use Rattle.dd_cells.specs.Orientation.{IsOrientation}
use Rattle.dd_cells.specs.Curvature.{IsCurvature}
use Rattle.dd_cells.specs.declared.fractions.Fraction.{Fraction}
use Rattle.dd_cells.specs.declared.orientations.Orientation.{Orientation}
use Rattle.dd_cells.specs.declared.orientations.Orientation.TheVariants.{Oriented, Weak, None}
use Rattle.dd_suite_commands.specs.declared.facts.Facts.{Facts}

-- the number of the cells of a pair
pub record IsCount (s : Symbol) (p : Pair) (n : ℕ) : Type 0 where
  pub cells : List ℕ
  pub are_cells : AreCells s p cells
  pub number : n ≡ length cells

-- all that is told of a symbol besides its group is so
pub record AreFactsOf (s : Symbol) (f : Facts) : Type 0 where
  pub chambers : f.chambers ≡ s.size
  pub tiles : IsCount s Tile f.tiles
  pub vertices : IsCount s Vertex f.vertices
  pub edges : IsCount s Edge f.edges
  pub curvature : IsCurvature s f.curvature
  pub orientation : IsOrientation s f.orientation
  pub minimal : IsTrue f.minimal ↔ Minimal s

-- a fraction, and a whole number without its denominator
abbrev pub fraction_text : Fraction → List ℕ
fraction_text x = cond (int_eq x.den (pos 1)) (signed_decimal x.num) (signed_decimal x.num ++ (codes "/" ++ signed_decimal x.den))

abbrev pub orientation_text : Orientation → List ℕ
orientation_text Oriented = codes "oriented"
orientation_text Weak = codes "weak"
orientation_text None = codes "none"

-- the number of a line, and those of the chambers and cells
abbrev pub counts_text : ℕ → Facts → List ℕ
counts_text k f =
    decimal k ++ (codes " chambers " ++ (decimal f.chambers ++ (codes " tiles " ++ (decimal f.tiles ++ (codes " vertices " ++
    (decimal f.vertices ++ (codes " edges " ++ decimal f.edges)))))))

-- the line of number k as far as the name of the group
abbrev pub head_text : ℕ → Facts → List ℕ
head_text k f =
    counts_text k f ++ (codes " curvature " ++ (fraction_text f.curvature ++ (codes " orientation " ++ (orientation_text f.orientation ++ codes " group "))))

abbrev pub minimal_text : Bool → List ℕ
minimal_text true = codes " minimal yes\n"
minimal_text false = codes " minimal no\n"

-- what follows the name of the group
abbrev pub tail_text : Facts → List ℕ
tail_text f = minimal_text f.minimal
