-- What a draw may pick to be made of a symbol.
use Rattle.std.specs.Prelude.{◌≡◌, ℕ, List, [], ◌∷◌, slice_index_or}
use Rattle.dd_model.specs.Symbol.{Symbol}
use Rattle.dd_covers.specs.OrientedCover.{IsOrientedCover}
use Rattle.dd_covers.specs.TorusCover.{IsTorusCover}
use Rattle.dd_quotient.specs.Dual.{dual_of}
use Rattle.dd_template.specs.Made.{made}
use Rattle.dd_template.specs.Named.{table_of_operation}
use Rattle.dd_template.specs.declared.operations.Operation.TheVariants.{Ambo, Truncate, Chamfer}
use Rattle.dd_suite_exercise.specs.declared.changes.Change.{Change}
use Rattle.dd_suite_exercise.specs.declared.changes.Change.TheVariants as change
use Rattle.dd_suite_exercise.specs.declared.coverings.Covering.{Covering}
use Rattle.dd_suite_exercise.specs.declared.coverings.Covering.TheVariants as covering

-- the changes, in the order of the draws 0 to 4
abbrev pub changes : List Change
changes = change.Nothing ∷ change.Dual ∷ change.Derived Ambo ∷ change.Derived Truncate ∷ change.Derived Chamfer ∷ []

-- the change that a draw picks
abbrev pub change_at : ℕ → Change
change_at k = slice_index_or changes k change.Nothing

-- the symbol after a change
abbrev pub changed : Change → Symbol → Symbol
changed change.Nothing s = s
changed change.Dual s = dual_of s
changed (change.Derived operation) s = made (table_of_operation operation) s

-- the covers, in the order of the draws 0 to 2
abbrev pub coverings : List Covering
coverings = covering.Nothing ∷ covering.Oriented ∷ covering.Torus ∷ []

-- the cover that a draw picks
abbrev pub covering_at : ℕ → Covering
covering_at k = slice_index_or coverings k covering.Nothing

-- t is the symbol itself, its oriented cover or its torus cover
abbrev pub IsCoverBy : Covering → Symbol → Symbol → Type 0
IsCoverBy covering.Nothing s t = t ≡ s
IsCoverBy covering.Oriented s t = (below : List ℕ) × IsOrientedCover s t below
IsCoverBy covering.Torus s t = (below : List ℕ) × IsTorusCover s t below
