-- What a command makes of one symbol, and why it makes nothing.
use Rattle.std.specs.Prelude.{◌≡◌, ◌⊎◌, ℕ, ◌+◌, ◌*◌, ◌<◌, ◌≤◌, List, [], ◌∷◌}
use Rattle.dd_model.specs.Symbol.{Symbol}
use Rattle.dd_model.specs.Flat.{Flat}
use Rattle.dd_model.specs.Small.{IsSmallSymbol}
use Rattle.dd_model.specs.Code.{IsLeastForm}
use Rattle.dd_cells.specs.Curvature.{IsCurvature}
use Rattle.dd_covers.specs.OrientedCover.{IsOrientedCover}
use Rattle.dd_covers.specs.TorusCover.{IsTorusCover}
use Rattle.dd_quotient.specs.Dual.{dual_of}
use Rattle.dd_quotient.specs.MinimalImage.{IsMinimalImage, HasTooLarge}
use Rattle.dd_opword.specs.Meaning.{meaning, parts_of}
use Rattle.dd_opword.specs.Words.{letters_of}
use Rattle.dd_opword.specs.declared.words.OpWord.{OpWord}
use Rattle.dd_template.specs.Table.{Table}
use Rattle.dd_template.specs.Made.{made}
use Rattle.dd_template.specs.Named.{table_of_operation}
use Rattle.dd_suite_commands.specs.declared.commands.SymbolCommand.{SymbolCommand}
use Rattle.dd_suite_commands.specs.declared.commands.SymbolCommand.TheVariants.{Lines, Canon, Minimal, Dual, Oriented, Torus, Derived, Applied}
use Rattle.dd_suite_commands.specs.declared.refusals.SymbolFault.{SymbolFault}
use Rattle.dd_suite_commands.specs.declared.refusals.SymbolFault.TheVariants.{TooManyChambers, BranchingTooLarge, NotFlat, TooManyVertices, TooWide}
use Rattle.dd_suite_commands.specs.declared.refusals.SymbolRefusal.{SymbolRefusal}

-- the least form of a minimal image whose branching values are at most 30
pub record IsLeastImage (s t : Symbol) : Type 0 where
  pub image : Symbol
  pub map : List ℕ
  pub is_image : IsMinimalImage s image map
  pub small : IsSmallSymbol image
  pub least : IsLeastForm image t

-- the least form of the oriented cover
pub record IsLeastCover (s t : Symbol) : Type 0 where
  pub cover : Symbol
  pub below : List ℕ
  pub is_cover : IsOrientedCover s cover below
  pub least : IsLeastForm cover t

-- the least form of the torus cover of a flat symbol
pub record IsLeastTorus (s t : Symbol) : Type 0 where
  pub flat : Flat s
  pub cover : Symbol
  pub below : List ℕ
  pub is_cover : IsTorusCover s cover below
  pub least : IsLeastForm cover t

-- the least form of what a table makes of a symbol, which has at most 1,024 chambers
pub record IsDerived (table : Table) (s t : Symbol) : Type 0 where
  pub few : s.size * table.parts ≤ 1024
  pub least : IsLeastForm (made table s) t

-- the least form of what the operations of a word make of a symbol, which has at most 1,024 chambers
pub record IsApplied (w : OpWord) (s t : Symbol) : Type 0 where
  pub few : s.size * parts_of (letters_of w) ≤ 1024
  pub least : IsLeastForm (meaning (letters_of w) s) t

-- what a command makes of a symbol
abbrev pub IsMade : SymbolCommand → Symbol → Symbol → Type 0
IsMade Lines s t = s ≡ t
IsMade Canon s t = IsLeastForm s t
IsMade Minimal s t = IsLeastImage s t
IsMade Dual s t = IsLeastForm (dual_of s) t
IsMade Oriented s t = IsLeastCover s t
IsMade Torus s t = IsLeastTorus s t
IsMade (Derived operation) s t = IsDerived (table_of_operation operation) s t
IsMade (Applied word) s t = IsApplied word s t

-- a symbol of n chambers, each of which would become so many parts, and all more than 1,024
abbrev pub HasTooMany : ℕ → Symbol → SymbolFault → Type 0
HasTooMany parts s (TooManyChambers n) = (n ≡ s.size) × (1024 < s.size * parts)
HasTooMany parts s (BranchingTooLarge v) = ⊥
HasTooMany parts s (NotFlat x) = ⊥
HasTooMany parts s (TooManyVertices count) = ⊥
HasTooMany parts s (TooWide step row column) = ⊥

-- of a symbol the table would make too many chambers
abbrev pub IsTooLong : Table → Symbol → SymbolFault → Type 0
IsTooLong table s fault = HasTooMany table.parts s fault

-- of a symbol the operations of a word would make too many chambers
abbrev pub IsTooLongFor : OpWord → Symbol → SymbolFault → Type 0
IsTooLongFor word s fault = HasTooMany (parts_of (letters_of word)) s fault

-- the minimal image has a branching value over 30, and v is the first
abbrev pub IsTooSharp : Symbol → SymbolFault → Type 0
IsTooSharp s (TooManyChambers n) = ⊥
IsTooSharp s (BranchingTooLarge v) = HasTooLarge s v
IsTooSharp s (NotFlat x) = ⊥
IsTooSharp s (TooManyVertices count) = ⊥
IsTooSharp s (TooWide step row column) = ⊥

-- the curvature is not 0, and x is the curvature
abbrev pub IsCurved : Symbol → SymbolFault → Type 0
IsCurved s (TooManyChambers n) = ⊥
IsCurved s (BranchingTooLarge v) = ⊥
IsCurved s (NotFlat x) = (¬ Flat s) × IsCurvature s x
IsCurved s (TooManyVertices count) = ⊥
IsCurved s (TooWide step row column) = ⊥

-- why a command makes nothing of a symbol
abbrev pub IsFaultOf : SymbolCommand → Symbol → SymbolFault → Type 0
IsFaultOf Lines s fault = ⊥
IsFaultOf Canon s fault = ⊥
IsFaultOf Minimal s fault = IsTooSharp s fault
IsFaultOf Dual s fault = ⊥
IsFaultOf Oriented s fault = ⊥
IsFaultOf Torus s fault = IsCurved s fault
IsFaultOf (Derived operation) s fault = IsTooLong (table_of_operation operation) s fault
IsFaultOf (Applied word) s fault = IsTooLongFor word s fault

-- something is made of a symbol
abbrev pub IsTaken : SymbolCommand → Symbol → Type 0
IsTaken command s = (t : Symbol) × IsMade command s t

-- Of the symbols, the first of which has the number k, something is made of all before this one, and this one has the fault.
abbrev pub IsFirstFault : SymbolCommand → ℕ → List Symbol → SymbolRefusal → Type 0
IsFirstFault command k [] r = ⊥
IsFirstFault command k (s ∷ ss) r = ((r.symbol ≡ k) × IsFaultOf command s r.why) ⊎ (IsTaken command s × IsFirstFault command (k + 1) ss r)
