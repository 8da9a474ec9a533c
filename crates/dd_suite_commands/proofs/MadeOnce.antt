-- What a command makes of a symbol is determined.
use Rattle.std.proofs.Common.{◌≡◌, ◌≤◌, ℕ, ◌+◌, ◌*◌, List, [], ◌∷◌, inl, inr, sym, ◌∙◌, subst, arith}
use Rattle.std.specs.List.{AllByRecursion}
use Rattle.dd_model.specs.Symbol.{Symbol, IsTable}
use Rattle.dd_model.specs.Code.{IsLeastForm}
use Rattle.dd_model.specs.Reading.{IsReadable}
use Rattle.dd_model.proofs.Codes.{least_unique}
use Rattle.dd_model.proofs.Isomorphisms.{Isomorphic-sym, Isomorphic-trans}
use Rattle.dd_model.proofs.LeastForms.{same_least_forms}
use Rattle.dd_covers.specs.OrientedCover.{IsOrientedCover}
use Rattle.dd_covers.proofs.OrientedLemmas.{small_of_two}
use Rattle.dd_covers.proofs.TorusCovers.{oriented_cover_once, torus_cover_once}
use Rattle.dd_quotient.specs.Dual.{dual_of}
use Rattle.dd_quotient.proofs.DualLemmas.{small_symbol-dual}
use Rattle.dd_quotient.proofs.ImageLemmas.{between, too_large_or_small}
use Rattle.dd_opword.specs.Meaning.{meaning, parts_of}
use Rattle.dd_opword.specs.Words.{letters_of}
use Rattle.dd_opword.specs.declared.words.OpWord.{OpWord}
use Rattle.dd_opword.proofs.LetterTables.{meaning_symbol}
use Rattle.dd_template.specs.Table.{Table}
use Rattle.dd_template.specs.Made.{made}
use Rattle.dd_template.specs.Lawful.{IsLawful}
use Rattle.dd_template.specs.Named.{table_of_operation}
use Rattle.dd_template.proofs.NamedTables.{operation_lawful}
use Rattle.dd_template.proofs.MadeSymbols.{made_symbol}
use Rattle.dd_suite_commands.specs.declared.commands.SymbolCommand.{SymbolCommand}
use Rattle.dd_suite_commands.specs.declared.commands.SymbolCommand.TheVariants.{Lines, Canon, Minimal, Dual, Oriented, Torus, Derived, Applied}
use Rattle.dd_suite_commands.specs.InTurn.{AreInTurn}
use Rattle.dd_suite_commands.specs.declared.refusals.SymbolFault.{SymbolFault}
use Rattle.dd_suite_commands.specs.declared.refusals.SymbolFault.TheVariants.{TooManyChambers, BranchingTooLarge, NotFlat, TooManyVertices, TooWide}
use Rattle.dd_suite_commands.specs.declared.refusals.SymbolRefusal.{SymbolRefusal}
use Rattle.dd_suite_commands.specs.Made.{IsLeastImage, IsLeastCover, IsLeastTorus, IsDerived, IsApplied, HasTooMany, IsMade, IsFaultOf, IsFirstFault}
use Rattle.dd_suite_commands.proofs.InTurnLemmas.{in_turn_unique}
use Rattle.dd_suite_commands.proofs.TorusForms.{cover_torus}

form_once : (s t u : Symbol) → IsTable s → IsLeastForm s t → IsLeastForm s u → t ≡ u
form_once s t u table a b =
    least_unique t u a.symbol b.symbol a.least b.least (Isomorphic-trans t s u a.symbol.table (Isomorphic-sym s t table a.renumbering) b.renumbering)

image_once : (s t u : Symbol) → IsReadable s → IsLeastImage s t → IsLeastImage s u → t ≡ u
image_once s t u readable a b =
    let way = between s a.image b.image a.map b.map readable.symbol.symbol.table.involutions a.is_image b.is_image in
    (same_least_forms a.image b.image t u a.is_image.symbol b.is_image.symbol a.least b.least).1 (way.map, way.isomorphism)

dual_once : (s t u : Symbol) → IsReadable s → IsLeastForm (dual_of s) t → IsLeastForm (dual_of s) u → t ≡ u
dual_once s t u readable a b = form_once (dual_of s) t u (small_symbol-dual s readable.symbol).symbol.table a b

-- the oriented cover of a symbol that a file may hold is a table
pub cover_table : (s t : Symbol) (below : List ℕ) → IsReadable s → IsOrientedCover s t below → IsTable t
cover_table s t below readable (inl own) = subst IsTable (sym own.same) readable.symbol.symbol.table
cover_table s t below readable (inr twice) =
    let few = readable.size in
    subst IsTable (sym twice.sheets) (small_of_two s readable.symbol (omega arith)).symbol.table

cover_once : (s t u : Symbol) → IsReadable s → IsLeastCover s t → IsLeastCover s u → t ≡ u
cover_once s t u readable a b =
    let same = sym (oriented_cover_once s a.cover b.cover a.below b.below a.is_cover b.is_cover).0 in
    form_once a.cover t u (cover_table s a.cover a.below readable a.is_cover) a.least (subst (λ c. IsLeastForm c u) same b.least)

pub torus_once : (s t u : Symbol) → IsReadable s → IsLeastTorus s t → IsLeastTorus s u → t ≡ u
torus_once s t u readable a b =
    let same = (torus_cover_once s a.cover b.cover a.below b.below readable.symbol.symbol readable.connected a.is_cover b.is_cover).0 in
    let torus = cover_torus s a.cover a.below readable a.flat a.is_cover in
    form_once a.cover t u torus.symbol.table a.least (subst (λ c. IsLeastForm c u) (sym same) b.least)

derived_once : (table : Table) → IsLawful table → (s t u : Symbol) → IsReadable s → IsDerived table s t → IsDerived table s u → t ≡ u
derived_once table lawful s t u readable a b = form_once (made table s) t u (made_symbol table s lawful readable.symbol.symbol).table a.least b.least

applied_once : (w : OpWord) (s t u : Symbol) → IsReadable s → IsApplied w s t → IsApplied w s u → t ≡ u
applied_once w s t u readable a b = form_once (meaning (letters_of w) s) t u (meaning_symbol (letters_of w) s readable.symbol.symbol).table a.least b.least

pub made_once : (command : SymbolCommand) (s t u : Symbol) → IsReadable s → IsMade command s t → IsMade command s u → t ≡ u
made_once Lines s t u readable a b = sym a ∙ b
made_once Canon s t u readable a b = form_once s t u readable.symbol.symbol.table a b
made_once Minimal s t u readable a b = image_once s t u readable a b
made_once Dual s t u readable a b = dual_once s t u readable a b
made_once Oriented s t u readable a b = cover_once s t u readable a b
made_once Torus s t u readable a b = torus_once s t u readable a b
made_once (Derived operation) s t u readable a b = derived_once (table_of_operation operation) (operation_lawful operation) s t u readable a b
made_once (Applied word) s t u readable a b = applied_once word s t u readable a b

-- few chambers are not too many
not_too_many : (parts : ℕ) (s : Symbol) (why : SymbolFault) → s.size * parts ≤ 1024 → HasTooMany parts s why → ⊥
not_too_many parts s (TooManyChambers n) few fault = let many = fault.1 in omega arith
not_too_many parts s (BranchingTooLarge v) few fault = fault
not_too_many parts s (NotFlat x) few fault = fault
not_too_many parts s (TooManyVertices count) few fault = fault
not_too_many parts s (TooWide step row column) few fault = fault

-- of a symbol with a fault nothing is made
pub nothing_made : (command : SymbolCommand) (s t : Symbol) (why : SymbolFault) → IsReadable s → IsFaultOf command s why → IsMade command s t → ⊥
nothing_made Lines s t why readable fault is = fault
nothing_made Canon s t why readable fault is = fault
nothing_made Minimal s t (TooManyChambers n) readable fault is = fault
nothing_made Minimal s t (BranchingTooLarge v) readable fault is =
    too_large_or_small s fault.image is.image fault.map is.map v readable.symbol.symbol.table.involutions fault.first is.is_image is.small.branching
nothing_made Minimal s t (NotFlat x) readable fault is = fault
nothing_made Minimal s t (TooManyVertices count) readable fault is = fault
nothing_made Minimal s t (TooWide step row column) readable fault is = fault
nothing_made Dual s t why readable fault is = fault
nothing_made Oriented s t why readable fault is = fault
nothing_made Torus s t (TooManyChambers n) readable fault is = fault
nothing_made Torus s t (BranchingTooLarge v) readable fault is = fault
nothing_made Torus s t (NotFlat x) readable fault is = fault.0 is.flat
nothing_made Torus s t (TooManyVertices count) readable fault is = fault
nothing_made Torus s t (TooWide step row column) readable fault is = fault
nothing_made (Derived operation) s t why readable fault is = not_too_many (table_of_operation operation).parts s why is.few fault
nothing_made (Applied word) s t why readable fault is = not_too_many (parts_of (letters_of word)) s why is.few fault

-- of symbols of which one has a fault there is no list of what is made
pub none_all_made : (command : SymbolCommand) (k : ℕ) (ss ts : List Symbol) (r : SymbolRefusal) → AllByRecursion IsReadable ss → IsFirstFault command k ss r → AreInTurn (IsMade command) ss ts → ⊥
none_all_made command k [] ts r readable fault made = fault
none_all_made command k (s ∷ ss) [] r readable fault made = made
none_all_made command k (s ∷ ss) (t ∷ ts) r readable (inl here) made = nothing_made command s t r.why readable.0 here.1 made.0
none_all_made command k (s ∷ ss) (t ∷ ts) r readable (inr later) made = none_all_made command (k + 1) ss ts r readable.1 later.1 made.1

pub all_made_once : (command : SymbolCommand) (ss ts us : List Symbol) → AllByRecursion IsReadable ss → AreInTurn (IsMade command) ss ts → AreInTurn (IsMade command) ss us → ts ≡ us
all_made_once command = in_turn_unique (IsMade command) IsReadable (made_once command)
