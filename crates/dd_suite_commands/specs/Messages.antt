-- The texts that tell of a symbol of which nothing is made.
use Rattle.std.specs.Prelude.{ℕ, List, ◌++◌, codes, decimal}
use Rattle.dd_suite_commands.specs.Facts.{fraction_text}
use Rattle.dd_suite_commands.specs.declared.refusals.SymbolFault.{SymbolFault}
use Rattle.dd_suite_commands.specs.declared.refusals.SymbolFault.TheVariants.{TooManyChambers, BranchingTooLarge, NotFlat, TooManyVertices, TooWide}
use Rattle.dd_suite_commands.specs.declared.refusals.SymbolRefusal.{SymbolRefusal}
use Rattle.dd_text.specs.Messages.{fault_text}
use Rattle.dd_suite_commands.specs.declared.merge_refusal.MergeRefusal.{MergeRefusal}
use Rattle.dd_suite_commands.specs.declared.merge_refusal.MergeRefusal.TheVariants.{File, NotAscending, Doubled}

-- why nothing is made of a symbol
abbrev pub symbol_fault_text : SymbolFault → List ℕ
symbol_fault_text (TooManyChambers n) = codes "too many chambers " ++ decimal n
symbol_fault_text (BranchingTooLarge v) = codes "branching too large " ++ decimal v
symbol_fault_text (NotFlat x) = codes "not flat " ++ fraction_text x
symbol_fault_text (TooManyVertices count) = codes "too many vertices " ++ decimal count
symbol_fault_text (TooWide step row column) =
    codes "too wide step " ++ (decimal step ++ (codes " row " ++ (decimal row ++ (codes " column " ++ decimal column))))

-- the symbol of a file of which nothing is made
abbrev pub symbol_refusal_text : SymbolRefusal → List ℕ
symbol_refusal_text r = codes "symbol " ++ (decimal r.symbol ++ (codes ": " ++ symbol_fault_text r.why))

-- why files are not merged
abbrev pub merge_refusal_text : MergeRefusal → List ℕ
merge_refusal_text (File n fault) = codes "file " ++ (decimal n ++ (codes ": " ++ fault_text fault))
merge_refusal_text (NotAscending n symbol) =
    codes "file " ++ (decimal n ++ (codes ": symbol " ++ (decimal symbol ++ codes " not ascending")))
merge_refusal_text (Doubled n symbol) =
    codes "file " ++ (decimal n ++ (codes ": symbol " ++ (decimal symbol ++ codes " doubled")))
