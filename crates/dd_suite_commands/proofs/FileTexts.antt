-- A file has one text for a command at most, and none where it is refused.
use Rattle.std.proofs.Common.{◌≡◌, ◌≢◌, ℕ, List, subst}
use Rattle.std.specs.List.{AllByRecursion}
use Rattle.dd_model.specs.Symbol.{Symbol}
use Rattle.dd_model.specs.Text.{AreLines}
use Rattle.dd_model.specs.Reading.{IsReadable}
use Rattle.dd_model.proofs.Texts.{lines_unique}
use Rattle.dd_model.proofs.ReadingRows.{reads_once}
use Rattle.dd_text.specs.declared.faults.FileFault.{FileFault}
use Rattle.dd_text.specs.declared.faults.Why.{Why}
use Rattle.dd_text.specs.declared.faults.Why.TheVariants.{Stray, UnexpectedEnd, NumberTooLong, Dimension, Size, ListShort, ListLong, Image, Symbol as NoSymbol, TooManySymbols, Long, Memory as NoRoom}
use Rattle.dd_suite_commands.specs.declared.commands.FileCommand.{FileCommand}
use Rattle.dd_suite_commands.specs.declared.commands.FileCommand.TheVariants.{Symbols, Info, Sheets, Draw}
use Rattle.dd_suite_commands.specs.declared.refusals.SymbolRefusal.{SymbolRefusal}
use Rattle.dd_suite_commands.specs.Files.{IsTextOf, IsFileText, IsRefused, IsFaulty}
use Rattle.dd_suite_commands.specs.Faults.{IsCommandFault, fault_of_why}
use Rattle.dd_suite_commands.proofs.MadeOnce.{all_made_once, none_all_made}
use Rattle.dd_suite_commands.proofs.DrawnOnce.{drawings_once, none_drawn}
use Rattle.dd_suite_commands.proofs.InfoLemmas.{info_once}
use Rattle.dd_suite_commands.proofs.SheetLinesOnce.{sheet_lines_once, no_sheet_lines}

text_unique : (command : FileCommand) (ss : List Symbol) (a b : List ℕ) → AllByRecursion IsReadable ss → IsTextOf command ss a → IsTextOf command ss b → a ≡ b
text_unique (Symbols command) ss a b readable x y =
    let same : y.made ≡ x.made = all_made_once command ss y.made x.made readable y.are_made x.are_made in
    lines_unique 0 x.made a b x.lines (subst (λ ts. AreLines 0 ts b) same y.lines)
text_unique Info ss a b readable x y = info_once ss a b readable x y
text_unique Sheets ss a b readable x y = sheet_lines_once 1 ss a b x y
text_unique (Draw frame) ss a b readable x y = drawings_once frame ss a b readable x y

pub file_text_unique : (command : FileCommand) (bytes a b : List ℕ) → IsFileText command bytes a → IsFileText command bytes b → a ≡ b
file_text_unique command bytes a b x y =
    let symbols : y.symbols ≡ x.symbols = reads_once bytes y.symbols x.symbols y.reads x.reads in
    text_unique command x.symbols a b x.reads.row.readable x.written (subst (λ ts. IsTextOf command ts b) symbols y.written)

-- a file with a symbol that is refused has no text
pub refused_without_text : (command : FileCommand) (bytes text : List ℕ) (r : SymbolRefusal) → IsRefused command bytes r → IsFileText command bytes text → ⊥
refused_without_text (Symbols command) bytes text r refused is =
    let symbols : is.symbols ≡ refused.symbols = reads_once bytes is.symbols refused.symbols is.reads refused.reads in
    let made = subst (λ ss. IsTextOf (Symbols command) ss text) symbols is.written in
    none_all_made command 1 refused.symbols made.made r refused.reads.row.readable refused.first made.are_made
refused_without_text Info bytes text r refused is = refused.first
refused_without_text Sheets bytes text r refused is =
    let symbols : is.symbols ≡ refused.symbols = reads_once bytes is.symbols refused.symbols is.reads refused.reads in
    no_sheet_lines 1 refused.symbols text r refused.first (subst (λ ss. IsTextOf Sheets ss text) symbols is.written)
refused_without_text (Draw frame) bytes text r refused is =
    let symbols : is.symbols ≡ refused.symbols = reads_once bytes is.symbols refused.symbols is.reads refused.reads in
    none_drawn frame 1 refused.symbols text r refused.reads.row.readable refused.first (subst (λ ss. IsTextOf (Draw frame) ss text) symbols is.written)

-- A fault other than want of memory means that no list of symbols is spelled.
pub stop_of_fault : (command : FileCommand) (why : Why) (fault : FileFault) (bytes : List ℕ) → (why ≢ NoRoom → IsFaulty bytes fault) → IsCommandFault command (fault_of_why why fault) bytes
stop_of_fault command NoRoom fault bytes none = tt
stop_of_fault command Stray fault bytes none = none (λ e. (cc))
stop_of_fault command UnexpectedEnd fault bytes none = none (λ e. (cc))
stop_of_fault command NumberTooLong fault bytes none = none (λ e. (cc))
stop_of_fault command Dimension fault bytes none = none (λ e. (cc))
stop_of_fault command Size fault bytes none = none (λ e. (cc))
stop_of_fault command ListShort fault bytes none = none (λ e. (cc))
stop_of_fault command ListLong fault bytes none = none (λ e. (cc))
stop_of_fault command Image fault bytes none = none (λ e. (cc))
stop_of_fault command (NoSymbol refusal) fault bytes none = none (λ e. (cc))
stop_of_fault command TooManySymbols fault bytes none = none (λ e. (cc))
stop_of_fault command Long fault bytes none = none (λ e. (cc))
