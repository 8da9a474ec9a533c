-- What the functions that read a file promise.
use Rattle.std.specs.Prelude.{◌≡◌, ℕ, List, [], ◌∷◌, ◌++◌}
use Rattle.std.specs.List.{AllByRecursion}
use Rattle.dd_model.specs.Symbol.{Symbol}
use Rattle.dd_model.specs.Parts.{Cursor}
use Rattle.dd_model.specs.Spelling.{Shape, Tells, values}
use Rattle.dd_model.specs.Reading.{IsSpellingTo, Item, IsItem, symbols_of, IsReadable}
use Rattle.dd_symbol.specs.declared.refusals.Refusal.{Refusal}
use Rattle.dd_symbol.specs.declared.refusals.Refusal.TheVariants as refusals
use Rattle.dd_text.specs.declared.faults.Fault.{Fault}
use Rattle.dd_text.specs.declared.symbol_text.SymbolText.{SymbolText}
use Rattle.dd_text.specs.Texts.{IsTextOf, told_of}
use Rattle.dd_text.specs.Images.{IsToldBy}
use Rattle.dd_symbol.specs.Building.{listed}
use Rattle.dd_text.specs.SymbolFaults.{IsShapeFault, IsSymbolFault}
use Rattle.dd_text.specs.FileFaults.{IsFaultAfter}
use Rattle.dd_text.specs.declared.faults.Why.{Why}
use Rattle.dd_text.specs.declared.faults.Why.TheVariants.{Stray, UnexpectedEnd, NumberTooLong, Dimension, Size, ListShort, ListLong, Image, Symbol as Refused, TooManySymbols, Long, Memory}

-- why a symbol is not read that is refused
abbrev pub why_of : Refusal → Why
why_of refusals.Memory = Memory
why_of why = Refused why

-- the involutions that the numbers tell
pub record AreInvolutionsOf (t : SymbolText) (s : Symbol) : Type 0 where
  pub s0 : List ℕ
  pub s1 : List ℕ
  pub s2 : List ℕ
  pub s0_told : IsToldBy t.size (values (told_of t.s0)) s0
  pub s1_told : IsToldBy t.size (values (told_of t.s1)) s1
  pub s2_told : IsToldBy t.size (values (told_of t.s2)) s2
  pub same : s ≡ listed s0 s1 s2 [] []

-- the numbers tell this symbol
abbrev pub TextTells : SymbolText → Symbol → Type 0
TextTells t s = (x : Shape) → IsTextOf t x → Tells x s

-- the numbers are faulty
abbrev pub IsFaultOfText : SymbolText → ℕ → Fault → Type 0
IsFaultOfText t place fault = (x : Shape) → IsTextOf t x → IsShapeFault x place fault.why fault.at

-- the fault of the text that begins at c, or of its symbol
abbrev pub IsFaultAtSymbol : Cursor → Why → ℕ → Type 0
IsFaultAtSymbol c Stray at = IsFaultAfter c Stray at
IsFaultAtSymbol c UnexpectedEnd at = IsFaultAfter c UnexpectedEnd at
IsFaultAtSymbol c NumberTooLong at = IsFaultAfter c NumberTooLong at
IsFaultAtSymbol c Dimension at = IsFaultAfter c Dimension at
IsFaultAtSymbol c Size at = IsFaultAfter c Size at
IsFaultAtSymbol c ListShort at = IsSymbolFault c ListShort at
IsFaultAtSymbol c ListLong at = IsSymbolFault c ListLong at
IsFaultAtSymbol c Image at = IsSymbolFault c Image at
IsFaultAtSymbol c (Refused why) at = IsSymbolFault c (Refused why) at
IsFaultAtSymbol c TooManySymbols at = ⊥
IsFaultAtSymbol c Long at = ⊥
IsFaultAtSymbol c Memory at = Unit {0}

-- from c to d stands a symbol
pub record ReadsSymbol (c : Cursor) (s : Symbol) (d : Cursor) : Type 0 where
  pub shape : Shape
  pub spelling : IsSpellingTo c shape s d
  pub readable : IsReadable s

-- from c to d stands an item, whose symbol is put behind the others
pub record ReadsItem (c d : Cursor) (old new : List Symbol) : Type 0 where
  pub item : Item
  pub stands : IsItem c item d
  pub symbols : new ≡ old ++ symbols_of (item ∷ [])
  pub readable : AllByRecursion IsReadable (symbols_of (item ∷ []))
