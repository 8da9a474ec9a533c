-- Symbols and items that are read, one after the other.
use Rattle.std.proofs.Common.{◌≡◌, ℕ, ◌+◌, ◌<◌, ◌≤◌, List, [], ◌∷◌, ◌++◌, length, refl, sym, ap, ◌∙◌, subst, arith}
use Rattle.std.specs.Prelude.{Result, Ok, Err, IfOk, IfErr}
use Rattle.std.specs.List.{AllByRecursion}
use Rattle.dd_model.specs.declared.tokens.Placed.{Placed}
use Rattle.dd_model.specs.Symbol.{Symbol}
use Rattle.dd_model.specs.Parts.{Cursor, after_part, Spells}
use Rattle.dd_model.specs.Spelling.{Shape, parts_of, IsPlane}
use Rattle.dd_model.specs.Reading.{Item, Blank, Comment, Spelling, IsItem, AreItems, symbols_of, IsReadable, start, ReadsTo}
use Rattle.dd_text.specs.declared.faults.Why.{Why}
use Rattle.dd_text.specs.declared.faults.Why.TheVariants as whys
use Rattle.dd_text.specs.Reader.{step, stepped}
use Rattle.dd_text.specs.TextFaults.{IsTextFault}
use Rattle.dd_text.specs.SymbolFaults.{IsShapeFault}
use Rattle.dd_text.specs.Items.{TextTells, IsFaultOfText, IsFaultAtSymbol, ReadsSymbol, ReadsItem}
use Rattle.dd_text.specs.Texts.{IsTextTo}
use Rattle.dd_text.specs.declared.faults.Fault.{Fault}
use Rattle.dd_text.specs.declared.symbol_text.SymbolText.{SymbolText}
use Rattle.dd_text.proofs.NextPart.{after_part-le, line_end-le}

-- ---- one symbol

pub fault_in_text : (c : Cursor) (after : List ℕ) (w : Why) (at : ℕ) → c.rest ≡ 60 ∷ after → IsTextFault (record { at = c.at + 1; rest = after }) w at → IsFaultAtSymbol c w at
fault_in_text c after whys.Stray at e f = record { after = after; begins = e; fault = f }
fault_in_text c after whys.UnexpectedEnd at e f = record { after = after; begins = e; fault = f }
fault_in_text c after whys.NumberTooLong at e f = record { after = after; begins = e; fault = f }
fault_in_text c after whys.Dimension at e f = record { after = after; begins = e; fault = f }
fault_in_text c after whys.Size at e f = record { after = after; begins = e; fault = f }
fault_in_text c after whys.Memory at e f = tt
fault_in_text c after whys.ListShort at e f = absurd f
fault_in_text c after whys.ListLong at e f = absurd f
fault_in_text c after whys.Image at e f = absurd f
fault_in_text c after (whys.Symbol r) at e f = absurd f
fault_in_text c after whys.TooManySymbols at e f = absurd f
fault_in_text c after whys.Long at e f = absurd f

pub fault_in_shape : (c d : Cursor) (after : List ℕ) (x : Shape) (w : Why) (at : ℕ) → c.rest ≡ 60 ∷ after → Spells (record { at = c.at + 1; rest = after }) (parts_of x) d
    → IsPlane x → IsShapeFault x c.at w at → IsFaultAtSymbol c w at
fault_in_shape c d after x whys.ListShort at e s p f = record { after = after; begins = e; shape = x; end = d; spells = s; plane = p; fault = f }
fault_in_shape c d after x whys.ListLong at e s p f = record { after = after; begins = e; shape = x; end = d; spells = s; plane = p; fault = f }
fault_in_shape c d after x whys.Image at e s p f = record { after = after; begins = e; shape = x; end = d; spells = s; plane = p; fault = f }
fault_in_shape c d after x (whys.Symbol r) at e s p f = record { after = after; begins = e; shape = x; end = d; spells = s; plane = p; fault = f }
fault_in_shape c d after x whys.Memory at e s p f = tt
fault_in_shape c d after x whys.Stray at e s p f = absurd f
fault_in_shape c d after x whys.UnexpectedEnd at e s p f = absurd f
fault_in_shape c d after x whys.NumberTooLong at e s p f = absurd f
fault_in_shape c d after x whys.Dimension at e s p f = absurd f
fault_in_shape c d after x whys.Size at e s p f = absurd f
fault_in_shape c d after x whys.TooManySymbols at e s p f = absurd f
fault_in_shape c d after x whys.Long at e s p f = absurd f

-- ---- rows

items-append : (c d e : Cursor) (is js : List Item) → AreItems c is d → AreItems d js e → AreItems c (is ++ js) e
items-append c d e [] js a b = subst (λ z. AreItems z js e) (sym a) b
items-append c d e (i ∷ is) js a b = (a.0, a.1, items-append a.0 d e is js a.2 b)

symbols-append : (is js : List Item) → symbols_of (is ++ js) ≡ symbols_of is ++ symbols_of js
symbols-append [] js = refl
symbols-append (Blank ∷ is) js = symbols-append is js
symbols-append (Comment ∷ is) js = symbols-append is js
symbols-append (Spelling x s ∷ is) js = ap (λ zs. s ∷ zs) (symbols-append is js)

all-append : (ss ts : List Symbol) → AllByRecursion IsReadable ss → AllByRecursion IsReadable ts → AllByRecursion IsReadable (ss ++ ts)
all-append [] ts a b = b
all-append (s ∷ ss) ts a b = (a.0, all-append ss ts a.1 b)

pub reads_more : (bytes : List ℕ) (c d : Cursor) (old new : List Symbol) → ReadsTo bytes old c → ReadsItem c d old new → ReadsTo bytes new d
reads_more bytes c d old new r i = record {
  items = r.items ++ i.item ∷ [];
  row = items-append (start bytes) c d r.items (i.item ∷ []) r.row (d, i.stands, refl);
  symbols = symbols-append r.items (i.item ∷ []) ∙ ap (λ z. z ++ symbols_of (i.item ∷ [])) r.symbols ∙ sym i.symbols;
  readable = subst (AllByRecursion IsReadable) (sym i.symbols) (all-append old (symbols_of (i.item ∷ [])) r.readable i.readable);
}

pub reads_symbol : (c d : Cursor) (s : Symbol) (old new : List Symbol) → ReadsSymbol c s d → new ≡ old ++ s ∷ [] → ReadsItem c d old new
reads_symbol c d s old new r e = record { item = Spelling r.shape s; stands = r.spelling; symbols = e; readable = (r.readable, tt) }

-- ---- less is left

spells-le : (c d : Cursor) (ps : List Placed) → Spells c ps d → length d.rest ≤ length c.rest
spells-le c d [] a = let e = ap (λ (z : Cursor). length z.rest) a in omega arith
spells-le c d (p ∷ ps) a = let h = spells-le (after_part c) d ps a.1 in let g = after_part-le c in omega arith

item_shorter : (c d : Cursor) (i : Item) → IsItem c i d → length d.rest < length c.rest
item_shorter c d Blank a = let e = ap length a.begins in let f = ap (λ (z : Cursor). length z.rest) a.to in omega arith
item_shorter c d Comment a = let e = ap length a.begins in let f = ap (λ (z : Cursor). length z.rest) a.to in let g = line_end-le (c.at + 1) a.after in omega arith
item_shorter c d (Spelling x s) a = let e = ap length a.begins in let g = spells-le (record { at = c.at + 1; rest = a.after }) d (parts_of x) a.spells in omega arith

pub reads_shorter : (c d : Cursor) (old new : List Symbol) → ReadsItem c d old new → length d.rest < length c.rest
reads_shorter c d old new r = item_shorter c d r.item r.stands

-- ---- what a symbol's text leads to

pub advanced : (c : Cursor) (after : List ℕ) → c.rest ≡ 60 ∷ after → stepped c ≡ record { at = c.at + 1; rest = after }
advanced c after e = ap (step c.at) e

pub symbol_if : (c c1 d : Cursor) (after : List ℕ) (t : SymbolText) (r : Result Symbol Fault) → c.rest ≡ 60 ∷ after → c1 ≡ record { at = c.at + 1; rest = after } → IsTextTo c1 t d
    → IfOk r (λ s. TextTells t s) → IfOk r IsReadable → IfOk r (λ s. ReadsSymbol c s d)
symbol_if c c1 d after t (Err f) e at text tells readable = tt
symbol_if c c1 d after t (Ok s) e at text tells readable = record {
  shape = text.shape;
  spelling = record {
    after = after;
    begins = e;
    spells = subst (λ z. Spells z (parts_of text.shape) d) at text.spells;
    plane = text.plane;
    tells = tells text.shape text.text;
  };
  readable = readable;
}

pub fault_if : (c c1 d : Cursor) (after : List ℕ) (t : SymbolText) (place : ℕ) (r : Result Symbol Fault) → c.rest ≡ 60 ∷ after → c1 ≡ record { at = c.at + 1; rest = after } → IsTextTo c1 t d
    → place ≡ c.at → IfErr r (λ f. IsFaultOfText t place f) → IfErr r (λ f. IsFaultAtSymbol c f.why f.at)
fault_if c c1 d after t place (Ok s) e at text same fault = tt
fault_if c c1 d after t place (Err f) e at text same fault =
    fault_in_shape c d after text.shape f.why f.at e (subst (λ z. Spells z (parts_of text.shape) d) at text.spells) text.plane
    (subst (λ z. IsShapeFault text.shape z f.why f.at) same (fault text.shape text.text))
