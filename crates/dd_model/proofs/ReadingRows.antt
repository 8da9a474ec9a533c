-- A file spells at most one list of symbols.
use Rattle.std.proofs.Common.{◌≡◌, ℕ, ◌+◌, true, false, List, [], ◌∷◌, refl, sym, ap, ◌∙◌, subst, arith}
use Rattle.std.specs.List.{AllByRecursion}
use Rattle.dd_model.specs.Symbol.{Symbol}
use Rattle.dd_model.specs.Parts.{Cursor, is_blank, Spells}
use Rattle.dd_model.specs.Spelling.{parts_of, Tells}
use Rattle.dd_model.specs.Reading.{line_end, Item, Blank, Comment, Spelling, IsItem, AreItems, symbols_of, IsReadable, start, Reads}
use Rattle.dd_model.proofs.ReadingParts.{same_shape}
use Rattle.dd_model.proofs.ReadingSymbols.{same_symbol}
use Rattle.dd_model.proofs.Lists.{cons_head, cons_tail}

-- no blank begins a comment or a symbol
pub no_blank : (b c : ℕ) (xs ys rest : List ℕ) → rest ≡ b ∷ xs → rest ≡ c ∷ ys → is_blank b ≡ true → is_blank c ≡ false → ⊥
no_blank b c xs ys rest e f blank other = let same : b ≡ c = cons_head b c xs ys (sym e ∙ f) in cc (ap is_blank same)

pub no_byte : (b c : ℕ) (xs ys rest : List ℕ) → rest ≡ b ∷ xs → rest ≡ c ∷ ys → b ≡ c
no_byte b c xs ys rest e f = cons_head b c xs ys (sym e ∙ f)

pub same_rest : (b c : ℕ) (xs ys rest : List ℕ) → rest ≡ b ∷ xs → rest ≡ c ∷ ys → xs ≡ ys
same_rest b c xs ys rest e f = cons_tail b c xs ys (sym e ∙ f)

-- the text ends where no item is left
pub no_item : (c d : Cursor) (i : Item) → c.rest ≡ [] → IsItem c i d → ⊥
no_item c d Blank e a = let f = sym e ∙ a.begins in cc
no_item c d Comment e a = let f = sym e ∙ a.begins in cc
no_item c d (Spelling x s) e a = let f = sym e ∙ a.begins in cc

-- what two items at one place have in common
abbrev pub SameItem : Item → Item → Type 0
SameItem (Spelling x s) (Spelling y t) = x ≡ y
SameItem Blank Blank = Unit {0}
SameItem Comment Comment = Unit {0}
SameItem i j = ⊥

pub record SameItems (i j : Item) (d e : Cursor) : Type 0 where
  pub kinds : SameItem i j
  pub ends : d ≡ e

pub same_item : (c d e : Cursor) (i j : Item) → IsItem c i d → IsItem c j e → SameItems i j d e
same_item c d e Blank Blank a b = record { kinds = tt; ends = sym a.to ∙ ap (λ r. record { at = c.at + 1; rest = r }) (same_rest a.byte b.byte a.after b.after c.rest a.begins b.begins) ∙ b.to }
same_item c d e Blank Comment a b = absurd (no_blank a.byte 35 a.after b.after c.rest a.begins b.begins a.blank refl)
same_item c d e Blank (Spelling y t) a b = absurd (no_blank a.byte 60 a.after b.after c.rest a.begins b.begins a.blank refl)
same_item c d e Comment Blank a b = absurd (no_blank b.byte 35 b.after a.after c.rest b.begins a.begins b.blank refl)
same_item c d e Comment Comment a b = record { kinds = tt; ends = sym a.to ∙ ap (line_end (c.at + 1)) (same_rest 35 35 a.after b.after c.rest a.begins b.begins) ∙ b.to }
same_item c d e Comment (Spelling y t) a b = let f = no_byte 35 60 a.after b.after c.rest a.begins b.begins in absurd (omega arith)
same_item c d e (Spelling x s) Blank a b = absurd (no_blank b.byte 60 b.after a.after c.rest b.begins a.begins b.blank refl)
same_item c d e (Spelling x s) Comment a b = let f = no_byte 60 35 a.after b.after c.rest a.begins b.begins in absurd (omega arith)
same_item c d e (Spelling x s) (Spelling y t) a b =
    let rest : a.after ≡ b.after = same_rest 60 60 a.after b.after c.rest a.begins b.begins in
    let other = subst (λ r. Spells (record { at = c.at + 1; rest = r }) (parts_of y) e) (sym rest) b.spells in
    let same = same_shape (record { at = c.at + 1; rest = a.after }) d e x y a.spells other in
    record { kinds = same.same; ends = same.ends }

-- Two rows from one place to the end of the text have the same symbols.
pub same_row : (c d e : Cursor) (is js : List Item) → AreItems c is d → AreItems c js e → d.rest ≡ [] → e.rest ≡ []
    → AllByRecursion IsReadable (symbols_of is) → AllByRecursion IsReadable (symbols_of js) → symbols_of is ≡ symbols_of js
same_row c d e [] [] a b end end' r r' = refl
same_row c d e [] (j ∷ js) a b end end' r r' = absurd (no_item c b.0 j (ap (λ x. x.rest) a ∙ end) b.1)
same_row c d e (i ∷ is) [] a b end end' r r' = absurd (no_item c a.0 i (ap (λ x. x.rest) b ∙ end') a.1)
same_row c d e (Blank ∷ is) (Blank ∷ js) a b end end' r r' =
    let row = subst (λ z. AreItems z js e) (sym (same_item c a.0 b.0 Blank Blank a.1 b.1).ends) b.2 in
    same_row a.0 d e is js a.2 row end end' r r'
same_row c d e (Blank ∷ is) (Comment ∷ js) a b end end' r r' = absurd (same_item c a.0 b.0 Blank Comment a.1 b.1).kinds
same_row c d e (Blank ∷ is) (Spelling y t ∷ js) a b end end' r r' = absurd (same_item c a.0 b.0 Blank (Spelling y t) a.1 b.1).kinds
same_row c d e (Comment ∷ is) (Blank ∷ js) a b end end' r r' = absurd (same_item c a.0 b.0 Comment Blank a.1 b.1).kinds
same_row c d e (Comment ∷ is) (Comment ∷ js) a b end end' r r' =
    let row = subst (λ z. AreItems z js e) (sym (same_item c a.0 b.0 Comment Comment a.1 b.1).ends) b.2 in
    same_row a.0 d e is js a.2 row end end' r r'
same_row c d e (Comment ∷ is) (Spelling y t ∷ js) a b end end' r r' = absurd (same_item c a.0 b.0 Comment (Spelling y t) a.1 b.1).kinds
same_row c d e (Spelling x s ∷ is) (Blank ∷ js) a b end end' r r' = absurd (same_item c a.0 b.0 (Spelling x s) Blank a.1 b.1).kinds
same_row c d e (Spelling x s ∷ is) (Comment ∷ js) a b end end' r r' = absurd (same_item c a.0 b.0 (Spelling x s) Comment a.1 b.1).kinds
same_row c d e (Spelling x s ∷ is) (Spelling y t ∷ js) a b end end' r r' =
    let same = same_item c a.0 b.0 (Spelling x s) (Spelling y t) a.1 b.1 in
    let told = subst (λ z. Tells z t) (sym same.kinds) b.1.tells in
    let symbol = same_symbol x s t r.0.symbol.symbol r'.0.symbol.symbol a.1.tells told in
    let row = subst (λ z. AreItems z js e) (sym same.ends) b.2 in
    ap (λ z. z ∷ symbols_of is) symbol ∙ ap (λ zs. t ∷ zs) (same_row a.0 d e is js a.2 row end end' r.1 r'.1)

pub reads_once : (bytes : List ℕ) (ss ts : List Symbol) → Reads bytes ss → Reads bytes ts → ss ≡ ts
reads_once bytes ss ts a b =
    let r = subst (AllByRecursion IsReadable) (sym a.row.symbols) a.row.readable in
    let r' = subst (AllByRecursion IsReadable) (sym b.row.symbols) b.row.readable in
    sym a.row.symbols ∙ same_row (start bytes) a.end b.end a.row.items b.row.items a.row.row b.row.row a.whole b.whole r r' ∙ b.row.symbols
