-- A file has one fault.
use Rattle.std.proofs.Common.{◌≡◌, ◌≢◌, ℕ, ◌+◌, ◌<◌, ◌≤◌, List, [], ◌∷◌, length, refl, sym, ap, ◌∙◌, subst, ⊎_elim, arith}
use Rattle.std.specs.List.{AllByRecursion}
use Rattle.dd_model.specs.declared.pair.Pair.TheVariants.{Tile, Vertex}
use Rattle.dd_model.specs.Symbol.{Symbol, item}
use Rattle.dd_model.specs.Parts.{Cursor, Spells}
use Rattle.dd_model.specs.Spelling.{Shape, parts_of, values}
use Rattle.dd_model.specs.Reading.{Item, AreItems, symbols_of, IsReadable, start}
use Rattle.dd_model.proofs.ReadingParts.{same_shape}
use Rattle.dd_model.proofs.ReadingRows.{same_item, no_byte, same_rest}
use Rattle.dd_model.proofs.ReadingSymbols.{HaveSameImages}
use Rattle.dd_symbol.specs.Building.{listed}
use Rattle.dd_symbol.specs.declared.refusals.Refusal.{Refusal}
use Rattle.dd_symbol.specs.Refusals.{IsRefused}
use Rattle.dd_symbol.proofs.RefusalRows.{refusal_unique}
use Rattle.dd_text.specs.declared.faults.Why.{Why}
use Rattle.dd_text.specs.declared.faults.Why.TheVariants as whys
use Rattle.dd_text.specs.declared.faults.FileFault.{FileFault}
use Rattle.dd_text.specs.TextFaults.{IsTextFault}
use Rattle.dd_text.specs.ListFaults.{IsDegreesFault}
use Rattle.dd_text.specs.SymbolFaults.{AreTold, IsListsFault, IsNoSymbol, IsShapeFault, IsSymbolFault, in_s0, in_s1, in_s2, in_m01, in_m12}
use Rattle.dd_text.specs.FileFaults.{IsFaultAfter, IsStrayBetween, IsOneTooMany, IsNextFault, IsFaultWithin, IsTooLongFile, IsFileFault, IsFileFaultOf}
use Rattle.dd_text.proofs.TextExclusion.{text_excluded}
use Rattle.dd_text.proofs.ListExclusion.{told_by_unique, images_excluded}
use Rattle.dd_text.proofs.SymbolExclusion.{degrees_excluded, lists_excluded, given_images, given_tells, tells_once}
use Rattle.dd_text.proofs.RowExclusion.{next_no_item, one_of, rest_of, count_of, same_count}
use Rattle.dd_text.proofs.TextUnique.{SameFault, text_once}
use Rattle.dd_text.proofs.ListUnique.{images_once, degrees_once}

-- ---- lists

bare_once : (x : Shape) (p q r s t u : List ℕ) → AreTold x p q r → AreTold x s t u → listed p q r [] [] ≡ listed s t u [] []
bare_once x p q r s t u a b =
    ap (λ z. listed z q r [] []) (told_by_unique x.size.value (values x.s0) p s a.s0_told b.s0_told)
    ∙ ap (λ z. listed s z r [] []) (told_by_unique x.size.value (values x.s1) q t a.s1_told b.s1_told)
    ∙ ap (λ z. listed s t z [] []) (told_by_unique x.size.value (values x.s2) r u a.s2_told b.s2_told)

same_images : {s : Symbol} → HaveSameImages s s
same_images = record { size = refl; images = λ i d. refl }

lists_once : (x : Shape) (v w : Why) (a b : ℕ) → IsListsFault x v a → IsListsFault x w b → v ≢ whys.Memory → w ≢ whys.Memory → SameFault v w a b
lists_once x v w a b (in_s0 f1) (in_s0 f2) some other = images_once x.size.value x.s0 v w a b f1 f2 some other
lists_once x v w a b (in_s0 f1) (in_s1 p2 t2 f2) some other = absurd (images_excluded x.size.value x.s0 v a p2 f1 some t2)
lists_once x v w a b (in_s0 f1) (in_s2 p2 q2 t2 u2 f2) some other = absurd (images_excluded x.size.value x.s0 v a p2 f1 some t2)
lists_once x v w a b (in_s0 f1) (in_m01 p2 q2 r2 t2 f2) some other = absurd (images_excluded x.size.value x.s0 v a p2 f1 some t2.s0_told)
lists_once x v w a b (in_s0 f1) (in_m12 p2 q2 r2 m2 t2 d2 f2) some other = absurd (images_excluded x.size.value x.s0 v a p2 f1 some t2.s0_told)
lists_once x v w a b (in_s1 p1 t1 f1) (in_s0 f2) some other = absurd (images_excluded x.size.value x.s0 w b p1 f2 other t1)
lists_once x v w a b (in_s1 p1 t1 f1) (in_s1 p2 t2 f2) some other = images_once x.size.value x.s1 v w a b f1 f2 some other
lists_once x v w a b (in_s1 p1 t1 f1) (in_s2 p2 q2 t2 u2 f2) some other = absurd (images_excluded x.size.value x.s1 v a q2 f1 some u2)
lists_once x v w a b (in_s1 p1 t1 f1) (in_m01 p2 q2 r2 t2 f2) some other = absurd (images_excluded x.size.value x.s1 v a q2 f1 some t2.s1_told)
lists_once x v w a b (in_s1 p1 t1 f1) (in_m12 p2 q2 r2 m2 t2 d2 f2) some other = absurd (images_excluded x.size.value x.s1 v a q2 f1 some t2.s1_told)
lists_once x v w a b (in_s2 p1 q1 t1 u1 f1) (in_s0 f2) some other = absurd (images_excluded x.size.value x.s0 w b p1 f2 other t1)
lists_once x v w a b (in_s2 p1 q1 t1 u1 f1) (in_s1 p2 t2 f2) some other = absurd (images_excluded x.size.value x.s1 w b q1 f2 other u1)
lists_once x v w a b (in_s2 p1 q1 t1 u1 f1) (in_s2 p2 q2 t2 u2 f2) some other = images_once x.size.value x.s2 v w a b f1 f2 some other
lists_once x v w a b (in_s2 p1 q1 t1 u1 f1) (in_m01 p2 q2 r2 t2 f2) some other = absurd (images_excluded x.size.value x.s2 v a r2 f1 some t2.s2_told)
lists_once x v w a b (in_s2 p1 q1 t1 u1 f1) (in_m12 p2 q2 r2 m2 t2 d2 f2) some other = absurd (images_excluded x.size.value x.s2 v a r2 f1 some t2.s2_told)
lists_once x v w a b (in_m01 p1 q1 r1 t1 f1) (in_s0 f2) some other = absurd (images_excluded x.size.value x.s0 w b p1 f2 other t1.s0_told)
lists_once x v w a b (in_m01 p1 q1 r1 t1 f1) (in_s1 p2 t2 f2) some other = absurd (images_excluded x.size.value x.s1 w b q1 f2 other t1.s1_told)
lists_once x v w a b (in_m01 p1 q1 r1 t1 f1) (in_s2 p2 q2 t2 u2 f2) some other = absurd (images_excluded x.size.value x.s2 w b r1 f2 other t1.s2_told)
lists_once x v w a b (in_m01 p1 q1 r1 t1 f1) (in_m01 p2 q2 r2 t2 f2) some other = degrees_once (listed p2 q2 r2 [] []) Tile x.m01 v w a b (subst (λ z. IsDegreesFault z Tile x.m01 v a) (bare_once x p1 q1 r1 p2 q2 r2 t1 t2) f1) f2 some other
lists_once x v w a b (in_m01 p1 q1 r1 t1 f1) (in_m12 p2 q2 r2 m2 t2 d2 f2) some other = absurd (degrees_excluded (listed p2 q2 r2 [] []) (listed p2 q2 r2 [] []) Tile x.m01 d2.cells (item m2) v a same_images d2.are_cells (sym d2.at_cells) (subst (λ z. IsDegreesFault z Tile x.m01 v a) (bare_once x p1 q1 r1 p2 q2 r2 t1 t2) f1) some)
lists_once x v w a b (in_m12 p1 q1 r1 m1 t1 d1 f1) (in_s0 f2) some other = absurd (images_excluded x.size.value x.s0 w b p1 f2 other t1.s0_told)
lists_once x v w a b (in_m12 p1 q1 r1 m1 t1 d1 f1) (in_s1 p2 t2 f2) some other = absurd (images_excluded x.size.value x.s1 w b q1 f2 other t1.s1_told)
lists_once x v w a b (in_m12 p1 q1 r1 m1 t1 d1 f1) (in_s2 p2 q2 t2 u2 f2) some other = absurd (images_excluded x.size.value x.s2 w b r1 f2 other t1.s2_told)
lists_once x v w a b (in_m12 p1 q1 r1 m1 t1 d1 f1) (in_m01 p2 q2 r2 t2 f2) some other = absurd (degrees_excluded (listed p1 q1 r1 [] []) (listed p1 q1 r1 [] []) Tile x.m01 d1.cells (item m1) w b same_images d1.are_cells (sym d1.at_cells) (subst (λ z. IsDegreesFault z Tile x.m01 w b) (bare_once x p2 q2 r2 p1 q1 r1 t2 t1) f2) other)
lists_once x v w a b (in_m12 p1 q1 r1 m1 t1 d1 f1) (in_m12 p2 q2 r2 m2 t2 d2 f2) some other = degrees_once (listed p2 q2 r2 [] []) Vertex x.m12 v w a b (subst (λ z. IsDegreesFault z Vertex x.m12 v a) (bare_once x p1 q1 r1 p2 q2 r2 t1 t2) f1) f2 some other

-- ---- symbols

data ShapeKind (x : Shape) (place : ℕ) (w : Why) (at : ℕ) : Type 0 where
  lists : IsListsFault x w at → ShapeKind x place w at
  refused : (r : Refusal) → w ≡ whys.Symbol r → IsNoSymbol x r → place ≡ at → ShapeKind x place w at

shape_kind : (x : Shape) (place : ℕ) (w : Why) (at : ℕ) → IsShapeFault x place w at → w ≢ whys.Memory → ShapeKind x place w at
shape_kind x place whys.Stray at f some = absurd f
shape_kind x place whys.UnexpectedEnd at f some = absurd f
shape_kind x place whys.NumberTooLong at f some = absurd f
shape_kind x place whys.Dimension at f some = absurd f
shape_kind x place whys.Size at f some = absurd f
shape_kind x place whys.ListShort at f some = lists f
shape_kind x place whys.ListLong at f some = lists f
shape_kind x place whys.Image at f some = lists f
shape_kind x place (whys.Symbol r) at f some = refused r refl f.0 f.1
shape_kind x place whys.TooManySymbols at f some = absurd f
shape_kind x place whys.Long at f some = absurd f
shape_kind x place whys.Memory at f some = absurd (some refl)

refused_once : (x : Shape) (r q : Refusal) → IsNoSymbol x r → IsNoSymbol x q → r ≡ q
refused_once x r q f g =
    let same = tells_once x f.lists g.lists (given_tells x f.lists f.gives) (given_tells x g.lists g.gives) in
    refusal_unique 1024 g.lists r q (subst (λ z. IsRefused 1024 z r) same f.refused) g.refused f.some g.some

shape_kinds : (x : Shape) (place : ℕ) (v w : Why) (a b : ℕ) → ShapeKind x place v a → ShapeKind x place w b → v ≢ whys.Memory → w ≢ whys.Memory → SameFault v w a b
shape_kinds x place v w a b (lists f) (lists g) some other = lists_once x v w a b f g some other
shape_kinds x place v w a b (lists f) (refused q e g p) some other = absurd (lists_excluded x g.lists v a g.gives.tells (given_images x g.lists g.gives) f some)
shape_kinds x place v w a b (refused r e f p) (lists g) some other = absurd (lists_excluded x f.lists w b f.gives.tells (given_images x f.lists f.gives) g other)
shape_kinds x place v w a b (refused r e f p) (refused q h g o) some other = record { why = e ∙ ap (λ z. whys.Symbol z) (refused_once x r q f g) ∙ sym h; place = sym p ∙ o }

-- ---- what comes next

data NextKind (c : Cursor) (k : ℕ) (w : Why) (at : ℕ) : Type 0 where
  between : w ≡ whys.Stray → IsStrayBetween c at → NextKind c k w at
  text : k < 1000000 → IsFaultAfter c w at → NextKind c k w at
  symbol : k < 1000000 → IsSymbolFault c w at → NextKind c k w at
  many : w ≡ whys.TooManySymbols → IsOneTooMany c k at → NextKind c k w at

next_kind : (c : Cursor) (k : ℕ) (w : Why) (at : ℕ) → IsNextFault c k w at → w ≢ whys.Memory → NextKind c k w at
next_kind c k whys.Stray at f some = ⊎_elim (λ g. between refl g) (λ g. text g.0 g.1) f
next_kind c k whys.UnexpectedEnd at f some = text f.0 f.1
next_kind c k whys.NumberTooLong at f some = text f.0 f.1
next_kind c k whys.Dimension at f some = text f.0 f.1
next_kind c k whys.Size at f some = text f.0 f.1
next_kind c k whys.ListShort at f some = symbol f.0 f.1
next_kind c k whys.ListLong at f some = symbol f.0 f.1
next_kind c k whys.Image at f some = symbol f.0 f.1
next_kind c k (whys.Symbol r) at f some = symbol f.0 f.1
next_kind c k whys.TooManySymbols at f some = many refl f
next_kind c k whys.Long at f some = absurd f
next_kind c k whys.Memory at f some = absurd (some refl)

no_symbol : (c : Cursor) (after : List ℕ) (at : ℕ) → IsStrayBetween c at → c.rest ≡ 60 ∷ after → ⊥
no_symbol c after at f e = f.no_symbol (no_byte f.byte 60 f.after after c.rest f.begins e)

text_or_symbol : (c : Cursor) (v w : Why) (a b : ℕ) → IsFaultAfter c v a → IsSymbolFault c w b → v ≢ whys.Memory → ⊥
text_or_symbol c v w a b f g some =
    let rest = same_rest 60 60 g.after f.after c.rest g.begins f.begins in
    text_excluded (record { at = c.at + 1; rest = f.after }) g.end g.shape v a f.fault some
    (subst (λ z. Spells (record { at = c.at + 1; rest = z }) (parts_of g.shape) g.end) rest g.spells) g.plane

texts_once : (c : Cursor) (v w : Why) (a b : ℕ) → IsFaultAfter c v a → IsFaultAfter c w b → v ≢ whys.Memory → w ≢ whys.Memory → SameFault v w a b
texts_once c v w a b f g some other =
    let rest = same_rest 60 60 f.after g.after c.rest f.begins g.begins in
    text_once (record { at = c.at + 1; rest = g.after }) v w a b (subst (λ z. IsTextFault (record { at = c.at + 1; rest = z }) v a) rest f.fault) g.fault some other

symbols_once : (c : Cursor) (v w : Why) (a b : ℕ) → IsSymbolFault c v a → IsSymbolFault c w b → v ≢ whys.Memory → w ≢ whys.Memory → SameFault v w a b
symbols_once c v w a b f g some other =
    let rest = same_rest 60 60 f.after g.after c.rest f.begins g.begins in
    let spells = subst (λ z. Spells (record { at = c.at + 1; rest = z }) (parts_of f.shape) f.end) rest f.spells in
    let same = same_shape (record { at = c.at + 1; rest = g.after }) f.end g.end f.shape g.shape spells g.spells in
    shape_kinds g.shape c.at v w a b (shape_kind g.shape c.at v a (subst (λ z. IsShapeFault z c.at v a) same.same f.fault) some) (shape_kind g.shape c.at w b g.fault other) some other

next_kinds : (c : Cursor) (k : ℕ) (v w : Why) (a b : ℕ) → NextKind c k v a → NextKind c k w b → v ≢ whys.Memory → w ≢ whys.Memory → SameFault v w a b
next_kinds c k v w a b (between e f) (between g h) some other = record { why = e ∙ sym g; place = sym f.place ∙ h.place }
next_kinds c k v w a b (between e f) (text g h) some other = absurd (no_symbol c h.after a f h.begins)
next_kinds c k v w a b (between e f) (symbol g h) some other = absurd (no_symbol c h.after a f h.begins)
next_kinds c k v w a b (between e f) (many g h) some other = absurd (no_symbol c h.after a f h.begins)
next_kinds c k v w a b (text e f) (between g h) some other = absurd (no_symbol c f.after b h f.begins)
next_kinds c k v w a b (text e f) (text g h) some other = texts_once c v w a b f h some other
next_kinds c k v w a b (text e f) (symbol g h) some other = absurd (text_or_symbol c v w a b f h some)
next_kinds c k v w a b (text e f) (many g h) some other = let full = h.full in absurd (omega arith)
next_kinds c k v w a b (symbol e f) (between g h) some other = absurd (no_symbol c f.after b h f.begins)
next_kinds c k v w a b (symbol e f) (text g h) some other = absurd (text_or_symbol c w v b a h f other)
next_kinds c k v w a b (symbol e f) (symbol g h) some other = symbols_once c v w a b f h some other
next_kinds c k v w a b (symbol e f) (many g h) some other = let full = h.full in absurd (omega arith)
next_kinds c k v w a b (many e f) (between g h) some other = absurd (no_symbol c f.after b h f.begins)
next_kinds c k v w a b (many e f) (text g h) some other = let full = f.full in absurd (omega arith)
next_kinds c k v w a b (many e f) (symbol g h) some other = let full = f.full in absurd (omega arith)
next_kinds c k v w a b (many e f) (many g h) some other = record { why = e ∙ sym g; place = sym f.place ∙ h.place }

next_once : (c : Cursor) (k : ℕ) (v w : Why) (a b : ℕ) → IsNextFault c k v a → IsNextFault c k w b → v ≢ whys.Memory → w ≢ whys.Memory → SameFault v w a b
next_once c k v w a b f g some other = next_kinds c k v w a b (next_kind c k v a f some) (next_kind c k w b g other) some other

-- ---- rows

-- the same fault after equally many symbols
record SameEnd (v w : Why) (a b m n : ℕ) : Type 0 where
  pub fault : SameFault v w a b
  pub count : m ≡ n

row_once : (c d e : Cursor) (is js : List Item) (k : ℕ) (v w : Why) (a b : ℕ) → AreItems c is d → AreItems c js e
    → IsNextFault d (k + length (symbols_of is)) v a → IsNextFault e (k + length (symbols_of js)) w b → v ≢ whys.Memory → w ≢ whys.Memory
    → AllByRecursion IsReadable (symbols_of is) → AllByRecursion IsReadable (symbols_of js)
    → k + length (symbols_of is) ≤ 1000000 → k + length (symbols_of js) ≤ 1000000 → SameEnd v w a b (length (symbols_of is)) (length (symbols_of js))
row_once c d e [] [] k v w a b p q f g some other r s few less =
    record { fault = next_once c (k + 0) v w a b (subst (λ z. IsNextFault z (k + 0) v a) (sym p) f) (subst (λ z. IsNextFault z (k + 0) w b) (sym q) g) some other; count = refl }
row_once c d e [] (j ∷ js) k v w a b p q f g some other r s few less =
    let same : k + 0 ≡ k = omega arith in
    let count = count_of j js in
    absurd (next_no_item c q.0 k v a j (subst (λ z. IsNextFault z k v a) (sym p) (subst (λ z. IsNextFault d z v a) same f)) some q.1 (one_of j js s) (omega arith))
row_once c d e (i ∷ is) [] k v w a b p q f g some other r s few less =
    let same : k + 0 ≡ k = omega arith in
    let count = count_of i is in
    absurd (next_no_item c p.0 k w b i (subst (λ z. IsNextFault z k w b) (sym q) (subst (λ z. IsNextFault e z w b) same g)) other p.1 (one_of i is r) (omega arith))
row_once c d e (i ∷ is) (j ∷ js) k v w a b p q f g some other r s few less =
    let same = same_item c p.0 q.0 i j p.1 q.1 in
    let m = length (symbols_of (i ∷ [])) in
    let ci = count_of i is in
    let cj = count_of j js in
    let ij = same_count i j same.kinds in
    let first : k + length (symbols_of (i ∷ is)) ≡ k + m + length (symbols_of is) = omega arith in
    let second : k + length (symbols_of (j ∷ js)) ≡ k + m + length (symbols_of js) = omega arith in
    let later = row_once p.0 d e is js (k + m) v w a b p.2 (subst (λ z. AreItems z js e) (sym same.ends) q.2)
    (subst (λ z. IsNextFault d z v a) first f) (subst (λ z. IsNextFault e z w b) second g) some other (rest_of i is r) (rest_of j js s) (omega arith) (omega arith) in
    let count = later.count in
    record { fault = later.fault; count = omega arith }

same_fields : (f g : FileFault) → f.symbol ≡ g.symbol → f.at ≡ g.at → f.why ≡ g.why → f ≡ g
same_fields f g s a w =
    ap (λ z. record { symbol = z; at = f.at; why = f.why }) s ∙ ap (λ z. record { symbol = g.symbol; at = z; why = f.why }) a ∙ ap (λ z. record { symbol = g.symbol; at = g.at; why = z }) w

within_once : (bytes : List ℕ) (one other : FileFault) → IsFaultWithin bytes one → IsFaultWithin bytes other → one.why ≢ whys.Memory → other.why ≢ whys.Memory → one ≡ other
within_once bytes one other f g some more =
    let cf : length f.symbols ≡ 0 + length (symbols_of f.row.items) = (let e = ap length f.row.symbols in omega arith) in
    let cg : length g.symbols ≡ 0 + length (symbols_of g.row.items) = (let e = ap length g.row.symbols in omega arith) in
    let few = f.few in
    let less = g.few in
    let same = row_once (start bytes) f.here g.here f.row.items g.row.items 0 one.why other.why one.at other.at f.row.row g.row.row
    (subst (λ z. IsNextFault f.here z one.why one.at) cf f.next) (subst (λ z. IsNextFault g.here z other.why other.at) cg g.next) some more
    (subst (AllByRecursion IsReadable) (sym f.row.symbols) f.row.readable) (subst (AllByRecursion IsReadable) (sym g.row.symbols) g.row.readable) (omega arith) (omega arith) in
    let count = same.count in
    let fn = f.number in
    let gn = g.number in
    same_fields one other (omega arith) same.fault.place same.fault.why

data FileKind (bytes : List ℕ) (fault : FileFault) (w : Why) : Type 0 where
  long : w ≡ whys.Long → IsTooLongFile bytes fault → FileKind bytes fault w
  within : IsFaultWithin bytes fault → FileKind bytes fault w

file_kind : (bytes : List ℕ) (fault : FileFault) (w : Why) → IsFileFaultOf bytes fault w → w ≢ whys.Memory → FileKind bytes fault w
file_kind bytes fault whys.Stray f some = within f
file_kind bytes fault whys.UnexpectedEnd f some = within f
file_kind bytes fault whys.NumberTooLong f some = within f
file_kind bytes fault whys.Dimension f some = within f
file_kind bytes fault whys.Size f some = within f
file_kind bytes fault whys.ListShort f some = within f
file_kind bytes fault whys.ListLong f some = within f
file_kind bytes fault whys.Image f some = within f
file_kind bytes fault (whys.Symbol r) f some = within f
file_kind bytes fault whys.TooManySymbols f some = within f
file_kind bytes fault whys.Long f some = long refl f
file_kind bytes fault whys.Memory f some = absurd (some refl)

file_kinds : (bytes : List ℕ) (one other : FileFault) → FileKind bytes one one.why → FileKind bytes other other.why → one.why ≢ whys.Memory → other.why ≢ whys.Memory → one ≡ other
file_kinds bytes one other (long e f) (long g h) some more = same_fields one other (f.symbol ∙ sym h.symbol) (f.place ∙ sym h.place) (e ∙ sym g)
file_kinds bytes one other (long e f) (within h) some more = let a = f.long in let b = h.short in absurd (omega arith)
file_kinds bytes one other (within f) (long g h) some more = let a = h.long in let b = f.short in absurd (omega arith)
file_kinds bytes one other (within f) (within h) some more = within_once bytes one other f h some more

-- A file has at most one fault, beside want of memory.
pub file_once : (bytes : List ℕ) (one other : FileFault) → IsFileFault bytes one → IsFileFault bytes other → one.why ≢ whys.Memory → other.why ≢ whys.Memory → one ≡ other
file_once bytes one other f g some more = file_kinds bytes one other (file_kind bytes one one.why f some) (file_kind bytes other other.why g more) some more
