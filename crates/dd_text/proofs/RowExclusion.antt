-- A file that spells symbols has no fault.
use Rattle.std.proofs.Common.{◌≡◌, ◌≢◌, ◌⊎◌, ℕ, ◌+◌, ◌≤◌, List, [], ◌∷◌, length, refl, sym, ap, ◌∙◌, subst, inl, inr, ⊎_elim, arith}
use Rattle.std.specs.Prelude.{Result, Ok, Err, IfOk, IfErr, MatchResult, Vec}
use Rattle.std.specs.Global.{Global}
use Rattle.std.specs.List.{AllByRecursion}
use Rattle.dd_model.specs.Symbol.{Symbol}
use Rattle.dd_model.specs.Parts.{Cursor, Spells}
use Rattle.dd_model.specs.Spelling.{Shape, parts_of}
use Rattle.dd_model.specs.Reading.{IsSpellingTo, Item, Blank, Comment, Spelling, IsItem, AreItems, symbols_of, IsReadable, start, Reads}
use Rattle.dd_model.proofs.ReadingParts.{same_shape}
use Rattle.dd_model.proofs.ReadingRows.{reads_once, no_item, SameItem, same_item, no_blank, no_byte, same_rest}
use Rattle.dd_text.specs.declared.faults.Why.{Why}
use Rattle.dd_text.specs.declared.faults.Why.TheVariants as whys
use Rattle.dd_text.specs.declared.faults.FileFault.{FileFault}
use Rattle.dd_text.specs.SymbolFaults.{IsSymbolFault, IsShapeFault}
use Rattle.dd_text.specs.FileFaults.{IsFaultAfter, IsStrayBetween, IsOneTooMany, IsNextFault, IsFaultWithin, IsFileFault, IsFileFaultOf}
use Rattle.dd_text.proofs.TextExclusion.{text_excluded}
use Rattle.dd_text.proofs.SymbolExclusion.{shape_excluded}

nothing_there : (b : ℕ) (bs rest : List ℕ) → rest ≡ b ∷ bs → rest ≡ [] → ⊥
nothing_there b bs rest e f = let g = sym e ∙ f in cc

-- a fault of the text, where a symbol stands
after_excluded : (c d : Cursor) (x : Shape) (s : Symbol) (w : Why) (at : ℕ) → IsFaultAfter c w at → w ≢ whys.Memory → IsSpellingTo c x s d → ⊥
after_excluded c d x s w at f some a =
    let rest = same_rest 60 60 a.after f.after c.rest a.begins f.begins in
    text_excluded (record { at = c.at + 1; rest = f.after }) d x w at f.fault some (subst (λ r. Spells (record { at = c.at + 1; rest = r }) (parts_of x) d) rest a.spells) a.plane

-- a fault of the symbol
symbol_excluded : (c d : Cursor) (x : Shape) (s : Symbol) (w : Why) (at : ℕ) → IsSymbolFault c w at → w ≢ whys.Memory → IsSpellingTo c x s d → IsReadable s → ⊥
symbol_excluded c d x s w at f some a r =
    let rest = same_rest 60 60 a.after f.after c.rest a.begins f.begins in
    let spells = subst (λ z. Spells (record { at = c.at + 1; rest = z }) (parts_of x) d) rest a.spells in
    let same = same_shape (record { at = c.at + 1; rest = f.after }) f.end d f.shape x f.spells spells in
    shape_excluded x s c.at w at (subst (λ z. IsShapeFault z c.at w at) same.same f.fault) some a.tells r

-- after a fault of the text comes no item
after_no_item : (c d : Cursor) (i : Item) (w : Why) (at : ℕ) → IsFaultAfter c w at → w ≢ whys.Memory → IsItem c i d → ⊥
after_no_item c d Blank w at f some a = no_blank a.byte 60 a.after f.after c.rest a.begins f.begins a.blank refl
after_no_item c d Comment w at f some a = let e = no_byte 35 60 a.after f.after c.rest a.begins f.begins in omega arith
after_no_item c d (Spelling x s) w at f some a = after_excluded c d x s w at f some a

symbol_no_item : (c d : Cursor) (i : Item) (w : Why) (at : ℕ) → IsSymbolFault c w at → w ≢ whys.Memory → IsItem c i d → AllByRecursion IsReadable (symbols_of (i ∷ [])) → ⊥
symbol_no_item c d Blank w at f some a r = no_blank a.byte 60 a.after f.after c.rest a.begins f.begins a.blank refl
symbol_no_item c d Comment w at f some a r = let e = no_byte 35 60 a.after f.after c.rest a.begins f.begins in omega arith
symbol_no_item c d (Spelling x s) w at f some a r = symbol_excluded c d x s w at f some a r.0

between_no_item : (c d : Cursor) (i : Item) (at : ℕ) → IsStrayBetween c at → IsItem c i d → ⊥
between_no_item c d Blank at f a = no_blank a.byte f.byte a.after f.after c.rest a.begins f.begins a.blank f.no_blank
between_no_item c d Comment at f a = f.no_comment (no_byte f.byte 35 f.after a.after c.rest f.begins a.begins)
between_no_item c d (Spelling x s) at f a = f.no_symbol (no_byte f.byte 60 f.after a.after c.rest f.begins a.begins)

many_no_item : (c d : Cursor) (k : ℕ) (i : Item) (at : ℕ) → IsOneTooMany c k at → IsItem c i d → k + length (symbols_of (i ∷ [])) ≤ 1000000 → ⊥
many_no_item c d k Blank at f a few = no_blank a.byte 60 a.after f.after c.rest a.begins f.begins a.blank refl
many_no_item c d k Comment at f a few = let e = no_byte 35 60 a.after f.after c.rest a.begins f.begins in omega arith
many_no_item c d k (Spelling x s) at f a few = let full = f.full in omega arith

-- where a fault stands no item stands
pub next_no_item : (c d : Cursor) (k : ℕ) (w : Why) (at : ℕ) (i : Item) → IsNextFault c k w at → w ≢ whys.Memory → IsItem c i d
    → AllByRecursion IsReadable (symbols_of (i ∷ [])) → k + length (symbols_of (i ∷ [])) ≤ 1000000 → ⊥
next_no_item c d k whys.Stray at i f some a r few = ⊎_elim (λ g. between_no_item c d i at g a) (λ g. after_no_item c d i whys.Stray at g.1 some a) f
next_no_item c d k whys.UnexpectedEnd at i f some a r few = after_no_item c d i whys.UnexpectedEnd at f.1 some a
next_no_item c d k whys.NumberTooLong at i f some a r few = after_no_item c d i whys.NumberTooLong at f.1 some a
next_no_item c d k whys.Dimension at i f some a r few = after_no_item c d i whys.Dimension at f.1 some a
next_no_item c d k whys.Size at i f some a r few = after_no_item c d i whys.Size at f.1 some a
next_no_item c d k whys.ListShort at i f some a r few = symbol_no_item c d i whys.ListShort at f.1 some a r
next_no_item c d k whys.ListLong at i f some a r few = symbol_no_item c d i whys.ListLong at f.1 some a r
next_no_item c d k whys.Image at i f some a r few = symbol_no_item c d i whys.Image at f.1 some a r
next_no_item c d k (whys.Symbol why) at i f some a r few = symbol_no_item c d i (whys.Symbol why) at f.1 some a r
next_no_item c d k whys.TooManySymbols at i f some a r few = many_no_item c d k i at f a few
next_no_item c d k whys.Long at i f some a r few = f
next_no_item c d k whys.Memory at i f some a r few = some refl

-- a fault does not stand at the end
next_not_at_end : (c : Cursor) (k : ℕ) (w : Why) (at : ℕ) → IsNextFault c k w at → w ≢ whys.Memory → c.rest ≡ [] → ⊥
next_not_at_end c k whys.Stray at f some e = ⊎_elim (λ g. nothing_there g.byte g.after c.rest g.begins e) (λ g. nothing_there 60 g.1.after c.rest g.1.begins e) f
next_not_at_end c k whys.UnexpectedEnd at f some e = nothing_there 60 f.1.after c.rest f.1.begins e
next_not_at_end c k whys.NumberTooLong at f some e = nothing_there 60 f.1.after c.rest f.1.begins e
next_not_at_end c k whys.Dimension at f some e = nothing_there 60 f.1.after c.rest f.1.begins e
next_not_at_end c k whys.Size at f some e = nothing_there 60 f.1.after c.rest f.1.begins e
next_not_at_end c k whys.ListShort at f some e = nothing_there 60 f.1.after c.rest f.1.begins e
next_not_at_end c k whys.ListLong at f some e = nothing_there 60 f.1.after c.rest f.1.begins e
next_not_at_end c k whys.Image at f some e = nothing_there 60 f.1.after c.rest f.1.begins e
next_not_at_end c k (whys.Symbol why) at f some e = nothing_there 60 f.1.after c.rest f.1.begins e
next_not_at_end c k whys.TooManySymbols at f some e = nothing_there 60 f.after c.rest f.begins e
next_not_at_end c k whys.Long at f some e = f
next_not_at_end c k whys.Memory at f some e = some refl

pub one_of : (i : Item) (is : List Item) → AllByRecursion IsReadable (symbols_of (i ∷ is)) → AllByRecursion IsReadable (symbols_of (i ∷ []))
one_of Blank is r = tt
one_of Comment is r = tt
one_of (Spelling x s) is r = (r.0, tt)

pub rest_of : (i : Item) (is : List Item) → AllByRecursion IsReadable (symbols_of (i ∷ is)) → AllByRecursion IsReadable (symbols_of is)
rest_of Blank is r = r
rest_of Comment is r = r
rest_of (Spelling x s) is r = r.1

pub count_of : (i : Item) (is : List Item) → length (symbols_of (i ∷ is)) ≡ length (symbols_of (i ∷ [])) + length (symbols_of is)
count_of Blank is = let e : length (symbols_of is) ≡ 0 + length (symbols_of is) = omega arith in e
count_of Comment is = let e : length (symbols_of is) ≡ 0 + length (symbols_of is) = omega arith in e
count_of (Spelling x s) is = omega arith

pub same_count : (i j : Item) → SameItem i j → length (symbols_of (i ∷ [])) ≡ length (symbols_of (j ∷ []))
same_count Blank Blank k = refl
same_count Comment Comment k = refl
same_count (Spelling x s) (Spelling y t) k = refl
same_count Blank Comment k = absurd k
same_count Blank (Spelling y t) k = absurd k
same_count Comment Blank k = absurd k
same_count Comment (Spelling y t) k = absurd k
same_count (Spelling x s) Blank k = absurd k
same_count (Spelling x s) Comment k = absurd k

-- two rows from one place, of which one ends with a fault and the other with the text
row_excluded : (c d e : Cursor) (is js : List Item) (k : ℕ) (w : Why) (at : ℕ) → AreItems c is d → AreItems c js e → e.rest ≡ []
    → IsNextFault d (k + length (symbols_of is)) w at → w ≢ whys.Memory → AllByRecursion IsReadable (symbols_of js) → k + length (symbols_of js) ≤ 1000000 → ⊥
row_excluded c d e [] [] k w at a b end f some r few = next_not_at_end d (k + 0) w at f some (ap (λ z. z.rest) (sym a ∙ b) ∙ end)
row_excluded c d e (i ∷ is) [] k w at a b end f some r few = no_item c a.0 i (ap (λ z. z.rest) b ∙ end) a.1
row_excluded c d e [] (j ∷ js) k w at a b end f some r few =
    let same : k + 0 ≡ k = omega arith in
    let count = count_of j js in
    next_no_item c b.0 k w at j (subst (λ z. IsNextFault z k w at) (sym a) (subst (λ z. IsNextFault d z w at) same f)) some b.1 (one_of j js r) (omega arith)
row_excluded c d e (i ∷ is) (j ∷ js) k w at a b end f some r few =
    let same = same_item c a.0 b.0 i j a.1 b.1 in
    let m = length (symbols_of (i ∷ [])) in
    let ci = count_of i is in
    let cj = count_of j js in
    let ij = same_count i j same.kinds in
    let count : k + length (symbols_of (i ∷ is)) ≡ k + m + length (symbols_of is) = omega arith in
    row_excluded a.0 d e is js (k + m) w at a.2 (subst (λ z. AreItems z js e) (sym same.ends) b.2) end
    (subst (λ z. IsNextFault d z w at) count f) some (rest_of j js r) (omega arith)

within_excluded : (bytes : List ℕ) (fault : FileFault) (ss : List Symbol) → IsFaultWithin bytes fault → fault.why ≢ whys.Memory → Reads bytes ss → ⊥
within_excluded bytes fault ss f some r =
    let count : length f.symbols ≡ 0 + length (symbols_of f.row.items) = (let e = ap length f.row.symbols in omega arith) in
    row_excluded (start bytes) f.here r.end f.row.items r.row.items 0 fault.why fault.at f.row.row r.row.row r.whole
    (subst (λ z. IsNextFault f.here z fault.why fault.at) count f.next) some
    (subst (AllByRecursion IsReadable) (sym r.row.symbols) r.row.readable)
    (let e = ap length r.row.symbols in let few = r.few in omega arith)

fault_excluded : (bytes : List ℕ) (fault : FileFault) (ss : List Symbol) (w : Why) → fault.why ≡ w → IsFileFaultOf bytes fault w → w ≢ whys.Memory → Reads bytes ss → ⊥
fault_excluded bytes fault ss whys.Long e f some r = let a = f.long in let b = r.short in omega arith
fault_excluded bytes fault ss whys.Memory e f some r = some refl
fault_excluded bytes fault ss whys.Stray e f some r = within_excluded bytes fault ss f (λ z. some (sym e ∙ z)) r
fault_excluded bytes fault ss whys.UnexpectedEnd e f some r = within_excluded bytes fault ss f (λ z. some (sym e ∙ z)) r
fault_excluded bytes fault ss whys.NumberTooLong e f some r = within_excluded bytes fault ss f (λ z. some (sym e ∙ z)) r
fault_excluded bytes fault ss whys.Dimension e f some r = within_excluded bytes fault ss f (λ z. some (sym e ∙ z)) r
fault_excluded bytes fault ss whys.Size e f some r = within_excluded bytes fault ss f (λ z. some (sym e ∙ z)) r
fault_excluded bytes fault ss whys.ListShort e f some r = within_excluded bytes fault ss f (λ z. some (sym e ∙ z)) r
fault_excluded bytes fault ss whys.ListLong e f some r = within_excluded bytes fault ss f (λ z. some (sym e ∙ z)) r
fault_excluded bytes fault ss whys.Image e f some r = within_excluded bytes fault ss f (λ z. some (sym e ∙ z)) r
fault_excluded bytes fault ss (whys.Symbol why) e f some r = within_excluded bytes fault ss f (λ z. some (sym e ∙ z)) r
fault_excluded bytes fault ss whys.TooManySymbols e f some r = within_excluded bytes fault ss f (λ z. some (sym e ∙ z)) r

-- A file with a fault spells nothing.
pub file_excluded : (bytes : List ℕ) (fault : FileFault) (ss : List Symbol) → IsFileFault bytes fault → fault.why ≢ whys.Memory → Reads bytes ss → ⊥
file_excluded bytes fault ss f some r = fault_excluded bytes fault ss fault.why refl f some r

memory_or_not : (w : Why) → (w ≡ whys.Memory) ⊎ (w ≢ whys.Memory)
memory_or_not whys.Memory = inl refl
memory_or_not whys.Stray = inr (λ e. cc)
memory_or_not whys.UnexpectedEnd = inr (λ e. cc)
memory_or_not whys.NumberTooLong = inr (λ e. cc)
memory_or_not whys.Dimension = inr (λ e. cc)
memory_or_not whys.Size = inr (λ e. cc)
memory_or_not whys.ListShort = inr (λ e. cc)
memory_or_not whys.ListLong = inr (λ e. cc)
memory_or_not whys.Image = inr (λ e. cc)
memory_or_not (whys.Symbol why) = inr (λ e. cc)
memory_or_not whys.TooManySymbols = inr (λ e. cc)
memory_or_not whys.Long = inr (λ e. cc)

-- what is spelled is read, unless memory ran out
pub spelled_if : (bytes : List ℕ) (r : Result (Vec Symbol Global) FileFault) → IfOk r (λ v. Reads bytes v.items) → IfErr r (IsFileFault bytes) → (ss : List Symbol) → Reads bytes ss
    → MatchResult r (λ v. v.items ≡ ss) (λ f. f.why ≡ whys.Memory)
spelled_if bytes (Ok v) ok err ss reads = reads_once bytes v.items ss ok reads
spelled_if bytes (Err f) ok err ss reads = ⊎_elim (λ e. e) (λ some. absurd (file_excluded bytes f ss err some reads)) (memory_or_not f.why)
