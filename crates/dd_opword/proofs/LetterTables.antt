-- The tables of the letters go together with each other and with tables of two letters.
use Rattle.std.proofs.Common.{◌≡◌, ℕ, zero, suc, ◌*◌, ◌<◌, ◌≤◌, List, [], ◌∷◌, Ok, Err, IfOk, IfErr, OnOk, refl, sym, ap, ◌∙◌, subst, arith}
use Rattle.std.proofs.lemmas.Nat.{mul-le}
use Rattle.std.specs.List.{AllByRecursion}
use Rattle.std.specs.declared.result.Result.{Result}
use Rattle.dd_model.specs.declared.pair.Pair.{Pair}
use Rattle.dd_model.specs.declared.pair.Pair.TheVariants.{Tile, Vertex, Edge}
use Rattle.dd_model.specs.Symbol.{Symbol, IsSymbol, IsTable}
use Rattle.dd_template.specs.declared.tables.Degree.{Degree}
use Rattle.dd_template.specs.declared.tables.Degree.TheVariants.{OfTile, OfVertex, Fixed}
use Rattle.dd_template.specs.declared.operations.Operation.TheVariants as operation
use Rattle.dd_template.specs.Table.{Table, IsPart, entry}
use Rattle.dd_template.specs.Entries.{entries}
use Rattle.dd_template.specs.Lawful.{IsLawful}
use Rattle.dd_template.specs.Made.{made}
use Rattle.dd_template.specs.declared.application.ApplyFault.{ApplyFault}
use Rattle.dd_template.specs.declared.application.ApplyFault.TheVariants.{TooManyChambers, Memory}
use Rattle.dd_template.proofs.MadeSymbols.{made_symbol}
use Rattle.dd_template.proofs.NamedTables.{dual_lawful, operation_lawful}
use Rattle.dd_opword.specs.declared.letters.Letter.{Letter}
use Rattle.dd_opword.specs.declared.letters.Letter.TheVariants.{Dual, Ambo, Truncate, Chamfer}
use Rattle.dd_opword.specs.declared.words.OpWord.{OpWord}
use Rattle.dd_opword.specs.declared.words.OpWord.TheVariants.{One, Two, Three}
use Rattle.dd_opword.specs.Words.{letters_of}
use Rattle.dd_opword.specs.Meaning.{IsMadeBy, IsWordFault, table_of_letter, meaning, parts_of}
use Rattle.dd_opword.specs.Composed.{part_in, times, composed_degree, composed}
use Rattle.dd_opword.specs.Together.{IsFixedUpTo, GoTogether, MayGoFirst}
use Rattle.dd_opword.proofs.ComposedParts.{parts_of_part, entry-composed}
use Rattle.dd_opword.proofs.ComposedLawful.{composed_lawful}
use Rattle.dd_opword.proofs.ComposedMade.{composed_made, are_applied}

pub letter_lawful : (l : Letter) → IsLawful (table_of_letter l)
letter_lawful Dual = dual_lawful
letter_lawful Ambo = operation_lawful operation.Ambo
letter_lawful Truncate = operation_lawful operation.Truncate
letter_lawful Chamfer = operation_lawful operation.Chamfer

-- ## Factors and fixed degrees

-- a factor is at most 2, and a degree that is fixed at most 6
abbrev IsOfLetter : Degree → Type 0
IsOfLetter (OfTile c) = c ≤ 2
IsOfLetter (OfVertex c) = c ≤ 2
IsOfLetter (Fixed m) = m ≤ 6

each_entry : (es : List Degree) (x : ℕ) → AllByRecursion IsOfLetter es → IsOfLetter (entry es x)
each_entry [] x h = omega arith
each_entry (e ∷ es) zero h = h.0
each_entry (e ∷ es) (suc x) h = each_entry es x h.1

all_of_letter : (l : Letter) (p : Pair) → AllByRecursion IsOfLetter (entries (table_of_letter l) p)
all_of_letter Dual Tile = (omega arith, tt)
all_of_letter Dual Vertex = (omega arith, tt)
all_of_letter Dual Edge = tt
all_of_letter Ambo Tile = (omega arith, (omega arith, tt))
all_of_letter Ambo Vertex = (omega arith, (omega arith, tt))
all_of_letter Ambo Edge = tt
all_of_letter Truncate Tile = (omega arith, (omega arith, (omega arith, tt)))
all_of_letter Truncate Vertex = (omega arith, (omega arith, (omega arith, tt)))
all_of_letter Truncate Edge = tt
all_of_letter Chamfer Tile = (omega arith, (omega arith, (omega arith, (omega arith, tt))))
all_of_letter Chamfer Vertex = (omega arith, (omega arith, (omega arith, (omega arith, tt))))
all_of_letter Chamfer Edge = tt

of_letter : (l : Letter) (p : Pair) (x : ℕ) → IsOfLetter (entry (entries (table_of_letter l) p) x)
of_letter l p x = each_entry (entries (table_of_letter l) p) x (all_of_letter l p)

fixed_of_letter : (n : ℕ) → 6 ≤ n → (e : Degree) → IsOfLetter e → IsFixedUpTo n e
fixed_of_letter n few (OfTile c) h = tt
fixed_of_letter n few (OfVertex c) h = tt
fixed_of_letter n few (Fixed m) h = omega arith

fixed_times : (n k c : ℕ) → 2 * k ≤ n → c ≤ 2 → (e : Degree) → IsFixedUpTo k e → IsFixedUpTo n (times c e)
fixed_times n k c size few (OfTile d) h = tt
fixed_times n k c size few (OfVertex d) h = tt
fixed_times n k c size few (Fixed m) h = let l = mul-le c m 2 k few h in omega arith

-- an entry of a letter over degrees of at most k
fixed_over : (n k : ℕ) → 2 * k ≤ n → 6 ≤ n → (inner : Table) (y : ℕ) → IsFixedUpTo k (entry inner.face y) → IsFixedUpTo k (entry inner.degree y)
    → (e : Degree) → IsOfLetter e → IsFixedUpTo n (composed_degree inner y e)
fixed_over n k size few inner y face degree (OfTile c) h = fixed_times n k c size h (entry inner.face y) face
fixed_over n k size few inner y face degree (OfVertex c) h = fixed_times n k c size h (entry inner.degree y) degree
fixed_over n k size few inner y face degree (Fixed m) h = omega arith

-- ## Tables that go together

few_parts : (l : Letter) → (1 ≤ (table_of_letter l).parts) × ((table_of_letter l).parts ≤ 4)
few_parts Dual = (omega arith, omega arith)
few_parts Ambo = (omega arith, omega arith)
few_parts Truncate = (omega arith, omega arith)
few_parts Chamfer = (omega arith, omega arith)

-- each letter may follow
pub letter_follows : (l : Letter) (t : Table) → MayGoFirst t → GoTogether (table_of_letter l) t
letter_follows l t first =
    let size = few_parts l in
    let product = mul-le t.parts (table_of_letter l).parts 16 4 first.few size.1 in
    record {
      outer_lawful = letter_lawful l;
      inner_lawful = first.lawful;
      few = omega arith;
      small = λ p y x hy hx. fixed_over 30 12 (omega arith) (omega arith) t y (first.fixed Tile y hy) (first.fixed Vertex y hy)
          (entry (entries (table_of_letter l) p) x) (of_letter l p x);
    }

pub letter_first : (l : Letter) → MayGoFirst (table_of_letter l)
letter_first l =
    let size = few_parts l in
    record {
      lawful = letter_lawful l;
      few = omega arith;
      fixed = λ p x h. fixed_of_letter 12 (omega arith) (entry (entries (table_of_letter l) p) x) (of_letter l p x);
    }

fixed_of_two : (a b : Letter) (p : Pair) (z : ℕ) → IsPart (composed (table_of_letter a) (table_of_letter b)) z
    → IsFixedUpTo 12 (entry (entries (composed (table_of_letter a) (table_of_letter b)) p) z)
fixed_of_two a b p z h =
    let outer = table_of_letter a in
    let inner = table_of_letter b in
    let size = few_parts a in
    let q = parts_of_part outer inner z size.0 h in
    let y = q.inner_part in
    let x = q.outer_part in
    let over = fixed_over 12 6 (omega arith) (omega arith) inner y (fixed_of_letter 6 (omega arith) (entry inner.face y) (of_letter b Tile y))
    (fixed_of_letter 6 (omega arith) (entry inner.degree y) (of_letter b Vertex y)) in
    subst (λ w. IsFixedUpTo 12 (entry (entries (composed outer inner) p) w)) q.place
    ((elim p as (λ r. IsFixedUpTo 12 (entry (entries (composed outer inner) r) (part_in outer y x))) [
      | Tile ↦ subst (IsFixedUpTo 12) (sym (entry-composed outer inner Tile y x tt q.is_inner q.is_outer)) (over (entry outer.face x) (of_letter a Tile x))
      | Vertex ↦ subst (IsFixedUpTo 12) (sym (entry-composed outer inner Vertex y x tt q.is_inner q.is_outer)) (over (entry outer.degree x) (of_letter a Vertex x))
      | Edge ↦ omega arith
    ]))

pub two_first : (a b : Letter) → MayGoFirst (composed (table_of_letter a) (table_of_letter b))
two_first a b =
    let size = few_parts a in
    let other = few_parts b in
    let product = mul-le (table_of_letter b).parts (table_of_letter a).parts 4 4 other.1 size.1 in
    record {
      lawful = composed_lawful (table_of_letter a) (table_of_letter b) (letter_follows a (table_of_letter b) (letter_first b));
      few = omega arith;
      fixed = fixed_of_two a b;
    }

-- what is needed to compose a letter with a table that is that of a letter
pub record IsOverLetter (a : Letter) (t : Table) : Type 0 where
  pub few : t.parts ≤ 16
  pub together : GoTogether (table_of_letter a) t
  pub first : MayGoFirst (composed (table_of_letter a) t)

pub over_letter : (a l : Letter) (t : Table) → t ≡ table_of_letter l → IsOverLetter a t
over_letter a l t e = subst (IsOverLetter a) (sym e)
    (record { few = (letter_first l).few; together = letter_follows a (table_of_letter l) (letter_first l); first = two_first a l })

-- ## What words make

-- one table over another
made_both : (outer inner : Table) (s : Symbol) → GoTogether outer inner → IsTable s → made (composed outer inner) s ≡ made outer (made inner s)
made_both outer inner s go table = composed_made outer inner s (are_applied outer inner s go table)

-- what is returned for a word
pub record IsMeant (w : OpWord) (s : Symbol) (result : Result Symbol ApplyFault) : Type 0 where
  pub made : IfOk result (λ derived. derived ≡ meaning (letters_of w) s)
  pub within : OnOk result (s.size * parts_of (letters_of w) ≤ 1024)
  pub why : IfErr result (λ why. IsWordFault w s why)

-- by a table that makes what the word means
meant_by : (t : Table) (w : OpWord) (s : Symbol) (result : Result Symbol ApplyFault) → made t s ≡ meaning (letters_of w) s → t.parts ≡ parts_of (letters_of w)
    → IsMadeBy t s result → IsMeant w s result
meant_by t w s (Ok derived) same parts is = record { made = is.made ∙ same; within = subst (λ n. s.size * n ≤ 1024) parts is.within; why = tt }
meant_by t w s (Err (TooManyChambers n)) same parts is =
    record { made = tt; within = tt; why = (is.why.0, subst (λ n. 1024 < s.size * n) parts is.why.1) }
meant_by t w s (Err Memory) same parts is = record { made = tt; within = tt; why = subst (λ n. s.size * n ≤ 1024) parts is.why }

pub one_meant : (x : Letter) (s : Symbol) (result : Result Symbol ApplyFault) → IsMadeBy (table_of_letter x) s result → IsMeant (One x) s result
one_meant x s result is = meant_by (table_of_letter x) (One x) s result refl (omega arith) is

pub two_meant : (x y : Letter) (s : Symbol) (result : Result Symbol ApplyFault) → IsMadeBy (composed (table_of_letter x) (table_of_letter y)) s result
    → IsMeant (Two x y) s result
two_meant x y s result is =
    let outer = table_of_letter x in
    let inner = table_of_letter y in
    meant_by (composed outer inner) (Two x y) s result (made_both outer inner s (letter_follows x inner (letter_first y)) is.small.symbol.table) (omega arith) is

pub three_meant : (x y z : Letter) (s : Symbol) (result : Result Symbol ApplyFault)
    → IsMadeBy (composed (table_of_letter x) (composed (table_of_letter y) (table_of_letter z))) s result → IsMeant (Three x y z) s result
three_meant x y z s result is =
    let outer = table_of_letter x in
    let middle = table_of_letter y in
    let inner = table_of_letter z in
    let table = is.small.symbol.table in
    meant_by (composed outer (composed middle inner)) (Three x y z) s result
    (made_both outer (composed middle inner) s (letter_follows x (composed middle inner) (two_first y z)) table
    ∙ ap (made outer) (made_both middle inner s (letter_follows y inner (letter_first z)) table)) (omega arith) is

pub meaning_symbol : (ls : List Letter) (s : Symbol) → IsSymbol s → IsSymbol (meaning ls s)
meaning_symbol [] s is = is
meaning_symbol (l ∷ ls) s is = made_symbol (table_of_letter l) (meaning ls s) (letter_lawful l) (meaning_symbol ls s is)
