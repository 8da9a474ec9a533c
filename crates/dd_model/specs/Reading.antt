-- What a file spells.
use Rattle.std.specs.Prelude.{◌≡◌, ℕ, ◌+◌, ◌≤◌, true, List, [], ◌∷◌, length, ◌==◌, if◌then◌else◌}
use Rattle.std.specs.List.{AllByRecursion}
use Rattle.dd_model.specs.Symbol.{Symbol}
use Rattle.dd_model.specs.Connected.{Connected}
use Rattle.dd_model.specs.Small.{IsSmallSymbol}
use Rattle.dd_model.specs.Parts.{Cursor, is_blank, Spells}
use Rattle.dd_model.specs.Spelling.{Shape, parts_of, IsPlane, Tells}

-- the next line feed from here on, or the end
abbrev pub line_end : ℕ → List ℕ → Cursor
line_end at [] = record { at = at; rest = [] }
line_end at (b ∷ bs) = if b == 10 then record { at = at; rest = b ∷ bs } else line_end (at + 1) bs

-- from c to d stands a blank
pub record IsBlankTo (c d : Cursor) : Type 0 where
  pub byte : ℕ
  pub after : List ℕ
  pub begins : c.rest ≡ byte ∷ after
  pub blank : is_blank byte ≡ true
  pub to : record { at = c.at + 1; rest = after } ≡ d

-- from c to d stands a comment: a # and all bytes up to the next line feed or the end
pub record IsCommentTo (c d : Cursor) : Type 0 where
  pub after : List ℕ
  pub begins : c.rest ≡ 35 ∷ after
  pub to : line_end (c.at + 1) after ≡ d

-- from c to d stands a spelling of s, from its < to its >
pub record IsSpellingTo (c : Cursor) (x : Shape) (s : Symbol) (d : Cursor) : Type 0 where
  pub after : List ℕ
  pub begins : c.rest ≡ 60 ∷ after
  pub spells : Spells (record { at = c.at + 1; rest = after }) (parts_of x) d
  pub plane : IsPlane x
  pub tells : Tells x s

-- what stands in a file
pub data Item : Type 0 where
  Blank : Item
  Comment : Item
  Spelling : Shape → Symbol → Item

-- from c to d stands this item
abbrev pub IsItem : Cursor → Item → Cursor → Type 0
IsItem c Blank d = IsBlankTo c d
IsItem c Comment d = IsCommentTo c d
IsItem c (Spelling x s) d = IsSpellingTo c x s d

-- from c to d stand these items, one after the other
abbrev pub AreItems : Cursor → List Item → Cursor → Type 0
AreItems c [] d = c ≡ d
AreItems c (i ∷ is) d = (mid : Cursor) × IsItem c i mid × AreItems mid is d

-- the symbols among the items
abbrev pub symbols_of : List Item → List Symbol
symbols_of [] = []
symbols_of (Blank ∷ is) = symbols_of is
symbols_of (Comment ∷ is) = symbols_of is
symbols_of (Spelling x s ∷ is) = s ∷ symbols_of is

-- a symbol that a file may hold: connected, of at most 1,024 chambers, with branching values of at most 30
pub record IsReadable (s : Symbol) : Type 0 where
  pub symbol : IsSmallSymbol s
  pub connected : Connected s
  pub size : s.size ≤ 1024

-- the beginning of a file
abbrev pub start : List ℕ → Cursor
start bytes = record { at = 0; rest = bytes }

-- the bytes up to d are a row of blanks, comments and spellings of these symbols
pub record ReadsTo (bytes : List ℕ) (ss : List Symbol) (d : Cursor) : Type 0 where
  pub items : List Item
  pub row : AreItems (start bytes) items d
  pub symbols : symbols_of items ≡ ss
  pub readable : AllByRecursion IsReadable ss

-- how many bytes a file has at most
abbrev pub most_bytes : ℕ
most_bytes = 16777216

-- the file is a row of blanks, comments and spellings of these symbols
pub record Reads (bytes : List ℕ) (ss : List Symbol) : Type 0 where
  pub short : length bytes ≤ most_bytes
  pub end : Cursor
  pub row : ReadsTo bytes ss end
  pub whole : end.rest ≡ []
  pub few : length ss ≤ 1000000
