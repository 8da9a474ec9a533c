-- The lines of a catalogue on their way out.
use Rattle.std.specs.Prelude.{◌≡◌, ℕ, ◌+◌, List, [], ◌++◌, Option, length}
use Rattle.std.specs.Io.KnownBytes.{Appends}
use Rattle.dd_model.specs.Symbol.{Symbol}
use Rattle.dd_model.specs.Text.{AreLines}
use Rattle.dd_pages_and_checkpoints.specs.declared.pages.Page.{Page}

-- Since the start, known bytes grew by a text that makes, after what was written before and with what is collected, the lines of the
-- first of these symbols, numbered from k + 1 on; the others wait.
pub record HasLines (k : ℕ) (base : List ℕ) (start now : Option (List ℕ)) (page : Page) (ss : List Symbol) : Type 0 where
  pub written : List ℕ
  pub appended : Appends start now written
  pub made : List Symbol
  pub parts : ss ≡ made ++ page.waiting
  pub lines : AreLines k made ((base ++ written) ++ page.collected.lines.items)
  pub count : page.count ≡ k + length ss
  pub bytes : page.collected.written ≡ length (base ++ written)

-- no member waits, and nothing is collected
pub record IsEmpty (page : Page) : Type 0 where
  pub waiting : page.waiting ≡ []
  pub collected : page.collected.lines.items ≡ []

-- Whatever a page had the lines of, it has still.
abbrev pub KeepsLines : Option (List ℕ) → Option (List ℕ) → Page → Page → Type 0
KeepsLines before now old new = (k : ℕ) (base : List ℕ) (start : Option (List ℕ)) (ss : List Symbol) → HasLines k base start before old ss → HasLines k base start now new ss

-- What went out is, after what was written before, a front of the lines of the first of these symbols.
pub record IsFrontOut (k : ℕ) (base : List ℕ) (start now : Option (List ℕ)) (ss : List Symbol) : Type 0 where
  pub shown : List Symbol
  pub later : List Symbol
  pub parts : ss ≡ shown ++ later
  pub written : List ℕ
  pub rest : List ℕ
  pub lines : AreLines k shown ((base ++ written) ++ rest)
  pub appended : Appends start now written

-- What went out is a front of the lines that the page had.
abbrev pub WritesFront : Option (List ℕ) → Option (List ℕ) → Page → Type 0
WritesFront before now old = (k : ℕ) (base : List ℕ) (start : Option (List ℕ)) (ss : List Symbol) → HasLines k base start before old ss → IsFrontOut k base start now ss

-- the same with the lines of more symbols
abbrev pub WritesFrontOf : Option (List ℕ) → Option (List ℕ) → Page → List Symbol → Type 0
WritesFrontOf before now old more =
    (k : ℕ) (base : List ℕ) (start : Option (List ℕ)) (ss : List Symbol) → HasLines k base start before old ss → IsFrontOut k base start now (ss ++ more)

-- Whatever a page had the lines of, it has those of these symbols besides.
abbrev pub AddsAll : Option (List ℕ) → Option (List ℕ) → Page → Page → List Symbol → Type 0
AddsAll before now old new more =
    (k : ℕ) (base : List ℕ) (start : Option (List ℕ)) (ss : List Symbol) → HasLines k base start before old ss → HasLines k base start now new (ss ++ more)
