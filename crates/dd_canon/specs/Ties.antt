-- From which chambers the numbering by first visits may have the code of a symbol itself.
use Rattle.std.specs.Prelude.{◌≡◌, ◌≢◌, ◌⊎◌, ℕ, ◌≤◌, List}
use Rattle.std.specs.List.{Contains}
use Rattle.std.specs.declared.cmp.Ordering.TheVariants.{Greater}
use Rattle.dd_model.specs.Symbol.{Symbol, IsChamber}
use Rattle.dd_model.specs.Code.{code_cmp}
use Rattle.dd_model.specs.FirstVisit.{IsFirstVisit, IsNumberedFrom}

-- the numbering by first visits from d has a larger code
abbrev pub IsLargerFrom : Symbol → ℕ → Type 0
IsLargerFrom s d = (u : Symbol) → IsNumberedFrom s d u → code_cmp u s ≡ Greater

-- The same of the first k chambers. Chamber 1, from which s is numbered, is not listed.
pub record AreTiesTo (s : Symbol) (k : ℕ) (ds : List ℕ) : Type 0 where
  pub chambers : (d : ℕ) → Contains ds d → IsChamber s d
  pub first : 1 ≤ k → IsFirstVisit s
  pub others : (d : ℕ) → 1 ≤ d → d ≤ k → d ≢ 1 → Contains ds d ⊎ IsLargerFrom s d

-- From each other chamber than 1 and those of the list the numbering is larger, and s is numbered from 1.
abbrev pub AreTies : Symbol → List ℕ → Type 0
AreTies s ds = AreTiesTo s s.size ds

-- no numbering by first visits from one of the chambers is smaller
pub record IsLeastFrom (s : Symbol) (ds : List ℕ) : Type 0 where
  pub none : (d : ℕ) (u : Symbol) → Contains ds d → IsNumberedFrom s d u → code_cmp s u ≢ Greater
