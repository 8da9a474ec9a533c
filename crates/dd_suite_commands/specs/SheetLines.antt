-- What `sheets` writes.
use Rattle.std.specs.Prelude.{◌≡◌, ◌⊎◌, ℕ, ◌+◌, List, [], ◌∷◌, ◌++◌, codes, decimal}
use Rattle.dd_model.specs.Symbol.{Symbol}
use Rattle.dd_model.specs.Flat.{Flat}
use Rattle.dd_crystal.specs.SheetCounts.{IsTorusSheets}
use Rattle.dd_suite_commands.specs.Made.{IsCurved}
use Rattle.dd_suite_commands.specs.declared.refusals.SymbolRefusal.{SymbolRefusal}

-- the line of number k, with a number of sheets
abbrev pub sheet_line : ℕ → ℕ → List ℕ
sheet_line k n = decimal k ++ (codes " sheets " ++ (decimal n ++ codes "\n"))

-- the symbol of number k is flat, and its torus cover has as many sheets as the line says
pub record IsSheetLine (k : ℕ) (s : Symbol) (line : List ℕ) : Type 0 where
  pub flat : Flat s
  pub number : ℕ
  pub sheets : IsTorusSheets s number
  pub text : line ≡ sheet_line k number

-- the old text, and the line of a symbol
pub record AddsSheetLine (k : ℕ) (s : Symbol) (old new : List ℕ) : Type 0 where
  pub line : List ℕ
  pub is_line : IsSheetLine k s line
  pub text : new ≡ old ++ line

-- the lines of symbols, of which the first has the number k
abbrev pub AreSheetLines : ℕ → List Symbol → List ℕ → Type 0
AreSheetLines k [] text = text ≡ []
AreSheetLines k (s ∷ ss) text = (line : List ℕ) × (rest : List ℕ) × IsSheetLine k s line × AreSheetLines (k + 1) ss rest × (text ≡ line ++ rest)

-- Of the symbols, the first of which has the number k, all before this one are flat, and this one is not.
abbrev pub IsFirstCurved : ℕ → List Symbol → SymbolRefusal → Type 0
IsFirstCurved k [] r = ⊥
IsFirstCurved k (s ∷ ss) r = ((r.symbol ≡ k) × IsCurved s r.why) ⊎ (Flat s × IsFirstCurved (k + 1) ss r)
