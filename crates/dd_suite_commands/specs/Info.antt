-- What `info` writes.
use Rattle.std.specs.Prelude.{◌≡◌, ℕ, ◌+◌, List, [], ◌∷◌, ◌++◌}
use Rattle.dd_model.specs.Symbol.{Symbol}
use Rattle.dd_name.specs.declared.orbifolds.Orbifold.{Orbifold}
use Rattle.dd_name.specs.Orbifold.{IsOrbifold}
use Rattle.dd_name.specs.Name.{name_text}
use Rattle.dd_suite_commands.specs.declared.facts.Facts.{Facts}
use Rattle.dd_suite_commands.specs.Facts.{AreFactsOf, head_text, tail_text}
use Rattle.dd_suite_commands.specs.Totals.{totals_text}

-- the name of the group of a symbol
pub record IsGroup (s : Symbol) (name : List ℕ) : Type 0 where
  pub orbifold : Orbifold
  pub is_orbifold : IsOrbifold s orbifold
  pub text : name ≡ name_text orbifold

-- the line of number k, which tells a symbol whose group has this name
pub record IsInfoLine (k : ℕ) (s : Symbol) (group line : List ℕ) : Type 0 where
  pub facts : Facts
  pub are_facts : AreFactsOf s facts
  pub is_group : IsGroup s group
  pub text : line ≡ head_text k facts ++ (group ++ tail_text facts)

-- the lines of symbols whose groups have these names, numbered from k + 1 on
abbrev pub AreInfoLines : ℕ → List Symbol → List (List ℕ) → List ℕ → Type 0
AreInfoLines k [] [] text = text ≡ []
AreInfoLines k [] (g ∷ gs) text = ⊥
AreInfoLines k (s ∷ ss) [] text = ⊥
AreInfoLines k (s ∷ ss) (g ∷ gs) text = (line : List ℕ) × (rest : List ℕ) × IsInfoLine (k + 1) s g line × AreInfoLines (k + 1) ss gs rest × (text ≡ line ++ rest)

-- a line for each symbol, and the totals of their groups
pub record IsInfo (symbols : List Symbol) (text : List ℕ) : Type 0 where
  pub groups : List (List ℕ)
  pub lines : List ℕ
  pub are_lines : AreInfoLines 0 symbols groups lines
  pub whole : text ≡ lines ++ totals_text groups
