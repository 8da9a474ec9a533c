-- When a table makes what is connected of what is connected.
use Rattle.std.specs.Prelude.{◌≡◌, ℕ, [], ◌∷◌, Some, None}
use Rattle.dd_model.specs.Symbol.{Word}
use Rattle.dd_model.specs.declared.index.Index.{Index}
use Rattle.dd_template.specs.Table.{Table, IsPart, move, part_after}

-- the moves of a word go by no involution of the chamber
abbrev pub IsSilent : Table → Word → ℕ → Type 0
IsSilent t [] x = Unit {0}
IsSilent t (i ∷ w) x = ((move t i x).by ≡ None) × IsSilent t w (move t i x).to

-- some moves without an involution of the chamber lead from part 0 to this part
pub record IsJoined (t : Table) (x : ℕ) : Type 0 where
  pub word : Word
  pub leads : part_after t word 0 ≡ x
  pub silent : IsSilent t word 0

-- all parts are joined
abbrev pub AreJoined : Table → Type 0
AreJoined t = (x : ℕ) → IsPart t x → IsJoined t x

-- some move goes by the involution
pub record IsUsed (t : Table) (i : Index) : Type 0 where
  pub index : Index
  pub from : ℕ
  pub part : IsPart t from
  pub by : (move t index from).by ≡ Some i

-- each of the three involutions is that of some move
abbrev pub AreUsed : Table → Type 0
AreUsed t = (i : Index) → IsUsed t i
