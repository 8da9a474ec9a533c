-- The parts that are met from part 0 by moves that stay in the chamber.
use Rattle.std.specs.Prelude.{◌≡◌, ℕ, Bool, true, false, cond, List, slice_index_or, None}
use Rattle.dd_model.specs.declared.index.Index.{Index}
use Rattle.dd_template.specs.Table.{Table, IsPart, move}

-- the flag of a part is set
abbrev pub IsMet : List Bool → ℕ → Type 0
IsMet met x = slice_index_or met x false ≡ true

-- one for each part that is not met
abbrev pub unmet : Bool → ℕ
unmet b = cond b 0 1

-- a move that stays in the chamber leads to a part that is met
abbrev pub LeadsToMet : Table → List Bool → Index → ℕ → Type 0
LeadsToMet t met i x = (move t i x).by ≡ None → IsMet met (move t i x).to

-- no move that stays in the chamber leads from parts that are met to another
abbrev pub IsClosed : Table → List Bool → Type 0
IsClosed t met = (i : Index) (x : ℕ) → IsPart t x → IsMet met x → LeadsToMet t met i x

-- a part that is not met, to which a move leads from one that is
pub record IsNext (t : Table) (met : List Bool) (y : ℕ) : Type 0 where
  pub within : IsPart t y
  pub new : slice_index_or met y false ≡ false
  pub index : Index
  pub from : ℕ
  pub part : IsPart t from
  pub is_met : IsMet met from
  pub silent : (move t index from).by ≡ None
  pub leads : (move t index from).to ≡ y
