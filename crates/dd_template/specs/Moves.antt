-- What the moves of a table must do: lead back, and let s0 and s2 commute.
use Rattle.std.specs.Prelude.{◌≡◌, ℕ, ◌<◌, List, [], ◌∷◌, length}
use Rattle.dd_model.specs.Symbol.{Word}
use Rattle.dd_model.specs.declared.index.Index.{Index}
use Rattle.dd_model.specs.declared.index.Index.TheVariants.{Zero, Two}
use Rattle.dd_template.specs.declared.tables.Move.{Move}
use Rattle.dd_template.specs.Table.{Table, IsPart, move, move_in, part_after}
use Rattle.dd_template.specs.Reduced.{carried}

-- the moves of a word lead a part back to itself, and carry this reduced word
pub record LeadsBack (t : Table) (w : Word) (x : ℕ) (to : Word) : Type 0 where
  pub part : part_after t w x ≡ x
  pub word : carried t w x [] ≡ to

-- the move of the same index from there leads back by the same involution
pub record IsUndone (t : Table) (i : Index) (x : ℕ) : Type 0 where
  pub part : IsPart t (move t i x).to
  pub by : (move t i (move t i x).to).by ≡ (move t i x).by
  pub back : (move t i (move t i x).to).to ≡ x

-- all moves of an index lead back
abbrev pub AreUndoneBy : Table → Index → Type 0
AreUndoneBy t i = (x : ℕ) → IsPart t x → IsUndone t i x

-- all moves lead back
abbrev pub AreUndone : Table → Type 0
AreUndone t = (i : Index) → AreUndoneBy t i

-- the move of the part of the row to which a move of it leads goes back by the same involution
pub record IsUndoneIn (row : List Move) (x : ℕ) : Type 0 where
  pub part : (move_in row x).to < length row
  pub by : (move_in row (move_in row x).to).by ≡ (move_in row x).by
  pub back : (move_in row (move_in row x).to).to ≡ x

-- all moves of a row lead back
abbrev pub RowLeadsBack : List Move → Type 0
RowLeadsBack row = (x : ℕ) → x < length row → IsUndoneIn row x

-- s0 s2 s0 s2 leads from each part to itself with a word that reduces to the empty one
abbrev pub Commute : Table → Type 0
Commute t = (x : ℕ) → IsPart t x → LeadsBack t (Zero ∷ Two ∷ Zero ∷ Two ∷ []) x []
