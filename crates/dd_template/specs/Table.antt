-- Tables of parts. Parts are counted from 0.
use Rattle.std.specs.Prelude.{ℕ, ◌<◌, List, [], ◌∷◌, slice_index_or, None}
use Rattle.dd_model.specs.Symbol.{Word}
use Rattle.dd_model.specs.declared.index.Index.{Index}
use Rattle.dd_model.specs.declared.index.Index.TheVariants.{Zero, One, Two}
use Rattle.dd_template.specs.declared.tables.Move.{Move}
use Rattle.dd_template.specs.declared.tables.Degree.{Degree}
use Rattle.dd_template.specs.declared.tables.Degree.TheVariants.{Fixed}
use Rattle.dd_template.specs.declared.tables.Template.{Template}

-- the moves of the parts by each involution, and what the two degrees of a part come from
pub record Table : Type 0 where
  pub parts : ℕ
  pub s0 : List Move
  pub s1 : List Move
  pub s2 : List Move
  pub face : List Degree
  pub degree : List Degree

-- the table of a template
abbrev pub table_of : {K : ℕ} → Template K → Table
table_of {K} t = record {
  parts = K;
  s0 = slice_index_or t.ops 0 [];
  s1 = slice_index_or t.ops 1 [];
  s2 = slice_index_or t.ops 2 [];
  face = t.face;
  degree = t.degree;
}

-- parts are counted from 0
abbrev pub IsPart : Table → ℕ → Type 0
IsPart t x = x < t.parts

-- the moves by an involution
abbrev pub moves : Table → Index → List Move
moves t Zero = t.s0
moves t One = t.s1
moves t Two = t.s2

-- the move of a part in a row
abbrev pub move_in : List Move → ℕ → Move
move_in row x = slice_index_or row x (record { by = None; to = 0 })

-- the move of a part by an involution
abbrev pub move : Table → Index → ℕ → Move
move t i x = move_in (moves t i) x

-- the entry of a part
abbrev pub entry : List Degree → ℕ → Degree
entry ds x = slice_index_or ds x (Fixed 0)

-- the part to which the moves of a word lead
abbrev pub part_after : Table → Word → ℕ → ℕ
part_after t [] x = x
part_after t (i ∷ w) x = part_after t w (move t i x).to
