use Rattle.std.proofs.Common.{ℕ, ◌<◌, [], ◌∷◌}
use Rattle.dd_model.specs.declared.index.Index.TheVariants.{Zero, Two}
use Rattle.dd_template.specs.Table.{table_of}
use Rattle.dd_template.specs.Moves.{LeadsBack}
use Rattle.dd_template.proofs.undone.Undone.commute.Given as goal

abbrev pub invariant-loop-part : goal.invariant-loop-part
invariant-loop-part g l = (x : ℕ) → x < l.part → LeadsBack (table_of l.self.table.now) (Zero ∷ Two ∷ Zero ∷ Two ∷ []) x []
