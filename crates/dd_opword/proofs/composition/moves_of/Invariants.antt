use Rattle.std.proofs.Common.{◌≡◌, ℕ, ◌<◌, None, length, get_or}
use Rattle.dd_template.specs.Table.{table_of}
use Rattle.dd_opword.proofs.ComposedParts.{move_at}
use Rattle.dd_opword.proofs.composition.moves_of.Given as goal

abbrev pub invariant-loop-part : goal.invariant-loop-part
invariant-loop-part g l = record {
  length : length l.moves ≡ g.row.M;
  set : (j : ℕ) → j < l.part → get_or l.moves j (record { by = None; to = 0 }) ≡ move_at (table_of l.outer) (table_of l.inner) l.index j;
}
