use Rattle.std.proofs.Common.{◌≡◌, ℕ, ◌<◌, length, get_or}
use Rattle.dd_template.specs.Table.{table_of}
use Rattle.dd_template.specs.declared.tables.Degree.TheVariants.{Fixed}
use Rattle.dd_opword.proofs.ComposedParts.{degree_at}
use Rattle.dd_opword.proofs.composition.entries_of.Given as goal

abbrev pub invariant-loop-part : goal.invariant-loop-part
invariant-loop-part g l = record {
  length : length l.entries ≡ g.row.M;
  set : (j : ℕ) → j < l.part → get_or l.entries j (Fixed 0) ≡ degree_at (table_of l.outer) (table_of l.inner) l.pair j;
}
