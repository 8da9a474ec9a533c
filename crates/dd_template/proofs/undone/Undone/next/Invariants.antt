use Rattle.std.proofs.Common.{ℕ, ◌<◌}
use Rattle.dd_model.specs.declared.index.Index.{Index}
use Rattle.dd_template.specs.Table.{table_of}
use Rattle.dd_template.specs.Joined.{IsMet, LeadsToMet}
use Rattle.dd_template.proofs.undone.Undone.next.Given as goal

abbrev pub invariant-loop-part : goal.invariant-loop-part
invariant-loop-part g l = (i : Index) (x : ℕ) → x < l.part → IsMet l.met x → LeadsToMet (table_of l.self.table.now) l.met i x
