use Rattle.std.proofs.Common.{ℕ, ◌<◌}
use Rattle.dd_template.specs.Moves.{IsUndoneIn}
use Rattle.dd_template.proofs.tables.Template.lead_back.Given as goal

abbrev pub invariant-loop-part : goal.invariant-loop-part
invariant-loop-part g l = (x : ℕ) → x < l.part → IsUndoneIn l.row x
