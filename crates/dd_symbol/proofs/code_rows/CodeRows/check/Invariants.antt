use Rattle.std.proofs.Common.{ℕ, ◌<◌}
use Rattle.dd_model.specs.declared.index.Index.{Index}
use Rattle.dd_model.proofs.AllIndices.{index_at_place}
use Rattle.dd_symbol.specs.Images.{rows_of}
use Rattle.dd_symbol.specs.Conditions.{IsWithin, IsInvolutive}
use Rattle.dd_symbol.proofs.code_rows.CodeRows.check.Given as goal

abbrev pub invariant-loop-i : goal.invariant-loop-i
invariant-loop-i l = (k : ℕ) → k < l.i-index → IsWithin (rows_of l.self) (index_at_place k)

abbrev pub invariant-loop-i-2 : goal.invariant-loop-i-2
invariant-loop-i-2 l = record {
  within : (i : Index) → IsWithin (rows_of l.self) i;
  involutive : (k : ℕ) → k < l.i-index → IsInvolutive (rows_of l.self) (index_at_place k);
}
