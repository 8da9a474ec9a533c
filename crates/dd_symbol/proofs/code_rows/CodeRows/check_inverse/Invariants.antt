use Rattle.std.proofs.Common.{◌≡◌, ℕ, ◌≤◌}
use Rattle.dd_model.specs.Symbol.{IsChamber, op}
use Rattle.dd_symbol.specs.Images.{rows_of}
use Rattle.dd_symbol.proofs.code_rows.CodeRows.check_inverse.Given as goal

abbrev pub invariant-loop-k : goal.invariant-loop-k
invariant-loop-k l = (e : ℕ) → IsChamber (rows_of l.self) e → e ≤ l.k → op (rows_of l.self) l.i (op (rows_of l.self) l.i e) ≡ e
