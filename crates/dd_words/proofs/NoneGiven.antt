-- An answer that is none.
use Rattle.std.proofs.Common.{Option, None, Some}
use Rattle.std.specs.Prelude.{IfNone}

pub none_then : {A P Q : Type 0} (r : Option A) → (P → Q) → IfNone r P → IfNone r Q
none_then None f p = f p
none_then (Some x) f p = tt
