-- Values that may be there.
use Rattle.std.proofs.Common.{◌≡◌, Option, None, Some, sym, subst}
use Rattle.std.specs.Prelude.{IfNone}

pub some_same : {A : Type 0} (x y : A) → Some x ≡ Some y → x ≡ y
some_same x y e = cc

-- an answer that is none
pub given_none : {A P : Type 0} (r : Option A) → r ≡ None → P → IfNone r P
given_none {P = P} r e p = subst (λ x. IfNone x P) (sym e) p
