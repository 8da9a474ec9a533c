use Rattle.std.proofs.Common.{sym, subst, arith}
use Rattle.dd_model.specs.Symbol.{AreInvolutions}
use Rattle.dd_symbol.proofs.TableLemmas.{three_of_code}
use Rattle.dd_symbol.proofs.involutions.Involutions.from_known_bytes.Goals as goal

pub invariant_of-result : goal.invariant_of-result
invariant_of-result c =
    let rows = c.in_ok-from_bytes.field-0 in
    let small = rows.small in
    three_of_code rows.size rows.numbers (omega arith) (subst AreInvolutions (sym c.in_ok-from_bytes.ensures) c.requires.involutions)
