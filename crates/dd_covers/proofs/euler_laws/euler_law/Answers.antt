use Rattle.std.proofs.Common.{pos, ◌≤ℤ◌, sym, subst, w64}
use Rattle.std.proofs.lemmas.Int.{to_z-of_z}
use Rattle.dd_covers.proofs.EulerLemmas.{euler_bound}
use Rattle.dd_covers.proofs.euler_laws.euler_law.Goals as goal

pub returns-clause-law : goal.returns-clause-law
returns-clause-law c =
    subst (λ z. z ≤ℤ pos 2) (sym (to_z-of_z w64 c.euler.result (record { sfits = c.euler.type_inv })))
    (euler_bound c.args.s.now c.euler.result c.symbol-symbol.ensures.symbol.symbol.table c.symbol-symbol.ensures.connected c.euler.ensures.euler)
