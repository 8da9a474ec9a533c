use Rattle.std.proofs.Common.{sym, subst}
use Rattle.dd_opword.specs.Composed.{composed}
use Rattle.dd_opword.specs.Meaning.{IsMadeBy, table_of_letter}
use Rattle.dd_opword.proofs.application.apply_three.Goals as goal

pub returns-in-Dual : goal.returns-in-Dual
returns-in-Dual c =
    subst (λ l. IsMadeBy (composed (table_of_letter c.args.first) (composed (table_of_letter c.args.second) (table_of_letter l))) c.args.symbol.now c.apply_both_after.result)
    (sym c.in-Dual.is) c.apply_both_after.ensures

pub returns-in-Ambo : goal.returns-in-Ambo
returns-in-Ambo c =
    subst (λ l. IsMadeBy (composed (table_of_letter c.args.first) (composed (table_of_letter c.args.second) (table_of_letter l))) c.args.symbol.now c.apply_both_after-in-Ambo.result)
    (sym c.in-Ambo.is) c.apply_both_after-in-Ambo.ensures

pub returns-in-Truncate : goal.returns-in-Truncate
returns-in-Truncate c =
    subst (λ l. IsMadeBy (composed (table_of_letter c.args.first) (composed (table_of_letter c.args.second) (table_of_letter l))) c.args.symbol.now c.apply_both_after-in-Truncate.result)
    (sym c.in-Truncate.is) c.apply_both_after-in-Truncate.ensures

pub returns-in-Chamfer : goal.returns-in-Chamfer
returns-in-Chamfer c =
    subst (λ l. IsMadeBy (composed (table_of_letter c.args.first) (composed (table_of_letter c.args.second) (table_of_letter l))) c.args.symbol.now c.apply_both_after-in-Chamfer.result)
    (sym c.in-Chamfer.is) c.apply_both_after-in-Chamfer.ensures
