use Rattle.std.proofs.Common.{refl, sym, subst, arith}
use Rattle.dd_opword.specs.declared.letters.Letter.TheVariants.{Dual, Ambo, Truncate, Chamfer}
use Rattle.dd_opword.specs.Composed.{composed}
use Rattle.dd_opword.specs.Meaning.{IsMadeBy, table_of_letter}
use Rattle.dd_opword.proofs.LetterTables.{letter_first}
use Rattle.dd_opword.proofs.application.apply_two.Goals as goal

pub apply_after-requires : goal.apply_after-requires
apply_after-requires c = (omega arith, (letter_first Dual, (refl, (refl, refl))))

pub apply_after-requires-in-Ambo : goal.apply_after-requires-in-Ambo
apply_after-requires-in-Ambo c = (omega arith, (letter_first Ambo, (refl, (refl, refl))))

pub apply_after-requires-in-Truncate : goal.apply_after-requires-in-Truncate
apply_after-requires-in-Truncate c = (omega arith, (letter_first Truncate, (refl, (refl, refl))))

pub apply_after-requires-in-Chamfer : goal.apply_after-requires-in-Chamfer
apply_after-requires-in-Chamfer c = (omega arith, (letter_first Chamfer, (refl, (refl, refl))))

pub returns-in-Dual : goal.returns-in-Dual
returns-in-Dual c =
    subst (λ l. IsMadeBy (composed (table_of_letter c.args.first) (table_of_letter l)) c.args.symbol.now c.apply_after.result)
    (sym c.in-Dual.is) c.apply_after.ensures

pub returns-in-Ambo : goal.returns-in-Ambo
returns-in-Ambo c =
    subst (λ l. IsMadeBy (composed (table_of_letter c.args.first) (table_of_letter l)) c.args.symbol.now c.apply_after-in-Ambo.result)
    (sym c.in-Ambo.is) c.apply_after-in-Ambo.ensures

pub returns-in-Truncate : goal.returns-in-Truncate
returns-in-Truncate c =
    subst (λ l. IsMadeBy (composed (table_of_letter c.args.first) (table_of_letter l)) c.args.symbol.now c.apply_after-in-Truncate.result)
    (sym c.in-Truncate.is) c.apply_after-in-Truncate.ensures

pub returns-in-Chamfer : goal.returns-in-Chamfer
returns-in-Chamfer c =
    subst (λ l. IsMadeBy (composed (table_of_letter c.args.first) (table_of_letter l)) c.args.symbol.now c.apply_after-in-Chamfer.result)
    (sym c.in-Chamfer.is) c.apply_after-in-Chamfer.ensures
