use Rattle.std.proofs.Common.{sym, subst, arith}
use Rattle.dd_opword.specs.declared.letters.Letter.TheVariants.{Dual, Ambo, Truncate, Chamfer}
use Rattle.dd_opword.specs.Meaning.{IsMadeBy, table_of_letter}
use Rattle.dd_opword.proofs.LetterTables.{letter_lawful}
use Rattle.dd_opword.proofs.application.apply_letter.Goals as goal

pub apply-requires : goal.apply-requires
apply-requires c = (omega arith, letter_lawful Dual)

pub apply-requires-in-Ambo : goal.apply-requires-in-Ambo
apply-requires-in-Ambo c = (omega arith, letter_lawful Ambo)

pub apply-requires-in-Truncate : goal.apply-requires-in-Truncate
apply-requires-in-Truncate c = (omega arith, letter_lawful Truncate)

pub apply-requires-in-Chamfer : goal.apply-requires-in-Chamfer
apply-requires-in-Chamfer c = (omega arith, letter_lawful Chamfer)

pub returns-in-Dual : goal.returns-in-Dual
returns-in-Dual c =
    let told = c.apply.ensures in
    subst (λ l. IsMadeBy (table_of_letter l) c.args.symbol.now c.apply.result) (sym c.in-Dual.is)
    (record { made = told.made; within = told.within; why = told.why; small = told.small })

pub returns-in-Ambo : goal.returns-in-Ambo
returns-in-Ambo c =
    let told = c.apply-in-Ambo.ensures in
    subst (λ l. IsMadeBy (table_of_letter l) c.args.symbol.now c.apply-in-Ambo.result) (sym c.in-Ambo.is)
    (record { made = told.made; within = told.within; why = told.why; small = told.small })

pub returns-in-Truncate : goal.returns-in-Truncate
returns-in-Truncate c =
    let told = c.apply-in-Truncate.ensures in
    subst (λ l. IsMadeBy (table_of_letter l) c.args.symbol.now c.apply-in-Truncate.result) (sym c.in-Truncate.is)
    (record { made = told.made; within = told.within; why = told.why; small = told.small })

pub returns-in-Chamfer : goal.returns-in-Chamfer
returns-in-Chamfer c =
    let told = c.apply-in-Chamfer.ensures in
    subst (λ l. IsMadeBy (table_of_letter l) c.args.symbol.now c.apply-in-Chamfer.result) (sym c.in-Chamfer.is)
    (record { made = told.made; within = told.within; why = told.why; small = told.small })
