use Rattle.std.proofs.Common.{sym, subst, arith}
use Rattle.dd_template.specs.Table.{table_of}
use Rattle.dd_opword.specs.declared.letters.Letter.TheVariants.{Dual, Ambo, Truncate, Chamfer}
use Rattle.dd_opword.specs.Composed.{composed}
use Rattle.dd_opword.specs.Meaning.{IsMadeBy, table_of_letter}
use Rattle.dd_opword.proofs.LetterTables.{letter_follows}
use Rattle.dd_opword.proofs.application.apply_after.Goals as goal

pub apply_both-requires : goal.apply_both-requires
apply_both-requires g c =
    (omega arith, (omega (arith, c.requires.first.few), (letter_follows Dual (table_of c.args.inner.now) c.requires.first, omega arith)))

pub apply_both-requires-in-Ambo : goal.apply_both-requires-in-Ambo
apply_both-requires-in-Ambo g c =
    (omega arith, (omega (arith, c.requires.first.few), (letter_follows Ambo (table_of c.args.inner.now) c.requires.first, c.requires.ambo)))

pub apply_both-requires-in-Truncate : goal.apply_both-requires-in-Truncate
apply_both-requires-in-Truncate g c =
    (omega arith, (omega (arith, c.requires.first.few), (letter_follows Truncate (table_of c.args.inner.now) c.requires.first, c.requires.truncate)))

pub apply_both-requires-in-Chamfer : goal.apply_both-requires-in-Chamfer
apply_both-requires-in-Chamfer g c =
    (omega arith, (omega (arith, c.requires.first.few), (letter_follows Chamfer (table_of c.args.inner.now) c.requires.first, c.requires.chamfer)))

pub returns-in-Dual : goal.returns-in-Dual
returns-in-Dual g c =
    subst (λ l. IsMadeBy (composed (table_of_letter l) (table_of c.args.inner.now)) c.args.symbol.now c.apply_both.result)
    (sym c.in-Dual.is) c.apply_both.ensures

pub returns-in-Ambo : goal.returns-in-Ambo
returns-in-Ambo g c =
    subst (λ l. IsMadeBy (composed (table_of_letter l) (table_of c.args.inner.now)) c.args.symbol.now c.apply_both-in-Ambo.result)
    (sym c.in-Ambo.is) c.apply_both-in-Ambo.ensures

pub returns-in-Truncate : goal.returns-in-Truncate
returns-in-Truncate g c =
    subst (λ l. IsMadeBy (composed (table_of_letter l) (table_of c.args.inner.now)) c.args.symbol.now c.apply_both-in-Truncate.result)
    (sym c.in-Truncate.is) c.apply_both-in-Truncate.ensures

pub returns-in-Chamfer : goal.returns-in-Chamfer
returns-in-Chamfer g c =
    subst (λ l. IsMadeBy (composed (table_of_letter l) (table_of c.args.inner.now)) c.args.symbol.now c.apply_both-in-Chamfer.result)
    (sym c.in-Chamfer.is) c.apply_both-in-Chamfer.ensures
