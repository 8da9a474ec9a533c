use Rattle.std.proofs.Common.{sym, ap, ◌∙◌, subst, arith}
use Rattle.dd_template.specs.Table.{table_of}
use Rattle.dd_opword.specs.Composed.{composed}
use Rattle.dd_opword.specs.Meaning.{IsMadeBy, table_of_letter}
use Rattle.dd_opword.specs.Together.{MayGoFirst}
use Rattle.dd_opword.specs.declared.letters.Letter.TheVariants.{Dual, Ambo, Truncate, Chamfer}
use Rattle.dd_opword.proofs.LetterTables.{over_letter}
use Rattle.dd_opword.proofs.application.apply_both_after.Goals as goal

pub compose-both-requires : goal.compose-both-requires
compose-both-requires g c =
    let is = over_letter Dual c.requires.third.0 (table_of c.args.inner.now) c.requires.third.1 in
    (omega arith, (omega (arith, is.few), (omega (arith, is.few), (is.together, omega arith))))

pub apply_after-requires : goal.apply_after-requires
apply_after-requires g c =
    let is = over_letter Dual c.requires.third.0 (table_of c.args.inner.now) c.requires.third.1 in (
      omega (arith, is.few),
      (
        subst MayGoFirst (sym c.compose-both.ensures.table) is.first,
        (c.requires.low.0, (c.requires.low.1, (c.requires.low.2))),
      ),
    )

pub returns-in-Dual : goal.returns-in-Dual
returns-in-Dual g c =
    subst (λ t. IsMadeBy (composed (table_of_letter c.args.first) t) c.args.symbol.now c.apply_after.result)
    (c.compose-both.ensures.table ∙ ap (λ l. composed (table_of_letter l) (table_of c.args.inner.now)) (sym c.in-Dual.is)) c.apply_after.ensures

pub compose-both-requires-in-Ambo : goal.compose-both-requires-in-Ambo
compose-both-requires-in-Ambo g c =
    let is = over_letter Ambo c.requires.third.0 (table_of c.args.inner.now) c.requires.third.1 in
    (omega arith, (omega (arith, is.few), (omega (arith, is.few, c.requires.low.0), (is.together, c.requires.low.0))))

pub apply_after-requires-in-Ambo : goal.apply_after-requires-in-Ambo
apply_after-requires-in-Ambo g c =
    let is = over_letter Ambo c.requires.third.0 (table_of c.args.inner.now) c.requires.third.1 in (
      omega (arith, is.few, c.requires.low.0),
      (
        subst MayGoFirst (sym c.compose-both-in-Ambo.ensures.table) is.first,
        (omega (arith, c.requires.low.0, c.requires.low.2), (omega (arith, c.requires.low.0, c.requires.low.3), (omega (arith, c.requires.low.0, c.requires.high.0)))),
      ),
    )

pub returns-in-Ambo : goal.returns-in-Ambo
returns-in-Ambo g c =
    subst (λ t. IsMadeBy (composed (table_of_letter c.args.first) t) c.args.symbol.now c.apply_after-in-Ambo.result)
    (c.compose-both-in-Ambo.ensures.table ∙ ap (λ l. composed (table_of_letter l) (table_of c.args.inner.now)) (sym c.in-Ambo.is)) c.apply_after-in-Ambo.ensures

pub compose-both-requires-in-Truncate : goal.compose-both-requires-in-Truncate
compose-both-requires-in-Truncate g c =
    let is = over_letter Truncate c.requires.third.0 (table_of c.args.inner.now) c.requires.third.1 in
    (omega arith, (omega (arith, is.few), (omega (arith, is.few, c.requires.low.1), (is.together, c.requires.low.1))))

pub apply_after-requires-in-Truncate : goal.apply_after-requires-in-Truncate
apply_after-requires-in-Truncate g c =
    let is = over_letter Truncate c.requires.third.0 (table_of c.args.inner.now) c.requires.third.1 in (
      omega (arith, is.few, c.requires.low.1),
      (
        subst MayGoFirst (sym c.compose-both-in-Truncate.ensures.table) is.first,
        (omega (arith, c.requires.low.1, c.requires.low.3), (omega (arith, c.requires.low.1, c.requires.high.1), (omega (arith, c.requires.low.1, c.requires.high.2)))),
      ),
    )

pub returns-in-Truncate : goal.returns-in-Truncate
returns-in-Truncate g c =
    subst (λ t. IsMadeBy (composed (table_of_letter c.args.first) t) c.args.symbol.now c.apply_after-in-Truncate.result)
    (c.compose-both-in-Truncate.ensures.table ∙ ap (λ l. composed (table_of_letter l) (table_of c.args.inner.now)) (sym c.in-Truncate.is)) c.apply_after-in-Truncate.ensures

pub compose-both-requires-in-Chamfer : goal.compose-both-requires-in-Chamfer
compose-both-requires-in-Chamfer g c =
    let is = over_letter Chamfer c.requires.third.0 (table_of c.args.inner.now) c.requires.third.1 in
    (omega arith, (omega (arith, is.few), (omega (arith, is.few, c.requires.low.2), (is.together, c.requires.low.2))))

pub apply_after-requires-in-Chamfer : goal.apply_after-requires-in-Chamfer
apply_after-requires-in-Chamfer g c =
    let is = over_letter Chamfer c.requires.third.0 (table_of c.args.inner.now) c.requires.third.1 in (
      omega (arith, is.few, c.requires.low.2),
      (
        subst MayGoFirst (sym c.compose-both-in-Chamfer.ensures.table) is.first,
        (omega (arith, c.requires.low.2, c.requires.high.0), (omega (arith, c.requires.low.2, c.requires.high.2), (omega (arith, c.requires.low.2, c.requires.high.3)))),
      ),
    )

pub returns-in-Chamfer : goal.returns-in-Chamfer
returns-in-Chamfer g c =
    subst (λ t. IsMadeBy (composed (table_of_letter c.args.first) t) c.args.symbol.now c.apply_after-in-Chamfer.result)
    (c.compose-both-in-Chamfer.ensures.table ∙ ap (λ l. composed (table_of_letter l) (table_of c.args.inner.now)) (sym c.in-Chamfer.is)) c.apply_after-in-Chamfer.ensures
