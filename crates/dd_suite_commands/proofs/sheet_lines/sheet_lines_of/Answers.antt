use Rattle.std.proofs.Common.{suc, ◌+◌, ◌≡◌, ◌∷◌, [], ◌++◌, take, length, ap, sym, ◌∙◌, subst, arith}
use Rattle.std.proofs.Math.Seq.{take-suc}
use Rattle.std.proofs.lemmas.List.{length-take-le}
use Rattle.dd_suite_commands.specs.Made.{IsCurved}
use Rattle.dd_suite_commands.specs.SheetLines.{AreSheetLines, AddsSheetLine, IsFirstCurved}
use Rattle.dd_suite_commands.specs.Stops.{IsStop}
use Rattle.dd_suite_commands.proofs.SheetLinesOnce.{sheet_lines_more, curved_after}
use Rattle.dd_suite_commands.proofs.SymbolStops.{stop_at}
use Rattle.dd_suite_commands.proofs.sheet_lines.sheet_lines_of.Goals as goal

pub returns-in-Err-clause-why : goal.returns-in-Err-clause-why
returns-in-Err-clause-why c =
    let ss = c.args.symbols.now in
    let i = c.loop-before.before in
    let s = c.index-symbols-before.result in
    let place : i + 1 ≡ 1 + i = omega arith in
    subst (IsStop (IsFirstCurved 1 ss)) (sym c.at.ensures)
    (stop_at (i + 1) (IsCurved s) (IsFirstCurved 1 ss) c.in-Err.stop c.in-Err.ensures.why (λ why fault.
    curved_after 1 ss c.loop-before.text.items i (record { symbol = i + 1; why = why }) s c.loop-before-test.true c.loop-before.invariant place (subst (λ t. IsCurved t why) c.index-symbols-before.is fault)))

pub loop-before-preserved : goal.loop-before-preserved
loop-before-preserved c =
    let ss = c.args.symbols.now in
    let i = c.loop-before.before in
    let s = c.index-symbols-before.result in
    let text = c.loop-before.text.items in
    let new = c.put_sheets.new.out.items in
    let adds : AddsSheetLine (i + 1) s text new = c.in_default.ensures.text in
    let next : i + 1 ≡ suc i = omega arith in
    let taken : take i ss ++ s ∷ [] ≡ take (i + 1) ss = ap (λ t. take i ss ++ t ∷ []) c.index-symbols-before.is ∙ sym (take-suc ss i s c.loop-before-test.true) ∙ ap (λ j. take j ss) (sym next) in
    let long : length (take i ss) ≡ i = (let below = c.loop-before-test.true in length-take-le i ss (omega arith)) in
    subst (λ xs. AreSheetLines 1 xs new) taken
    (subst (AreSheetLines 1 (take i ss ++ s ∷ [])) (sym adds.text)
    (sheet_lines_more 1 (i + 1) (take i ss) s text adds.line (omega arith) c.loop-before.invariant adds.is_line))
