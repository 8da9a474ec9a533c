use Rattle.std.proofs.Common.{suc, ◌+◌, ◌≡◌, ◌∷◌, [], ◌++◌, take, ap, sym, ◌∙◌, subst, arith}
use Rattle.std.proofs.Math.Seq.{take-suc}
use Rattle.dd_suite_commands.specs.Drawings.{AreDrawings, AddsDrawing, IsUndrawn, IsFirstUndrawn}
use Rattle.dd_suite_commands.specs.Stops.{IsStop}
use Rattle.dd_suite_commands.proofs.DrawnOnce.{drawings_more, undrawn_after}
use Rattle.dd_suite_commands.proofs.SymbolStops.{stop_at}
use Rattle.dd_suite_commands.proofs.drawings.drawings_of.Goals as goal

pub returns-in-Err-clause-why : goal.returns-in-Err-clause-why
returns-in-Err-clause-why c =
    let shape = c.args.shape in
    let ss = c.args.symbols.now in
    let i = c.loop-before.before in
    let s = c.index-symbols-before.result in
    let place : i + 1 ≡ 1 + i = omega arith in
    subst (IsStop (IsFirstUndrawn shape 1 ss)) (sym c.at.ensures)
    (stop_at (i + 1) (IsUndrawn s) (IsFirstUndrawn shape 1 ss) c.in-Err.stop c.in-Err.ensures.why (λ why fault.
    undrawn_after shape 1 ss c.loop-before.text.items i (record { symbol = i + 1; why = why }) s c.loop-before-test.true c.loop-before.invariant place (subst (λ t. IsUndrawn t why) c.index-symbols-before.is fault)))

pub loop-before-preserved : goal.loop-before-preserved
loop-before-preserved c =
    let shape = c.args.shape in
    let ss = c.args.symbols.now in
    let i = c.loop-before.before in
    let s = c.index-symbols-before.result in
    let text = c.loop-before.text.items in
    let new = c.put_drawing.new.out.items in
    let adds : AddsDrawing shape s text new = c.in_default.ensures.text in
    let next : i + 1 ≡ suc i = omega arith in
    let taken : take i ss ++ s ∷ [] ≡ take (i + 1) ss = ap (λ t. take i ss ++ t ∷ []) c.index-symbols-before.is ∙ sym (take-suc ss i s c.loop-before-test.true) ∙ ap (λ j. take j ss) (sym next) in
    subst (λ xs. AreDrawings shape xs new) taken
    (subst (AreDrawings shape (take i ss ++ s ∷ [])) (sym adds.text)
    (drawings_more shape (take i ss) s text adds.drawing c.loop-before.invariant adds.is_drawing))
