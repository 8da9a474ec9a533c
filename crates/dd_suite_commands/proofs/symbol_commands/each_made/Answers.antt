use Rattle.std.proofs.Common.{suc, ◌+◌, ◌≡◌, ◌∷◌, [], ◌++◌, take, ap, sym, ◌∙◌, subst, arith}
use Rattle.std.proofs.Math.Seq.{take-suc}
use Rattle.dd_suite_commands.specs.InTurn.{AreInTurn}
use Rattle.dd_suite_commands.specs.Made.{IsMade, IsFaultOf, IsFirstFault}
use Rattle.dd_suite_commands.specs.Stops.{IsStop}
use Rattle.dd_suite_commands.proofs.InTurnLemmas.{in_turn_more, first_fault_after}
use Rattle.dd_suite_commands.proofs.SymbolStops.{stop_at}
use Rattle.dd_suite_commands.proofs.symbol_commands.each_made.Goals as goal

pub returns-in-Err-clause-why : goal.returns-in-Err-clause-why
returns-in-Err-clause-why c =
    let command = c.args.command in
    let ss = c.args.symbols.now in
    let i = c.loop-before.before in
    let s = c.index-symbols-before.result in
    let place : i + 1 ≡ 1 + i = omega arith in
    subst (IsStop (IsFirstFault command 1 ss)) (sym c.at.ensures)
    (stop_at (i + 1) (IsFaultOf command s) (IsFirstFault command 1 ss) c.in-Err.stop c.in-Err.ensures.why (λ why fault.
    first_fault_after command 1 ss c.loop-before.made.items i s (record { symbol = i + 1; why = why }) c.loop-before-test.true c.loop-before.invariant place (subst (λ t. IsFaultOf command t why) c.index-symbols-before.is fault)))

pub loop-before-preserved : goal.loop-before-preserved
loop-before-preserved c =
    let command = c.args.command in
    let ss = c.args.symbols.now in
    let i = c.loop-before.before in
    let s = c.index-symbols-before.result in
    let made = c.loop-before.made.items in
    let one = c.in-Ok.one in
    let next : i + 1 ≡ suc i = omega arith in
    let taken : take i ss ++ s ∷ [] ≡ take (i + 1) ss = ap (λ t. take i ss ++ t ∷ []) c.index-symbols-before.is ∙ sym (take-suc ss i s c.loop-before-test.true) ∙ ap (λ j. take j ss) (sym next) in
    subst (AreInTurn (IsMade command) (take (i + 1) ss)) (sym c.in_ok-push-in-Ok.ensures.items)
    (subst (λ xs. AreInTurn (IsMade command) xs (made ++ one ∷ [])) taken
    (in_turn_more (IsMade command) (take i ss) made s one c.loop-before.invariant c.in-Ok.ensures.made))
