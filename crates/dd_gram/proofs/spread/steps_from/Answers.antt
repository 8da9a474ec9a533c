use Rattle.std.proofs.Common.{replicate, false, sym, ap, ◌∙◌, subst}
use Rattle.dd_gram.specs.Spreading.{AreLevel, IsNewStep}
use Rattle.dd_gram.specs.Tori.{Torus, IsWithNet}
use Rattle.dd_gram.proofs.SpreadLemmas.{IsSpread, spread_more, spread_start, spread_whole}
use Rattle.dd_gram.proofs.spread.steps_from.Goals as goal

pub loop-step-init : goal.loop-step-init
loop-step-init c =
    let o = c.args.torus.now in
    spread_start o.symbol o.net c.args.root c.in_ok-met.met.items c.new-steps.result.items c.requires
    (c.in_ok-met.ensures.items_if_clones_equal (λ y e. e) ∙ ap (λ (z : Torus). replicate z.net.vertices false) c.torus.view_is) c.new-steps.ensures.items

pub loop-step-preserved : goal.loop-step-preserved
loop-step-preserved c =
    let o = c.args.torus.now in
    let met = c.loop-step.met.items in
    let step = c.in-Some.step in
    let new : IsNewStep o.symbol o.net met step = subst (λ xs. IsNewStep o.symbol o.net xs step) c.deref.ensures.value c.in-Some.ensures in
    subst (IsSpread o.symbol o.net c.args.root _) (sym c.in_ok-push.ensures.items) (spread_more o.symbol o.net c.args.root met c.loop-step.steps.items c.loop-step.invariant step new c.requires)

pub returns : goal.returns
returns c =
    let o = c.args.torus.now in
    let is = subst (λ (z : Torus). IsWithNet z.symbol z.net z.edges) c.torus.view_is c.torus.invariant in
    let level : AreLevel o.net c.loop-step.met.items = subst (AreLevel o.net) c.deref.ensures.value c.in_default.ensures in
    spread_whole o.symbol is.torus o.net is.is_net c.args.root c.loop-step.met.items c.loop-step.steps.items c.requires c.loop-step.invariant level
