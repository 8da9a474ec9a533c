use Rattle.std.proofs.Common.{◌≡◌, ◌<◌, false, Err, Ok, sym, subst, rules}
use Rattle.std.proofs.lemmas.Result.{err_from_is_err_and}
use Rattle.dd_check.specs.ChainStarts.{Start}
use Rattle.dd_pages_and_checkpoints.specs.Runs.{IsLimit}
use Rattle.dd_pages_and_checkpoints.specs.Saves.{HoldsCheckAt, Saves}
use Rattle.std.specs.Prelude.{MatchBool}
use Rattle.dd_pages_and_checkpoints.specs.declared.finish.Finish.{Finish}
use Rattle.dd_pages_and_checkpoints.specs.declared.fault.RunFault.TheVariants.{Memory}
use Rattle.dd_catalogue_rounds.proofs.KeptRuns.{mid_stopped}
use Rattle.dd_catalogue_rounds.proofs.NextMembers.{emptied_waiting, member_full, member_none, member_saved, member_unsaved, next_waiting}
use Rattle.dd_catalogue_rounds.proofs.kept_round.keep_member.Goals as goal

pub returns-in_default-clause-leaves : goal.returns-in_default-clause-leaves
returns-in_default-clause-leaves g c w tells before start now same still mid =
    let held = g.S.Store.held c.args.store.now c.args.name.now in
    mid_stopped w tells false start before held now c.args.page.now c.args.front.now mid c.args.run.now.pause Memory

pub returns-then-not-more-clause-leaves : goal.returns-then-not-more-clause-leaves
returns-then-not-more-clause-leaves g c w tells before start now same still mid =
    let held = g.S.Store.held c.args.store.now c.args.name.now in
    let past = rw c.if-not-more.true at c.in-Ok.ensures.reached in
    member_none w tells start before held now c.args.page.now c.args.front.now mid c.reach_member.new.front past

pub returns-then-not-more-clause-waiting : goal.returns-then-not-more-clause-waiting
returns-then-not-more-clause-waiting g c =
    let past = rw c.if-not-more.true at c.in-Ok.ensures.reached in
    emptied_waiting past.count c.args.front.now c.reach_member.new.front past.emptied

pub returns-in_err-finish-clause-leaves : goal.returns-in_err-finish-clause-leaves
returns-in_err-finish-clause-leaves g c w tells before start now same still mid =
    let held = g.S.Store.held c.args.store.now c.args.name.now in
    let after = g.S.Store.held c.end_full.new.store c.args.name.now in
    let f = c.args.front.now in
    let m = c.reach_member.new.front in
    let page = c.args.page.now in
    let pause = c.args.run.now.pause in
    let limit = c.args.limit in
    let at = rw c.if-not-more.false at c.in-Ok.ensures.reached in
    let is = subst (λ (x : Start). IsLimit x.lines pause limit) (sym same) c.requires.limit in
    let count : page.count ≡ limit.last = search rules in
    let p = err_from_is_err_and c.from_residual.result c.from_residual.ensures.1 in
    rw p.1 (member_full w tells start before held now page f mid m at pause limit is count after (Err p.0) tt
    (λ told. subst (λ x. MatchBool limit.pauses (Saves {T = Finish} x page m held after (Err p.0)) (after ≡ held)) (sym same) (c.in_err-finish.ensures.saves (still told))))

pub returns-then-page-limit-clause-leaves : goal.returns-then-page-limit-clause-leaves
returns-then-page-limit-clause-leaves g c w tells before start now same still mid =
    let held = g.S.Store.held c.args.store.now c.args.name.now in
    let after = g.S.Store.held c.end_full.new.store c.args.name.now in
    let f = c.args.front.now in
    let m = c.reach_member.new.front in
    let page = c.args.page.now in
    let pause = c.args.run.now.pause in
    let limit = c.args.limit in
    let at = rw c.if-not-more.false at c.in-Ok.ensures.reached in
    let is = subst (λ (x : Start). IsLimit x.lines pause limit) (sym same) c.requires.limit in
    let count : page.count ≡ limit.last = search rules in
    let finish = c.in_ok-finish.finish in
    member_full w tells start before held now page f mid m at pause limit is count after (Ok finish) c.in_ok-finish.ensures.finish
    (λ told. subst (λ x. MatchBool limit.pauses (Saves {T = Finish} x page m held after (Ok finish)) (after ≡ held)) (sym same) (c.in_ok-finish.ensures.saves (still told)))

pub returns-then-page-limit-clause-waiting : goal.returns-then-page-limit-clause-waiting
returns-then-page-limit-clause-waiting g c =
    let at = rw c.if-not-more.false at c.in-Ok.ensures.reached in
    next_waiting c.args.front.now c.reach_member.new.front at

pub returns-in_err-save-clause-leaves : goal.returns-in_err-save-clause-leaves
returns-in_err-save-clause-leaves g c w tells before start now same still mid =
    let held = g.S.Store.held c.args.store.now c.args.name.now in
    let after = g.S.Store.held c.save.new.store c.args.name.now in
    let f = c.args.front.now in
    let m = c.reach_member.new.front in
    let page = c.args.page.now in
    let pause = c.args.run.now.pause in
    let limit = c.args.limit in
    let at = rw c.if-not-more.false at c.in-Ok.ensures.reached in
    let is = subst (λ (x : Start). IsLimit x.lines pause limit) (sym same) c.requires.limit in
    let low : page.count < limit.last = search rules in
    let p = err_from_is_err_and c.from_residual-in_err-save.result c.from_residual-in_err-save.ensures.1 in
    rw p.1 (member_unsaved w tells start before held now page f mid m at pause limit is low after p.0
    (λ told. subst (λ x. Saves {T = Unit} x page m held after (Err p.0)) (sym same) (c.in_err-save.ensures.saves (still told))))

pub returns-clause-leaves : goal.returns-clause-leaves
returns-clause-leaves g c w tells before start now same still mid =
    let held = g.S.Store.held c.args.store.now c.args.name.now in
    let after = g.S.Store.held c.save.new.store c.args.name.now in
    let f = c.args.front.now in
    let m = c.reach_member.new.front in
    let page = c.args.page.now in
    let pause = c.args.run.now.pause in
    let limit = c.args.limit in
    let at = rw c.if-not-more.false at c.in-Ok.ensures.reached in
    let is = subst (λ (x : Start). IsLimit x.lines pause limit) (sym same) c.requires.limit in
    let low : page.count < limit.last = search rules in
    member_saved w tells start before held now page f mid m at pause limit is low after (λ told. subst (λ x. HoldsCheckAt x page m after) (sym same) (c.in_ok-save.ensures.saves (still told)))

pub returns-clause-waiting : goal.returns-clause-waiting
returns-clause-waiting g c =
    let at = rw c.if-not-more.false at c.in-Ok.ensures.reached in
    next_waiting c.args.front.now c.reach_member.new.front at
