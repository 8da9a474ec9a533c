use Rattle.std.proofs.Common.{sym, subst}
use Rattle.std.proofs.lemmas.Result.{IfOk-weaker, IfErr-weaker}
use Rattle.dd_suite_tasks.specs.Merges.{IsFetchedFront}
use Rattle.dd_suite.proofs.ShardFetches.{front_check, front_stop}
use Rattle.dd_suite.proofs.resume.fetch_shard.Goals as goal

pub returns-clause-check : goal.returns-clause-check
returns-clause-check g c =
    let front = subst (λ bytes. IsFetchedFront (g.S.Store.tells c.args.store.now) (g.S.Store.held c.args.store.now c.args.name.now) 8192 bytes) (sym c.deref.ensures.value) c.in-Ok.ensures.front in
    IfOk-weaker c.shard_of.result _ _ (λ saved told. (told.0, front_check _ _ c.deref.result.now saved.shard saved.check front told.0 told.1)) c.shard_of.ensures.check

pub returns-clause-why : goal.returns-clause-why
returns-clause-why g c =
    let front = subst (λ bytes. IsFetchedFront (g.S.Store.tells c.args.store.now) (g.S.Store.held c.args.store.now c.args.name.now) 8192 bytes) (sym c.deref.ensures.value) c.in-Ok.ensures.front in
    IfErr-weaker c.shard_of.result _ _ (λ ending stops. front_stop ending _ _ c.deref.result.now _ _ front stops) c.shard_of.ensures.why
