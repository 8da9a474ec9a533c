use Rattle.std.proofs.Common.{sym, ◌∙◌, subst, arith}
use Rattle.std.specs.Prelude.{IsSome}
use Rattle.dd_model.proofs.Lists.{each_of}
use Rattle.dd_suite_tasks.specs.Merges.{IsFetchedFront}
use Rattle.dd_suite_tasks.proofs.FetchedFronts.{front_before, fronts_step}
use Rattle.dd_suite_tasks.proofs.merge.fetch_files.Goals as goal

pub loop-name-preserved : goal.loop-name-preserved
loop-name-preserved g c =
    let tells = g.S.Store.tells c.args.store.now in
    let held = g.S.Store.held c.args.store.now in
    let later = g.S.Store.held c.loop-name.store in
    let names = c.args.names.now in
    let k = c.loop-name.name-index in
    let name = c.name-item.result in
    let file = c.in_ok-file.file in
    let ih = c.loop-name.invariant in
    let front = subst (λ n. IsFetchedFront (g.S.Store.tells c.loop-name.store) (later n) 16777217 file.items) c.as_str.ensures c.in_ok-file.ensures.front in (
      fronts_step tells held 16777217 names k name c.loop-name.files.items c.push.new.self.items file ih.0 c.loop-name-test.true c.name-item.is
          (front_before tells (g.S.Store.tells c.loop-name.store) held later 16777217 name file.items ih.1 front) c.in_ok-push.ensures.items,
      λ told. let a = ih.1 told in let b = c.fetch_front.ensures.same a.0 in (b.0, λ other. b.1 other ∙ a.1 other),
      (let a = ih.2 in let b = c.fetch_front.ensures.cause.later in omega arith),
      λ sure told all.
          let a = ih.3 sure told all in
          let here = each_of (λ n. IsSome (held n)) names name all (k, c.loop-name-test.true, sym c.name-item.is) in
          let there = subst IsSome (sym ((ih.1 told).1 name)) here in
          let p = c.fetch_front.ensures.passes a.0 (subst (λ n. IsSome (later n)) (sym c.as_str.ensures) there) in
          (p.sure, p.count ∙ a.1),
    )
