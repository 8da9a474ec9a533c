use Rattle.std.proofs.Common.{◌≡◌, ◌<◌, Ok, Err, ◌∙◌, refl, sym, ap, subst, arith, List}
use Rattle.std.proofs.lemmas.Result.{err_from_is_err_and}
use Rattle.dd_model.specs.Request.{IsValid}
use Rattle.dd_model.specs.declared.jobs.Position.TheVariants.{End}
use Rattle.dd_model.specs.declared.jobs.Job.{Job}
use Rattle.dd_front.specs.Machine.{StandsAt}
use Rattle.dd_front.specs.Rounds.{open_jobs}
use Rattle.dd_check.specs.ChainStarts.{Start}
use Rattle.dd_check.specs.Clauses.{HasWork}
use Rattle.dd_pages_and_checkpoints.specs.Names.{HasRun}
use Rattle.dd_pages_and_checkpoints.specs.Runs.{start_of}
use Rattle.dd_pages_and_checkpoints.specs.Saves.{HoldsCheckAt, Saves}
use Rattle.dd_pages_and_checkpoints.proofs.RunFacts.{run_valid, run_first}
use Rattle.dd_pages_and_checkpoints.specs.declared.fault.RunFault.TheVariants.{Memory}
use Rattle.dd_catalogue_rounds.specs.Kept.{IsHead}
use Rattle.dd_catalogue_rounds.specs.Splits.{IsGroupDone}
use Rattle.dd_catalogue_rounds.proofs.Outcomes.{limit_above}
use Rattle.dd_catalogue_rounds.proofs.WaySteps.{way_ready}
use Rattle.dd_catalogue_rounds.proofs.Weights.{weighed}
use Rattle.dd_catalogue_rounds.proofs.PlainRuns.{lighter_group}
use Rattle.dd_catalogue_rounds.proofs.KeptRuns.{first_failed, head_first, other_fault}
use Rattle.dd_catalogue_rounds.proofs.KeptGroups.{group_mid, group_way, group_work, head_ended, head_stopped, head_unsaved, head_whole}
use Rattle.dd_catalogue_rounds.proofs.chain.keep_rounds.Goals as goal

pub returns-in_err-save_first-clause-run : goal.returns-in_err-save_first-clause-run
returns-in_err-save_first-clause-run g c =
    let s = start_of c.args.run.now in
    let most = c.args.run.now.pace.round in
    let tells = g.S.Store.tells c.args.store.now in
    let old = g.O.Sink.held c.args.out.now in
    let before = g.S.Store.held c.args.store.now c.args.name.now in
    let after = g.S.Store.held c.save_first.new.store c.args.name.now in
    let p = err_from_is_err_and c.from_residual.result c.from_residual.ensures.1 in
    rw p.1 (first_failed s most c.args.run.now.pace.some_jobs old before before c.args.output.now.page c.args.output.now.front c.requires.begun c.requires.empty c.requires.count c.requires.bytes (run_first c.args.run.now)
    c.args.run.now.pause after tells p.0 (λ told. c.in_err-save_first.ensures.saves told))

pub loop-more-init : goal.loop-more-init
loop-more-init g c =
    let s = start_of c.args.run.now in
    let most = c.args.run.now.pace.round in
    let tells = g.S.Store.tells c.args.store.now in
    let old = g.O.Sink.held c.args.out.now in
    let before = g.S.Store.held c.args.store.now c.args.name.now in
    let held = g.S.Store.held c.save_first.new.store c.args.name.now in
    let above = limit_above c.args.run.now.lines c.args.run.now.pause c.limit-limit.result c.limit-limit.ensures c.args.run.now.few_lines in
    record {
      head = head_first s most c.args.run.now.pace.some_jobs old before held c.args.output.now.page c.args.output.now.front c.requires.begun c.requires.empty c.requires.count c.requires.bytes (run_first c.args.run.now) tells (λ told. c.in_ok-save_first.ensures.saves told);
      low = omega (arith, above, c.requires.count);
      store_faults = c.save_first.ensures.cause.later;
      store_sure = λ sure. let stays = c.save_first.ensures.sure sure in (stays.sure, stays.count);
      others = λ told. c.save_first.ensures.others told;
      sink_faults = omega arith;
      sink_sure = λ sure. (sure, refl);
      request = refl;
    }

pub do_kept_round-requires-clause-ready : goal.do_kept_round-requires-clause-ready
do_kept_round-requires-clause-ready g c κs within =
    let head = c.loop-more.invariant.head in
    let asked = ap (λ (x : Start). x.portion.request) head.start_is ∙ sym (c.loop-more.invariant.request ∙ c.requires.request) in
    way_ready (g.F.Finder.request c.loop-more.finder) head.way (g.O.Sink.held c.loop-more.out) c.loop-more.output.page c.loop-more.output.front asked head.mid.under head.opens
    (subst IsValid (sym (c.loop-more.invariant.request ∙ c.requires.request)) (run_valid c.args.run.now))

pub returns-clause-run : goal.returns-clause-run
returns-clause-run g c =
    let s = start_of c.args.run.now in
    let most = c.args.run.now.pace.round in
    let tells = g.S.Store.tells c.args.store.now in
    let old = g.O.Sink.held c.args.out.now in
    let before = g.S.Store.held c.args.store.now c.args.name.now in
    let held = g.S.Store.held c.loop-more.store c.args.name.now in
    let now = g.O.Sink.held c.loop-more.out in
    let page = c.loop-more.output.page in
    let f = c.loop-more.output.front in
    let head = c.loop-more.invariant.head in
    head_stopped s most tells c.loop-more.output.is_kept old before held now page f head c.args.run.now.pause Memory

pub returns-else-not-output-clause-run : goal.returns-else-not-output-clause-run
returns-else-not-output-clause-run g c =
    let s = start_of c.args.run.now in
    let most = c.args.run.now.pace.round in
    let tells = g.S.Store.tells c.args.store.now in
    let old = g.O.Sink.held c.args.out.now in
    let before = g.S.Store.held c.args.store.now c.args.name.now in
    let held = g.S.Store.held c.loop-more.store c.args.name.now in
    let now = g.O.Sink.held c.loop-more.out in
    let page = c.loop-more.output.page in
    let f = c.loop-more.output.front in
    let head = c.loop-more.invariant.head in
    let end = rw c.if-not-more.true at c.in-Ok.ensures.round in
    head_whole s most tells c.loop-more.output.is_kept old before held now page f head c.if-not-output.false c.args.run.now.pause c.limit-limit.result c.limit-limit.ensures c.loop-more.invariant.low end.none

pub returns-in_err-save-clause-run : goal.returns-in_err-save-clause-run
returns-in_err-save-clause-run g c =
    let s = start_of c.args.run.now in
    let most = c.args.run.now.pace.round in
    let tells = g.S.Store.tells c.args.store.now in
    let old = g.O.Sink.held c.args.out.now in
    let before = g.S.Store.held c.args.store.now c.args.name.now in
    let held = g.S.Store.held c.loop-more.store c.args.name.now in
    let now = g.O.Sink.held c.loop-more.out in
    let page = c.loop-more.output.page in
    let f = c.loop-more.output.front in
    let head = c.loop-more.invariant.head in
    let after = g.S.Store.held c.save.new.store c.args.name.now in
    let end = rw c.if-not-more.true at c.in-Ok.ensures.round in
    let away = subst (λ here. IsHead s most tells here old before held now page f) c.if-not-output.true head in
    let ends : StandsAt f.from f.entries End = subst (λ es. StandsAt f.from es End) (sym end.none) refl in
    let p = err_from_is_err_and c.from_residual-in_err-save.result c.from_residual-in_err-save.ensures.1 in
    rw p.1 (head_unsaved s most tells old before held now page f away End ends tt after c.args.run.now.pause p.0 (λ told. subst (λ m. Saves {T = Unit} s page m held after (Err p.0)) end.same (c.in_err-save.ensures.saves (c.loop-more.invariant.others told).0)))

pub returns-in_ok-save-clause-run : goal.returns-in_ok-save-clause-run
returns-in_ok-save-clause-run g c =
    let s = start_of c.args.run.now in
    let most = c.args.run.now.pace.round in
    let tells = g.S.Store.tells c.args.store.now in
    let old = g.O.Sink.held c.args.out.now in
    let before = g.S.Store.held c.args.store.now c.args.name.now in
    let held = g.S.Store.held c.loop-more.store c.args.name.now in
    let now = g.O.Sink.held c.loop-more.out in
    let page = c.loop-more.output.page in
    let f = c.loop-more.output.front in
    let head = c.loop-more.invariant.head in
    let after = g.S.Store.held c.save.new.store c.args.name.now in
    let end = rw c.if-not-more.true at c.in-Ok.ensures.round in
    let away = subst (λ here. IsHead s most tells here old before held now page f) c.if-not-output.true head in
    let ends : StandsAt f.from f.entries End = subst (λ es. StandsAt f.from es End) (sym end.none) refl in
    head_ended s most tells old before held now page f away after c.args.run.now.pause c.limit-limit.result c.limit-limit.ensures c.loop-more.invariant.low end.none
    (λ told. subst (λ m. HoldsCheckAt s page m after) end.same (c.in_ok-save.ensures.saves (c.loop-more.invariant.others told).0))

pub keep_round-requires-clause-mid : goal.keep_round-requires-clause-mid
keep_round-requires-clause-mid g c κs within =
    let s = start_of c.args.run.now in
    let most = c.args.run.now.pace.round in
    let tells = g.S.Store.tells c.args.store.now in
    let old = g.O.Sink.held c.args.out.now in
    let before = g.S.Store.held c.args.store.now c.args.name.now in
    let held = g.S.Store.held c.loop-more.store c.args.name.now in
    let now = g.O.Sink.held c.loop-more.out in
    let page = c.loop-more.output.page in
    let f = c.loop-more.output.front in
    let head = c.loop-more.invariant.head in
    let w = head.way in
    let h = c.do_kept_round.new.front in
    let round = rw c.if-not-more.false at c.in-Ok.ensures.round in
    let asked : g.F.Finder.request c.loop-more.finder ≡ w.start.portion.request = c.loop-more.invariant.request ∙ c.requires.request ∙ ap (λ (x : Start). x.portion.request) (sym head.start_is) in
    let group = subst (λ q. IsGroupDone q w.most f h) asked (subst (λ n. IsGroupDone (g.F.Finder.request c.loop-more.finder) n f h) (sym head.most_is) round) in
    let mid = group_mid s most tells c.loop-more.output.is_kept old before held now page f head h group in
    let way = group_way s most tells c.loop-more.output.is_kept old before held now page f head h group in
    record { way = way; start_is = head.start_is; work = subst HasWork head.start_is (group_work s most tells c.loop-more.output.is_kept old before held now page f head h group); tells = tells; old = old; before = before; held = held; mid = mid }

pub returns-in_err-here-clause-run : goal.returns-in_err-here-clause-run
returns-in_err-here-clause-run g c =
    let s = start_of c.args.run.now in
    let most = c.args.run.now.pace.round in
    let tells = g.S.Store.tells c.args.store.now in
    let old = g.O.Sink.held c.args.out.now in
    let before = g.S.Store.held c.args.store.now c.args.name.now in
    let held = g.S.Store.held c.loop-more.store c.args.name.now in
    let now = g.O.Sink.held c.loop-more.out in
    let page = c.loop-more.output.page in
    let f = c.loop-more.output.front in
    let head = c.loop-more.invariant.head in
    let w = head.way in
    let h = c.do_kept_round.new.front in
    let round = rw c.if-not-more.false at c.in-Ok.ensures.round in
    let asked : g.F.Finder.request c.loop-more.finder ≡ w.start.portion.request = c.loop-more.invariant.request ∙ c.requires.request ∙ ap (λ (x : Start). x.portion.request) (sym head.start_is) in
    let group = subst (λ q. IsGroupDone q w.most f h) asked (subst (λ n. IsGroupDone (g.F.Finder.request c.loop-more.finder) n f h) (sym head.most_is) round) in
    let mid = group_mid s most tells c.loop-more.output.is_kept old before held now page f head h group in
    let way = group_way s most tells c.loop-more.output.is_kept old before held now page f head h group in
    let work = subst HasWork head.start_is (group_work s most tells c.loop-more.output.is_kept old before held now page f head h group) in
    let leaves = c.in_err-here.ensures.leaves way tells before old head.start_is (λ told. (c.loop-more.invariant.others told).0) mid work in
    let after = g.S.Store.held c.keep_round.new.store c.args.name.now in
    let p = err_from_is_err_and c.from_residual-in_err-here.result c.from_residual-in_err-here.ensures.1 in
    rw p.1 (subst (λ n. HasRun s n c.args.run.now.pause old (g.O.Sink.held c.keep_round.new.out) tells before after (Err p.0)) head.most_is
    (other_fault s head.way.most c.args.run.now.pause old (g.O.Sink.held c.keep_round.new.out) tells before after c.in_err-here.field-0.0 p.0 leaves))

pub returns-in-Ended-clause-run : goal.returns-in-Ended-clause-run
returns-in-Ended-clause-run g c =
    let s = start_of c.args.run.now in
    let most = c.args.run.now.pace.round in
    let tells = g.S.Store.tells c.args.store.now in
    let old = g.O.Sink.held c.args.out.now in
    let before = g.S.Store.held c.args.store.now c.args.name.now in
    let held = g.S.Store.held c.loop-more.store c.args.name.now in
    let now = g.O.Sink.held c.loop-more.out in
    let page = c.loop-more.output.page in
    let f = c.loop-more.output.front in
    let head = c.loop-more.invariant.head in
    let w = head.way in
    let h = c.do_kept_round.new.front in
    let round = rw c.if-not-more.false at c.in-Ok.ensures.round in
    let asked : g.F.Finder.request c.loop-more.finder ≡ w.start.portion.request = c.loop-more.invariant.request ∙ c.requires.request ∙ ap (λ (x : Start). x.portion.request) (sym head.start_is) in
    let group = subst (λ q. IsGroupDone q w.most f h) asked (subst (λ n. IsGroupDone (g.F.Finder.request c.loop-more.finder) n f h) (sym head.most_is) round) in
    let mid = group_mid s most tells c.loop-more.output.is_kept old before held now page f head h group in
    let way = group_way s most tells c.loop-more.output.is_kept old before held now page f head h group in
    let work = subst HasWork head.start_is (group_work s most tells c.loop-more.output.is_kept old before held now page f head h group) in
    let leaves = c.in_ok-here.ensures.leaves way tells before old head.start_is (λ told. (c.loop-more.invariant.others told).0) mid work in
    let after = g.S.Store.held c.keep_round.new.store c.args.name.now in
    let ends = rw c.in-Ended.is at leaves in
    subst (λ n. HasRun s n c.args.run.now.pause old (g.O.Sink.held c.keep_round.new.out) tells before after (Ok c.in-Ended.finish)) head.most_is ends

pub loop-more-smaller : goal.loop-more-smaller
loop-more-smaller g c =
    let s = start_of c.args.run.now in
    let most = c.args.run.now.pace.round in
    let tells = g.S.Store.tells c.args.store.now in
    let old = g.O.Sink.held c.args.out.now in
    let before = g.S.Store.held c.args.store.now c.args.name.now in
    let held = g.S.Store.held c.loop-more.store c.args.name.now in
    let now = g.O.Sink.held c.loop-more.out in
    let page = c.loop-more.output.page in
    let f = c.loop-more.output.front in
    let head = c.loop-more.invariant.head in
    let w = head.way in
    let h = c.do_kept_round.new.front in
    let round = rw c.if-not-more.false at c.in-Ok.ensures.round in
    let asked : g.F.Finder.request c.loop-more.finder ≡ w.start.portion.request = c.loop-more.invariant.request ∙ c.requires.request ∙ ap (λ (x : Start). x.portion.request) (sym head.start_is) in
    let group = subst (λ q. IsGroupDone q w.most f h) asked (subst (λ n. IsGroupDone (g.F.Finder.request c.loop-more.finder) n f h) (sym head.most_is) round) in
    let mid = group_mid s most tells c.loop-more.output.is_kept old before held now page f head h group in
    let way = group_way s most tells c.loop-more.output.is_kept old before held now page f head h group in
    let valid = subst IsValid (ap (λ (x : Start). x.portion.request) (sym head.start_is)) (run_valid c.args.run.now) in
    let ready = way_ready w.start.portion.request w now page f refl head.mid.under head.opens valid in
    let waiting = rw c.in-Next.is at c.in_ok-here.ensures.waiting in
    subst (λ (js : List Job). weighed js < weighed (open_jobs f.entries)) (sym waiting) (lighter_group w.start.portion.request w.most f h valid ready.jobs head.opens group)

pub loop-more-preserved : goal.loop-more-preserved
loop-more-preserved g c =
    let s = start_of c.args.run.now in
    let most = c.args.run.now.pace.round in
    let tells = g.S.Store.tells c.args.store.now in
    let old = g.O.Sink.held c.args.out.now in
    let before = g.S.Store.held c.args.store.now c.args.name.now in
    let held = g.S.Store.held c.loop-more.store c.args.name.now in
    let now = g.O.Sink.held c.loop-more.out in
    let page = c.loop-more.output.page in
    let f = c.loop-more.output.front in
    let head = c.loop-more.invariant.head in
    let w = head.way in
    let h = c.do_kept_round.new.front in
    let round = rw c.if-not-more.false at c.in-Ok.ensures.round in
    let asked : g.F.Finder.request c.loop-more.finder ≡ w.start.portion.request = c.loop-more.invariant.request ∙ c.requires.request ∙ ap (λ (x : Start). x.portion.request) (sym head.start_is) in
    let group = subst (λ q. IsGroupDone q w.most f h) asked (subst (λ n. IsGroupDone (g.F.Finder.request c.loop-more.finder) n f h) (sym head.most_is) round) in
    let mid = group_mid s most tells c.loop-more.output.is_kept old before held now page f head h group in
    let way = group_way s most tells c.loop-more.output.is_kept old before held now page f head h group in
    let work = subst HasWork head.start_is (group_work s most tells c.loop-more.output.is_kept old before held now page f head h group) in
    let leaves = c.in_ok-here.ensures.leaves way tells before old head.start_is (λ told. (c.loop-more.invariant.others told).0) mid work in
    let after = g.S.Store.held c.keep_round.new.store c.args.name.now in
    let next = rw c.in-Next.is at leaves in
    let low = rw c.in-Next.is at c.in_ok-here.ensures.room in
    let ih = c.loop-more.invariant in
    record {
      head = subst (λ n. IsHead s n tells c.in-Next.here old before after (g.O.Sink.held c.keep_round.new.out) c.keep_round.new.output.page c.keep_round.new.output.front) head.most_is next;
      low = low;
      store_faults = omega (arith, c.keep_round.ensures.store_cause.later, ih.store_faults);
      store_sure = λ s. let sure = ih.store_sure s in let later = c.keep_round.ensures.store_sure sure.0 in (later.sure, later.count ∙ sure.1);
      others = λ told. let was = ih.others told in let others = c.keep_round.ensures.others was.0 in (others.0, λ other not. others.1 other not ∙ was.1 other not);
      sink_faults = omega (arith, c.keep_round.ensures.sink_cause.later, ih.sink_faults);
      sink_sure = λ s. let sure = ih.sink_sure s in let later = c.keep_round.ensures.sink_sure sure.0 in (later.sure, later.count ∙ sure.1);
      request = c.do_kept_round.ensures.request ∙ ih.request;
    }
