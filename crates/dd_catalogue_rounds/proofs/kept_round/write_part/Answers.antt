use Rattle.std.proofs.Common.{◌≡◌, ◌<◌, ◌+◌, false, Err, Ok, sym, subst}
use Rattle.std.specs.Prelude.{MatchBool}
use Rattle.std.proofs.lemmas.Result.{err_from_is_err_and}
use Rattle.dd_check.specs.ChainStarts.{Start}
use Rattle.dd_check.specs.Clauses.{HasWork}
use Rattle.dd_pages_and_checkpoints.specs.declared.finish.Finish.{Finish}
use Rattle.dd_pages_and_checkpoints.specs.Names.{HasRun}
use Rattle.dd_pages_and_checkpoints.specs.Runs.{IsLimit, start_of}
use Rattle.dd_pages_and_checkpoints.specs.Saves.{HoldsCheckAt, Saves}
use Rattle.dd_catalogue_rounds.specs.Kept.{IsHead}
use Rattle.dd_catalogue_rounds.specs.Steps.{Leaves}
use Rattle.dd_catalogue_rounds.specs.Ways.{IsFull}
use Rattle.dd_catalogue_rounds.proofs.KeptRuns.{other_fault}
use Rattle.dd_catalogue_rounds.proofs.KeptGroups.{written_full, written_head, written_part}
use Rattle.dd_catalogue_rounds.proofs.NextMembers.{after_saved, after_unsaved, less_than, more_than}
use Rattle.dd_catalogue_rounds.proofs.kept_round.write_part.Goals as goal

pub write_round-requires-clause-any : goal.write_round-requires-clause-any
write_round-requires-clause-any g c κs within = record { any = c.requires.mid.way; way = c.requires.mid.mid.under }

pub returns-in_err-write_round-clause-leaves : goal.returns-in_err-write_round-clause-leaves
returns-in_err-write_round-clause-leaves g c w tells before start same still mid work =
    let s = start_of c.args.run.now in
    let held = g.S.Store.held c.args.store.now c.args.name.now in
    let mid_now = g.O.Sink.held c.args.out.now in
    let now = g.O.Sink.held c.write_round.new.out in
    let page = c.args.output.now.page in
    let new = c.write_round.new.page in
    let f = c.args.output.now.front in
    let h = c.write_round.new.front in
    let pause = c.args.run.now.pause in
    let limit = c.args.limit in
    let is = subst (λ (x : Start). IsLimit x.lines pause limit) (sym same) c.requires.limit in
    let due = subst HasWork (sym same) work in
    let p = err_from_is_err_and c.from_residual.result c.from_residual.ensures.1 in
    rw p.1 (written_part w tells start before held mid_now page f mid now new h pause p.0 (c.write_round.ensures.part w mid.under))

pub returns-in_err-finish-clause-leaves : goal.returns-in_err-finish-clause-leaves
returns-in_err-finish-clause-leaves g c w tells before start same still mid work =
    let s = start_of c.args.run.now in
    let held = g.S.Store.held c.args.store.now c.args.name.now in
    let mid_now = g.O.Sink.held c.args.out.now in
    let now = g.O.Sink.held c.write_round.new.out in
    let page = c.args.output.now.page in
    let new = c.write_round.new.page in
    let f = c.args.output.now.front in
    let h = c.write_round.new.front in
    let pause = c.args.run.now.pause in
    let limit = c.args.limit in
    let is = subst (λ (x : Start). IsLimit x.lines pause limit) (sym same) c.requires.limit in
    let due = subst HasWork (sym same) work in
    let last = c.min-last.result in
    let full = (rw c.if-not-branch.true at c.in_ok-write_round.ensures.full) w mid.under in
    let whole = subst (λ n. IsFull w now new n h) c.if-last-limit.true full in
    let after = g.S.Store.held c.end_full.new.store c.args.name.now in
    let p = err_from_is_err_and c.from_residual-in_err-finish.result c.from_residual-in_err-finish.ensures.1 in
    rw p.1 (written_full w tells start before held mid_now page f mid now new h limit whole c.in_ok-write_round.ensures.empty due pause is after (Err p.0) tt
    (λ told. subst (λ x. MatchBool limit.pauses (Saves {T = Finish} x new h held after (Err p.0)) (after ≡ held)) (sym same) (c.in_err-finish.ensures.saves (still told))))

pub returns-then-last-limit-clause-leaves : goal.returns-then-last-limit-clause-leaves
returns-then-last-limit-clause-leaves g c w tells before start same still mid work =
    let s = start_of c.args.run.now in
    let held = g.S.Store.held c.args.store.now c.args.name.now in
    let mid_now = g.O.Sink.held c.args.out.now in
    let now = g.O.Sink.held c.write_round.new.out in
    let page = c.args.output.now.page in
    let new = c.write_round.new.page in
    let f = c.args.output.now.front in
    let h = c.write_round.new.front in
    let pause = c.args.run.now.pause in
    let limit = c.args.limit in
    let is = subst (λ (x : Start). IsLimit x.lines pause limit) (sym same) c.requires.limit in
    let due = subst HasWork (sym same) work in
    let last = c.min-last.result in
    let full = (rw c.if-not-branch.true at c.in_ok-write_round.ensures.full) w mid.under in
    let whole = subst (λ n. IsFull w now new n h) c.if-last-limit.true full in
    let after = g.S.Store.held c.end_full.new.store c.args.name.now in
    let finish = c.in_ok-finish.finish in
    written_full w tells start before held mid_now page f mid now new h limit whole c.in_ok-write_round.ensures.empty due pause is after (Ok finish) c.in_ok-finish.ensures.finish
    (λ told. subst (λ x. MatchBool limit.pauses (Saves {T = Finish} x new h held after (Ok finish)) (after ≡ held)) (sym same) (c.in_ok-finish.ensures.saves (still told)))

pub returns-in_err-save-clause-leaves : goal.returns-in_err-save-clause-leaves
returns-in_err-save-clause-leaves g c w tells before start same still mid work =
    let s = start_of c.args.run.now in
    let held = g.S.Store.held c.args.store.now c.args.name.now in
    let mid_now = g.O.Sink.held c.args.out.now in
    let now = g.O.Sink.held c.write_round.new.out in
    let page = c.args.output.now.page in
    let new = c.write_round.new.page in
    let f = c.args.output.now.front in
    let h = c.write_round.new.front in
    let pause = c.args.run.now.pause in
    let limit = c.args.limit in
    let is = subst (λ (x : Start). IsLimit x.lines pause limit) (sym same) c.requires.limit in
    let due = subst HasWork (sym same) work in
    let last = c.min-last.result in
    let full = (rw c.if-not-branch.true at c.in_ok-write_round.ensures.full) w mid.under in
    let after = g.S.Store.held c.save.new.store c.args.name.now in
    let count = full.count in
    let least = c.min-last.ensures in
    let other = c.if-last-limit.false in
    let low : new.count < limit.last = less_than new.count last limit.last (page.count + 65536) count least other in
    let p = err_from_is_err_and c.from_residual-in_err-save.result c.from_residual-in_err-save.ensures.1 in
    rw p.1 (after_unsaved w tells start before held mid_now page f mid now new h last full c.in_ok-write_round.ensures.empty due pause limit is low after p.0
    (λ told. subst (λ x. Saves {T = Unit} x new h held after (Err p.0)) (sym same) (c.in_err-save.ensures.saves (still told))))

pub returns-then-not-branch-clause-leaves : goal.returns-then-not-branch-clause-leaves
returns-then-not-branch-clause-leaves g c w tells before start same still mid work =
    let s = start_of c.args.run.now in
    let held = g.S.Store.held c.args.store.now c.args.name.now in
    let mid_now = g.O.Sink.held c.args.out.now in
    let now = g.O.Sink.held c.write_round.new.out in
    let page = c.args.output.now.page in
    let new = c.write_round.new.page in
    let f = c.args.output.now.front in
    let h = c.write_round.new.front in
    let pause = c.args.run.now.pause in
    let limit = c.args.limit in
    let is = subst (λ (x : Start). IsLimit x.lines pause limit) (sym same) c.requires.limit in
    let due = subst HasWork (sym same) work in
    let last = c.min-last.result in
    let full = (rw c.if-not-branch.true at c.in_ok-write_round.ensures.full) w mid.under in
    let after = g.S.Store.held c.save.new.store c.args.name.now in
    let count = full.count in
    let least = c.min-last.ensures in
    let other = c.if-last-limit.false in
    let low : new.count < limit.last = less_than new.count last limit.last (page.count + 65536) count least other in
    after_saved w tells start before held mid_now page f mid now new h last full c.in_ok-write_round.ensures.empty due pause limit is low after
    (λ told. subst (λ x. HoldsCheckAt x new h after) (sym same) (c.in_ok-save.ensures.saves (still told)))

pub returns-then-not-branch-clause-waiting : goal.returns-then-not-branch-clause-waiting
returns-then-not-branch-clause-waiting g c = c.in_ok-write_round.ensures.still

pub returns-then-not-branch-clause-room : goal.returns-then-not-branch-clause-room
returns-then-not-branch-clause-room g c =
    let some = c.requires.mid in
    let full = (rw c.if-not-branch.true at c.in_ok-write_round.ensures.full) some.way some.mid.under in
    let count = full.count in
    more_than c.args.output.now.page.count c.write_round.new.page.count c.min-last.result c.args.limit.last count c.min-last.ensures c.if-last-limit.false

pub returns-then-page-before-clause-leaves : goal.returns-then-page-before-clause-leaves
returns-then-page-before-clause-leaves g c w tells before start same still mid work =
    let s = start_of c.args.run.now in
    let held = g.S.Store.held c.args.store.now c.args.name.now in
    let mid_now = g.O.Sink.held c.args.out.now in
    let now = g.O.Sink.held c.write_round.new.out in
    let page = c.args.output.now.page in
    let new = c.write_round.new.page in
    let f = c.args.output.now.front in
    let h = c.write_round.new.front in
    let pause = c.args.run.now.pause in
    let limit = c.args.limit in
    let is = subst (λ (x : Start). IsLimit x.lines pause limit) (sym same) c.requires.limit in
    let due = subst HasWork (sym same) work in
    let goes = rw c.if-not-branch.false at c.in_ok-write_round.ensures.all in
    let opens = rw c.if-not-branch.false at c.in_ok-write_round.ensures.opened in
    written_head w tells start before held mid_now page f mid now new h (goes.way w mid.under) c.in_ok-write_round.ensures.empty opens due

pub returns-in_err-step-clause-leaves : goal.returns-in_err-step-clause-leaves
returns-in_err-step-clause-leaves g c w tells before start same still mid work =
    let s = start_of c.args.run.now in
    let held = g.S.Store.held c.args.store.now c.args.name.now in
    let mid_now = g.O.Sink.held c.args.out.now in
    let now = g.O.Sink.held c.write_round.new.out in
    let page = c.args.output.now.page in
    let new = c.write_round.new.page in
    let f = c.args.output.now.front in
    let h = c.write_round.new.front in
    let pause = c.args.run.now.pause in
    let limit = c.args.limit in
    let is = subst (λ (x : Start). IsLimit x.lines pause limit) (sym same) c.requires.limit in
    let due = subst HasWork (sym same) work in
    let after = g.S.Store.held c.keep_place.new.store c.args.name.now in
    let goes = rw c.if-not-branch.false at c.in_ok-write_round.ensures.all in
    let opens = rw c.if-not-branch.false at c.in_ok-write_round.ensures.opened in
    let head = subst (λ x. IsHead x w.most tells false start before held now new h) same
    (written_head w tells start before held mid_now page f mid now new h (goes.way w mid.under) c.in_ok-write_round.ensures.empty opens due) in
    let leaves = c.in_err-step.ensures.leaves w.most tells before start now still head in
    let p = err_from_is_err_and c.from_residual-in_err-step.result c.from_residual-in_err-step.ensures.1 in
    rw p.1 (other_fault w.start w.most pause start now tells before after c.in_err-step.field-0.0 p.0 (subst (λ x. HasRun x w.most pause start now tells before after (Err c.in_err-step.field-0.0)) (sym same) leaves))

pub returns-clause-leaves : goal.returns-clause-leaves
returns-clause-leaves g c w tells before start same still mid work =
    let s = start_of c.args.run.now in
    let held = g.S.Store.held c.args.store.now c.args.name.now in
    let mid_now = g.O.Sink.held c.args.out.now in
    let now = g.O.Sink.held c.write_round.new.out in
    let page = c.args.output.now.page in
    let new = c.write_round.new.page in
    let f = c.args.output.now.front in
    let h = c.write_round.new.front in
    let pause = c.args.run.now.pause in
    let limit = c.args.limit in
    let is = subst (λ (x : Start). IsLimit x.lines pause limit) (sym same) c.requires.limit in
    let due = subst HasWork (sym same) work in
    let after = g.S.Store.held c.keep_place.new.store c.args.name.now in
    let goes = rw c.if-not-branch.false at c.in_ok-write_round.ensures.all in
    let opens = rw c.if-not-branch.false at c.in_ok-write_round.ensures.opened in
    let head = subst (λ x. IsHead x w.most tells false start before held now new h) same
    (written_head w tells start before held mid_now page f mid now new h (goes.way w mid.under) c.in_ok-write_round.ensures.empty opens due) in
    let leaves = c.in_ok-step.ensures.leaves w.most tells before start now still head in
    subst (λ x. Leaves x w.most pause tells start before after now new h (Ok c.in_ok-step.step)) (sym same) leaves
