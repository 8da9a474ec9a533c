use Rattle.std.proofs.Common.{◌≡◌, ◌++◌, [], Vec, Global, length, inl, inr, sym, ap, ◌∙◌, subst, arith}
use Rattle.std.proofs.lemmas.Nat.{mod_below}
use Rattle.std.proofs.lemmas.List.{append-nil, nil_from_length}
use Rattle.std.specs.Vec.Iter.{into_iter_items}
use Rattle.dd_model.specs.declared.jobs.Job.{Job}
use Rattle.dd_front_jobs.specs.Opening.{IsOpening}
use Rattle.dd_front_jobs.proofs.ShardJobs.{shard_whole, whole_on, place_on, picked_on}
use Rattle.dd_front_jobs.proofs.openings.shard_opening.Goals.{then-place-index+in_ok-push, else-place-index}
use Rattle.dd_front_jobs.proofs.openings.shard_opening.Goals as goal

pub loop-job-init : goal.loop-job-init
loop-job-init c =
    let gives = c.into_iter-job-iterator.ensures.into_iter_gives in
    record {
      whole = subst (IsOpening c.args.q.now) (sym gives.0) c.in_ok-job-items.ensures;
      left = omega (arith, ap length gives.0, gives.1, c.in_ok-job-items.job-items.ok.0);
      place = omega arith;
      picked = c.new-jobs.ensures.items;
    }

pub overflow_add-place : goal.overflow_add-place
overflow_add-place c =
    let is = c.loop-job.invariant.place in
    let few = c.args.shard.few in
    let some = c.args.shard.positive in
    let within = c.args.shard.within in
    let low = mod_below (length c.loop-job.yielded) c.args.shard.count (omega (arith, some, within)) in
    record { fits = omega (arith, is, low, few) }

pub overflow_add-place-in-loop-job : goal.overflow_add-place-in-loop-job
overflow_add-place-in-loop-job c =
    let is = c.loop-job.invariant.place in
    let few = c.args.shard.few in
    let some = c.args.shard.positive in
    let within = c.args.shard.within in
    let low = mod_below (length c.loop-job.yielded) c.args.shard.count (omega (arith, some, within)) in
    record { fits = omega (arith, is, low, few) }

pub loop-job-preserved : goal.loop-job-preserved
loop-job-preserved c =
    let i = c.loop-job.invariant in
    let rest = c.in-Some.ensures.steps in
    record {
      whole = whole_on c.args.q.now c.loop-job.yielded (into_iter_items c.loop-job.job-iterator) (into_iter_items c.next.new.self) c.in-Some.job rest.0 i.whole;
      left = let left = i.left in let size = ap length rest.0 in let next = rest.1 in omega (arith, left, size, next);
      place = place_on c.args.shard c.loop-job.place c.count.result c.loop-job.yielded c.in-Some.job c.count.ensures i.place;
      picked = picked_on c.args.shard c.loop-job.place c.index.result c.loop-job.yielded c.loop-job.jobs.items c.if-place-index.jobs.items c.in-Some.job c.index.ensures i.place i.picked
          (elim c.if-place-index.branch [
            | then-place-index+in_ok-push w ↦ inl (w.if-place-index.true, ap (λ (v : Vec Job Global). v.items) w.jobs-is ∙ w.in_ok-push.ensures.items)
            | else-place-index w ↦ inr (w.if-place-index.false, ap (λ (v : Vec Job Global). v.items) w.jobs-is)
          ]);
    }

pub loop-job-preserved-after-place-index : goal.loop-job-preserved-after-place-index
loop-job-preserved-after-place-index c =
    let i = c.loop-job.invariant in
    let rest = c.in-Some.ensures.steps in
    record {
      whole = whole_on c.args.q.now c.loop-job.yielded (into_iter_items c.loop-job.job-iterator) (into_iter_items c.next.new.self) c.in-Some.job rest.0 i.whole;
      left = let left = i.left in let size = ap length rest.0 in let next = rest.1 in omega (arith, left, size, next);
      place = place_on c.args.shard c.loop-job.place c.count.result c.loop-job.yielded c.in-Some.job c.count.ensures i.place;
      picked = picked_on c.args.shard c.loop-job.place c.index.result c.loop-job.yielded c.loop-job.jobs.items c.if-place-index.jobs.items c.in-Some.job c.index.ensures i.place i.picked
          (elim c.if-place-index.branch [
            | then-place-index+in_ok-push w ↦ inl (w.if-place-index.true, ap (λ (v : Vec Job Global). v.items) w.jobs-is ∙ w.in_ok-push.ensures.items)
            | else-place-index w ↦ inr (w.if-place-index.false, ap (λ (v : Vec Job Global). v.items) w.jobs-is)
          ]);
    }

pub loop-job-preserved-after-place-index-2 : goal.loop-job-preserved-after-place-index-2
loop-job-preserved-after-place-index-2 c =
    let i = c.loop-job.invariant in
    let rest = c.in-Some.ensures.steps in
    record {
      whole = whole_on c.args.q.now c.loop-job.yielded (into_iter_items c.loop-job.job-iterator) (into_iter_items c.next.new.self) c.in-Some.job rest.0 i.whole;
      left = let left = i.left in let size = ap length rest.0 in let next = rest.1 in omega (arith, left, size, next);
      place = place_on c.args.shard c.loop-job.place c.count.result c.loop-job.yielded c.in-Some.job c.count.ensures i.place;
      picked = picked_on c.args.shard c.loop-job.place c.index.result c.loop-job.yielded c.loop-job.jobs.items c.if-place-index.jobs.items c.in-Some.job c.index.ensures i.place i.picked
          (elim c.if-place-index.branch [
            | then-place-index+in_ok-push w ↦ inl (w.if-place-index.true, ap (λ (v : Vec Job Global). v.items) w.jobs-is ∙ w.in_ok-push.ensures.items)
            | else-place-index w ↦ inr (w.if-place-index.false, ap (λ (v : Vec Job Global). v.items) w.jobs-is)
          ]);
    }

pub returns : goal.returns
returns c =
    let i = c.loop-job.invariant in
    let left = i.left in
    let end = c.in-None.ensures.steps.0 in
    let none : into_iter_items c.loop-job.job-iterator ≡ [] = nil_from_length (into_iter_items c.loop-job.job-iterator) (omega (arith, left, end)) in
    let all : c.loop-job.yielded ++ into_iter_items c.loop-job.job-iterator ≡ c.loop-job.yielded = ap (λ js. c.loop-job.yielded ++ js) none ∙ append-nil c.loop-job.yielded in
    shard_whole c.args.q.now c.args.shard c.loop-job.yielded c.loop-job.jobs.items (subst (IsOpening c.args.q.now) all i.whole) i.picked
