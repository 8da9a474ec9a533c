use Rattle.std.proofs.Common.{rules, ◌≡◌, ◌+◌, ◌++◌, ◌∷◌, [], length, refl, sym, ap, ◌∙◌, subst, arith}
use Rattle.std.proofs.lemmas.List.{append_assoc, append-nil, map_push, nil_from_length}
use Rattle.std.proofs.lemmas.List.Elements.{All-nil, All-push, recursion_from_All}
use Rattle.std.specs.List.{All}
use Rattle.std.specs.Vec.Iter.{into_iter_items}
use Rattle.dd_model.specs.Jobs.{AreMembersUnder}
use Rattle.dd_front.specs.declared.entry.Entry.{Entry}
use Rattle.dd_front.specs.declared.entry.State.TheVariants.{Done}
use Rattle.dd_front.specs.Absorbed.{IsFound}
use Rattle.dd_front.specs.Machine.{entry_of, jobs_of}
use Rattle.dd_steal.proofs.InTurn.{come_from_own}
use Rattle.dd_steal.proofs.alone.do_alone.Goals as goal

pub loop-job-init : goal.loop-job-init
loop-job-init g c =
    let none : c.in_ok-entries.entries.items ≡ [] = c.in_ok-entries.ensures.items in
    let gives = c.into_iter-job-iterator.ensures.into_iter_gives in
    record { whole = gives.0; left = omega (arith, ap length gives.0, gives.1, c.args.jobs.ok.0); jobs = ap jobs_of none; request = refl; room = search rules; found = subst (All (IsFound (g.F.Finder.request c.args.finder.now))) (sym none) (All-nil (IsFound (g.F.Finder.request c.args.finder.now))) }

pub loop-job-preserved : goal.loop-job-preserved
loop-job-preserved g c =
    let i = c.loop-job.invariant in
    let q = g.F.Finder.request c.args.finder.now in
    let job = c.in-Some.job in
    let entry = entry_of (c.len-in-loop-job.result + 1) job (Done c.in_ok-members.members) in
    let longer : c.push_reserved.new.self.items ≡ c.loop-job.entries.items ++ entry ∷ [] = c.push_reserved.ensures.items in
    let under = subst (λ r. AreMembersUnder r job c.in_ok-members.members) i.request c.in_ok-members.ensures.under in
    record {
      whole = append_assoc c.loop-job.yielded (job ∷ []) (into_iter_items c.next.new.self) ∙ ap (λ rest. c.loop-job.yielded ++ rest) (sym c.in-Some.ensures.steps.0) ∙ i.whole;
      left = omega (arith, i.left, ap length c.in-Some.ensures.steps.0, c.in-Some.ensures.steps.1);
      jobs = ap jobs_of longer ∙ map_push (λ (e : Entry). e.job) c.loop-job.entries.items entry ∙ ap (λ js. js ++ job ∷ []) i.jobs;
      request = c.members_under.ensures.request ∙ i.request;
      room = search rules;
      found = subst (All (IsFound q)) (sym longer) (All-push (IsFound q) c.loop-job.entries.items entry i.found
          (record { list = c.in_ok-members.members; done = search rules; under = under }));
    }

pub returns-clause-round : goal.returns-clause-round
returns-clause-round g c =
    let i = c.loop-job.invariant in
    let q = g.F.Finder.request c.args.finder.now in
    let none : into_iter_items c.loop-job.job-iterator ≡ [] = nil_from_length (into_iter_items c.loop-job.job-iterator) (omega (arith, i.left, c.in-None.ensures.steps.0)) in
    let all : c.loop-job.yielded ≡ c.args.jobs.items = sym (append-nil c.loop-job.yielded) ∙ ap (λ rest. c.loop-job.yielded ++ rest) (sym none) ∙ i.whole in
    come_from_own q c.args.jobs.items c.loop-job.entries.items c.requires.ascending c.requires.apart (i.jobs ∙ all)
    (recursion_from_All (IsFound q) c.loop-job.entries.items i.found)
