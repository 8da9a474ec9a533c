use Rattle.std.proofs.Common.{rules, ◌≡◌, ◌+◌, ◌++◌, ◌∷◌, [], length, take, sym, ap, ◌∙◌, subst, arith}
use Rattle.std.proofs.lemmas.List.{length_push, take_all}
use Rattle.std.specs.List.{AllByRecursion}
use Rattle.dd_model.specs.Jobs.{AreMembersUnder, IsJobOf}
use Rattle.dd_front.specs.Absorbed.{IsFound}
use Rattle.dd_front.specs.Joining.{done_with}
use Rattle.dd_front.specs.Machine.{jobs_of}
use Rattle.dd_front.proofs.Rounding.{jobs_with}
use Rattle.dd_steal.proofs.InTurn.{come_from_own, found_push, job_at}
use Rattle.dd_steal.proofs.alone.find_each.Goals as goal

pub members_under-requires-clause-job : goal.members_under-requires-clause-job
members_under-requires-clause-job g c =
    let i = c.loop-entry.invariant in
    let es = c.args.entries.now in
    subst (λ r. IsJobOf r c.entry-item.result.job) (sym i.request)
    (job_at (IsJobOf (g.F.Finder.request c.args.finder.now)) es c.loop-entry.entry-index c.entry-item.result c.loop-entry-test.true c.entry-item.is c.requires.all)

pub loop-entry-preserved : goal.loop-entry-preserved
loop-entry-preserved g c =
    let i = c.loop-entry.invariant in
    let q = g.F.Finder.request c.args.finder.now in
    let es = c.args.entries.now in
    let at = c.loop-entry.entry-index in
    let e = c.entry-item.result in
    let low = c.loop-entry-test.true in
    let list = c.in_ok-members_under.field-0 in
    let lists = c.loop-entry.lists.items in
    let longer : c.push_reserved.new.self.items ≡ lists ++ list ∷ [] = c.push_reserved.ensures.items in
    let under = subst (λ r. AreMembersUnder r e.job list) i.request c.in_ok-members_under.ensures.under in
    record {
      long = ap length longer ∙ length_push lists list ∙ omega (arith, i.long);
      room = search rules;
      request = c.members_under.ensures.request ∙ i.request;
      found = subst (λ ls. AllByRecursion (IsFound q) (done_with ls (take (at + 1) es))) (sym longer)
          (found_push q lists list es at e low c.entry-item.is i.long i.found under);
    }

pub returns-clause-long : goal.returns-clause-long
returns-clause-long g c = omega (arith, c.loop-entry.invariant.long)

pub returns-clause-come : goal.returns-clause-come
returns-clause-come g c =
    let i = c.loop-entry.invariant in
    let q = g.F.Finder.request c.args.finder.now in
    let es = c.args.entries.now in
    let all : take c.loop-entry.entry-index es ≡ es = take_all c.loop-entry.entry-index es (omega arith) in
    come_from_own q (jobs_of es) (done_with c.loop-entry.lists.items es) c.requires.ascending c.requires.apart (jobs_with c.loop-entry.lists.items es)
    (subst (λ ds. AllByRecursion (IsFound q) (done_with c.loop-entry.lists.items ds)) all i.found)
