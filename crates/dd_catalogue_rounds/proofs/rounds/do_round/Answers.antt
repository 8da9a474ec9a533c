use Rattle.std.proofs.Common.{length, take, refl, sym, subst, rules, ◌≡◌, ◌≤◌}
use Rattle.dd_model.specs.Jobs.{AreAscendingJobs, AreApart, IsJobOf}
use Rattle.dd_front.specs.Absorbed.{ComeFrom}
use Rattle.dd_front.specs.Machine.{jobs_of}
use Rattle.dd_front.specs.Rounds.{open_jobs}
use Rattle.dd_board.specs.Desk.{AreJobsOf}
use Rattle.dd_catalogue_rounds.proofs.RoundEntries.{taken_jobs, may_absorb, all_taken, ascending_taken, apart_taken, none_taken, few_taken}
use Rattle.dd_catalogue_rounds.proofs.rounds.do_round.Goals as goal

pub returns-then-is_empty-clause-round : goal.returns-then-is_empty-clause-round
returns-then-is_empty-clause-round g c =
    let none : length c.in_ok-jobs.jobs.items ≡ 0 = search rules in
    record { none = none_taken c.args.pace.round c.args.front.now.entries c.in_ok-jobs.jobs.items c.args.pace.some_jobs c.requires.ready.opens (subst (λ n. c.in_ok-jobs.jobs.items ≡ take n (open_jobs c.args.front.now.entries)) c.round-2.ensures.round c.in_ok-jobs.ensures) none; same = refl }

pub run_round-requires-clause-ascending : goal.run_round-requires-clause-ascending
run_round-requires-clause-ascending g c κs within =
    let es = c.args.front.now.entries in
    let taken = taken_jobs c.args.pace.round es c.in_ok-jobs.jobs.items c.requires.ready.opens (subst (λ n. c.in_ok-jobs.jobs.items ≡ take n (open_jobs c.args.front.now.entries)) c.round-2.ensures.round c.in_ok-jobs.ensures) in
    subst AreAscendingJobs (sym taken) (ascending_taken c.args.pace.round (jobs_of es) c.requires.ready.ascending)

pub run_round-requires-clause-apart : goal.run_round-requires-clause-apart
run_round-requires-clause-apart g c κs within =
    let es = c.args.front.now.entries in
    let taken = taken_jobs c.args.pace.round es c.in_ok-jobs.jobs.items c.requires.ready.opens (subst (λ n. c.in_ok-jobs.jobs.items ≡ take n (open_jobs c.args.front.now.entries)) c.round-2.ensures.round c.in_ok-jobs.ensures) in
    subst AreApart (sym taken) (apart_taken c.args.pace.round (jobs_of es) c.requires.ready.apart)

pub run_round-requires-clause-all : goal.run_round-requires-clause-all
run_round-requires-clause-all g c κs within =
    let es = c.args.front.now.entries in
    let q = g.F.Finder.request c.args.finder.now in
    let taken = taken_jobs c.args.pace.round es c.in_ok-jobs.jobs.items c.requires.ready.opens (subst (λ n. c.in_ok-jobs.jobs.items ≡ take n (open_jobs c.args.front.now.entries)) c.round-2.ensures.round c.in_ok-jobs.ensures) in
    subst (AreJobsOf q) (sym taken) (all_taken (IsJobOf q) c.args.pace.round (jobs_of es) c.requires.ready.jobs)

pub absorb-requires : goal.absorb-requires
absorb-requires g c =
    let jobs = c.in_ok-jobs.jobs.items in
    let come = subst (λ r. ComeFrom r jobs c.in_ok-entries.entries.items) (sym c.requires.ready.request) c.in_ok-entries.ensures.round in
    (length jobs, may_absorb c.args.front.now c.args.pace.round jobs c.in_ok-entries.entries.items c.requires.ready.opens (subst (λ n. c.in_ok-jobs.jobs.items ≡ take n (open_jobs c.args.front.now.entries)) c.round-2.ensures.round c.in_ok-jobs.ensures) come)

pub returns-clause-round : goal.returns-clause-round
returns-clause-round g c =
    let jobs = c.in_ok-jobs.jobs.items in
    let come = subst (λ r. ComeFrom r jobs c.in_ok-entries.entries.items) (sym c.requires.ready.request) c.in_ok-entries.ensures.round in
    let may = may_absorb c.args.front.now c.args.pace.round jobs c.in_ok-entries.entries.items c.requires.ready.opens (subst (λ n. c.in_ok-jobs.jobs.items ≡ take n (open_jobs c.args.front.now.entries)) c.round-2.ensures.round c.in_ok-jobs.ensures) come in
    let some : 1 ≤ length jobs = search rules in
    let few : length jobs ≤ c.args.pace.round = few_taken c.args.pace.round (open_jobs c.args.front.now.entries) jobs (subst (λ n. c.in_ok-jobs.jobs.items ≡ take n (open_jobs c.args.front.now.entries)) c.round-2.ensures.round c.in_ok-jobs.ensures) in
    record { count = length jobs; some = some; few = few; found = c.in_ok-entries.entries.items; may = may; absorbs = c.in_ok-absorb.ensures.absorbs (length jobs) may }
