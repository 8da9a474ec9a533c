use Rattle.std.proofs.Common.{◌≡◌, List, length, take, sym, subst, ap, arith}
use Rattle.dd_model.specs.Jobs.{AreAscendingJobs, AreApart, IsJobOf}
use Rattle.dd_front.specs.Absorbed.{ComeFrom}
use Rattle.dd_front.specs.Joining.{done_with}
use Rattle.dd_front.specs.Machine.{jobs_of}
use Rattle.dd_front.specs.declared.entry.Entry.{Entry}
use Rattle.dd_board.specs.Desk.{AreJobsOf}
use Rattle.dd_catalogue_rounds.proofs.RoundEntries.{jobs_first, may_absorb_first, all_taken, ascending_taken, apart_taken}
use Rattle.dd_catalogue_rounds.proofs.rounds.do_round_alone.Goals as goal

pub find_each-requires-clause-ascending : goal.find_each-requires-clause-ascending
find_each-requires-clause-ascending g c =
    let es = c.args.front.now.entries in
    jobs_first AreAscendingJobs c.min-count.result es c.entries-2.result.now c.entries-2.ensures (ascending_taken c.min-count.result (jobs_of es) c.requires.ready.ascending)

pub find_each-requires-clause-apart : goal.find_each-requires-clause-apart
find_each-requires-clause-apart g c =
    let es = c.args.front.now.entries in
    jobs_first AreApart c.min-count.result es c.entries-2.result.now c.entries-2.ensures (apart_taken c.min-count.result (jobs_of es) c.requires.ready.apart)

pub find_each-requires-clause-all : goal.find_each-requires-clause-all
find_each-requires-clause-all g c =
    let es = c.args.front.now.entries in
    let q = g.F.Finder.request c.args.finder.now in
    jobs_first (AreJobsOf q) c.min-count.result es c.entries-2.result.now c.entries-2.ensures (all_taken (IsJobOf q) c.min-count.result (jobs_of es) c.requires.ready.jobs)

pub finish_first-requires : goal.finish_first-requires
finish_first-requires g c =
    let q = g.F.Finder.request c.args.finder.now in
    let lists = c.in_ok-lists.lists.items in
    let count = c.min-count.result in
    let long = subst (λ (es : List Entry). length lists ≡ length (take count es)) c.entries-2.ensures c.in_ok-lists.ensures.long in
    let come = subst (λ (es : List Entry). ComeFrom q (jobs_of (take count es)) (done_with lists (take count es))) c.entries-2.ensures c.in_ok-lists.ensures.come in
    let all = ap length c.entries.ensures in
    (may_absorb_first c.args.front.now lists count c.requires.ready.opens (omega (arith, c.min-count.ensures, all)) long
    (subst (λ r. ComeFrom r (jobs_of (take count c.args.front.now.entries)) (done_with lists (take count c.args.front.now.entries))) (sym c.requires.ready.request) come)).1
