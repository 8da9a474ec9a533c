use Rattle.std.proofs.Common.{◌≡◌, ◌≤◌, true, List}
use Rattle.dd_model.specs.declared.jobs.Job.{Job}
use Rattle.dd_front.specs.Rounds.{open_jobs}
use Rattle.dd_pages_and_checkpoints.specs.Rounds.{AreOpen}
use Rattle.dd_catalogue_rounds.specs.Ways.{IsUnderWay}
use Rattle.dd_pages_and_checkpoints.specs.Runs.{start_of}
use Rattle.dd_catalogue_rounds.proofs.Weights.{weighed}
use Rattle.dd_catalogue_rounds.proofs.PlainRuns.{plain_way}
use Rattle.dd_catalogue_rounds.proofs.catalogue.write_rounds.Given as goal

-- the lines of the run are under way, all entries wait, no line came after the last one, the count of faults did not fall, and
-- what was sure is; the finder is for the same request
abbrev pub invariant-loop-more : goal.invariant-loop-more
invariant-loop-more g l =
    ((jobs : List Job) × IsUnderWay (plain_way (start_of l.fn.run) jobs (g.O.Sink.held l.initial.out) l.front) (g.O.Sink.held l.out) l.page l.front)
    × AreOpen l.front.entries × (l.page.count ≤ l.limit.last) × (g.O.Sink.faults l.initial.out ≤ g.O.Sink.faults l.out)
    × (g.O.Sink.sure l.initial.out ≡ true → (g.O.Sink.sure l.out ≡ true) × (g.O.Sink.faults l.out ≡ g.O.Sink.faults l.initial.out))
    × (g.F.Finder.request l.finder ≡ g.F.Finder.request l.fn.finder)

abbrev pub decreases-loop-more : goal.decreases-loop-more
decreases-loop-more g l = weighed (open_jobs l.front.entries)
