use Rattle.std.proofs.Common.{◌≡◌, ◌≤◌, ◌++◌, length, vec_capacity}
use Rattle.std.specs.Vec.Iter.{into_iter_items, into_iter_len}
use Rattle.std.specs.List.{All}
use Rattle.dd_front.specs.Absorbed.{IsFound}
use Rattle.dd_front.specs.Machine.{jobs_of}
use Rattle.dd_steal.proofs.alone.do_alone.Given as goal

abbrev pub invariant-loop-job : goal.invariant-loop-job
invariant-loop-job g l = record {
  whole : l.yielded ++ into_iter_items l.job-iterator ≡ l.fn.jobs.items;
  left : into_iter_len l.job-iterator ≡ length (into_iter_items l.job-iterator);
  jobs : jobs_of l.entries.items ≡ l.yielded;
  request : g.F.Finder.request l.finder ≡ g.F.Finder.request l.fn.finder;
  room : length l.fn.jobs.items ≤ vec_capacity l.entries;
  found : All (IsFound (g.F.Finder.request l.fn.finder)) l.entries.items;
}
