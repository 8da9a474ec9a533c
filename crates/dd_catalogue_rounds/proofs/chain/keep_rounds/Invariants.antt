use Rattle.std.proofs.Common.{◌≡◌, ◌≤◌, true}
use Rattle.dd_front.specs.Rounds.{open_jobs}
use Rattle.dd_ports.specs.Texts.{SameOthers}
use Rattle.dd_pages_and_checkpoints.specs.Runs.{start_of}
use Rattle.dd_catalogue_rounds.specs.Kept.{IsHead}
use Rattle.dd_catalogue_rounds.proofs.Weights.{weighed}
use Rattle.dd_catalogue_rounds.proofs.chain.keep_rounds.Given as goal

-- the run is between two rounds, no line came after the last one, the counts of faults did not fall, what was sure is, no other
-- name changed, and the finder is for the same request
abbrev pub invariant-loop-more : goal.invariant-loop-more
invariant-loop-more g l = record {
  head : IsHead (start_of l.fn.run) l.fn.run.pace.round (g.S.Store.tells l.fn.store) l.output.is_kept (g.O.Sink.held l.fn.out) (g.S.Store.held l.fn.store l.fn.name) (g.S.Store.held l.store l.fn.name) (g.O.Sink.held l.out) l.output.page l.output.front;
  low : l.output.page.count ≤ l.limit.last;
  store_faults : g.S.Store.faults l.fn.store ≤ g.S.Store.faults l.store;
  store_sure : g.S.Store.sure l.fn.store ≡ true → (g.S.Store.sure l.store ≡ true) × (g.S.Store.faults l.store ≡ g.S.Store.faults l.fn.store);
  others : g.S.Store.tells l.fn.store ≡ true → (g.S.Store.tells l.store ≡ true) × SameOthers l.fn.name (g.S.Store.held l.fn.store) (g.S.Store.held l.store);
  sink_faults : g.O.Sink.faults l.fn.out ≤ g.O.Sink.faults l.out;
  sink_sure : g.O.Sink.sure l.fn.out ≡ true → (g.O.Sink.sure l.out ≡ true) × (g.O.Sink.faults l.out ≡ g.O.Sink.faults l.fn.out);
  request : g.F.Finder.request l.finder ≡ g.F.Finder.request l.fn.finder;
}

abbrev pub decreases-loop-more : goal.decreases-loop-more
decreases-loop-more g l = weighed (open_jobs l.output.front.entries)
