use Rattle.std.proofs.Common.{◌≡◌, ◌≤◌, ◌-◌, ℕ, Bool, true, Option, List}
use Rattle.dd_front.specs.Rounds.{open_jobs}
use Rattle.dd_ports.specs.Texts.{SameOthers}
use Rattle.dd_check.specs.Clauses.{HasWork}
use Rattle.dd_pages_and_checkpoints.specs.Runs.{start_of}
use Rattle.dd_catalogue_rounds.specs.Ways.{Way}
use Rattle.dd_catalogue_rounds.specs.Kept.{IsMid}
use Rattle.dd_catalogue_rounds.specs.Steps.{GoesOnHere, IsSomeMid}
use Rattle.dd_catalogue_rounds.proofs.kept_round.write_kept.Given as goal

-- lines of the round were written, the name has the checkpoint of where the front stands, and as many jobs wait as before
abbrev pub invariant-loop-step : goal.invariant-loop-step
invariant-loop-step g l = record {
  goes :
      (w : Way) (tells : Bool) (before start : Option (List ℕ)) → w.start ≡ start_of l.fn.run → (tells ≡ true → g.S.Store.tells l.initial.store ≡ true)
      → IsMid w tells true start before (g.S.Store.held l.initial.store l.fn.name) (g.O.Sink.held l.initial.out) l.initial.output.page l.initial.output.front → HasWork (start_of l.fn.run)
      → GoesOnHere w tells start before (g.S.Store.held l.store l.fn.name) (g.O.Sink.held l.out) l.output.page l.output.front;
  some : IsSomeMid (start_of l.fn.run) true (g.O.Sink.held l.out) l.output.page l.output.front;
  waiting : open_jobs l.output.front.entries ≡ open_jobs l.initial.output.front.entries;
  low : l.output.page.count ≤ l.fn.limit.last;
  store_faults : g.S.Store.faults l.initial.store ≤ g.S.Store.faults l.store;
  store_sure : g.S.Store.sure l.initial.store ≡ true → (g.S.Store.sure l.store ≡ true) × (g.S.Store.faults l.store ≡ g.S.Store.faults l.initial.store);
  others : g.S.Store.tells l.initial.store ≡ true → (g.S.Store.tells l.store ≡ true) × SameOthers l.fn.name (g.S.Store.held l.initial.store) (g.S.Store.held l.store);
  sink_faults : g.O.Sink.faults l.initial.out ≤ g.O.Sink.faults l.out;
  sink_sure : g.O.Sink.sure l.initial.out ≡ true → (g.O.Sink.sure l.out ≡ true) × (g.O.Sink.faults l.out ≡ g.O.Sink.faults l.initial.out);
}

abbrev pub decreases-loop-step : goal.decreases-loop-step
decreases-loop-step g l = l.fn.limit.last - l.output.page.count
