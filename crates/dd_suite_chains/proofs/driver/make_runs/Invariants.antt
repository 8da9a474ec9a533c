use Rattle.std.specs.Prelude.{map}
use Rattle.std.specs.Rc.{rc_str_bytes}
use Rattle.dd_suite_chains.specs.Runs.{kept_of}
use Rattle.dd_suite_chains.proofs.Going.{Going}
use Rattle.dd_suite_chains.proofs.driver.make_runs.Given as goal

abbrev pub invariant-loop-k : goal.invariant-loop-k
invariant-loop-k g l =
    Going (map rc_str_bytes l.words) l.name (kept_of l.initial.store) (kept_of l.store) l.initial.sinks l.sinks l.k (map rc_str_bytes l.chain.words.now) l.chain.number l.chain.joined.items
