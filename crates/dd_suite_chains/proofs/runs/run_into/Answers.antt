use Rattle.std.proofs.Common.{map, get_or, refl}
use Rattle.std.proofs.lemmas.List.{get_or_default}
use Rattle.std.specs.Rc.{rc_str_bytes}
use Rattle.dd_suite.specs.Chains.{ProgramCall}
use Rattle.dd_suite_chains.specs.Runs.{kept_of, before_run, after_run}
use Rattle.dd_suite_chains.proofs.RunMaking.{written_of}
use Rattle.dd_suite_chains.proofs.runs.run_into.Goals as goal

pub returns : goal.returns
returns g c =
    let words = map rc_str_bytes c.args.words.now in
    let old = get_or c.args.sinks.now c.args.k c.index-sinks-k.result in
    let before = before_run (kept_of c.args.store.now) old in
    let after = after_run (kept_of c.run.new.store) c.run.new.out in
    let asked = c.requires.asked in
    let call = c.run.ensures.call asked.0 asked.1 in
    let output = written_of asked.0 c.run.result before after call in
    let own : ProgramCall = record { words = words; order = asked.0; before = before; after = after; status = c.run.result; output = output.0 } in
    record {
      call = own;
      old = old;
      new = c.run.new.out;
      old_is = λ d. get_or_default c.args.sinks.now c.args.k d c.index-sinks-k.result c.requires.inside;
      news_are = refl;
      is_run = record {
        words_are = refl;
        before = refl;
        after = refl;
        is_call = record { asked = asked.1; tells = refl; known = refl; wrote = output.1; call = call };
        cause = record {
          refused = c.run.ensures.refused;
          paused = c.run.ensures.paused;
          cut_short = c.run.ensures.cut_short;
          store_fault = c.run.ensures.store_fault;
          sink_fault = c.run.ensures.sink_fault;
          later = c.run.ensures.store_count;
        };
      };
      status_is = refl;
    }
