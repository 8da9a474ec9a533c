use Rattle.std.proofs.Common.{[], map, refl}
use Rattle.std.proofs.lemmas.Result.{IfOk-weaker}
use Rattle.std.specs.Rc.{rc_str_bytes}
use Rattle.dd_suite_chains.specs.Drives.{Drives}
use Rattle.dd_suite_chains.specs.Runs.{kept_of}
use Rattle.dd_suite_chains.proofs.TurnLemmas.{on_err}
use Rattle.dd_suite_chains.proofs.Whole.{front_of, whole_of, store_of, sink_of, paused_of, many_of, refused_of, usage_of}
use Rattle.dd_suite_chains.proofs.driver.drive.Goals as goal

pub returns-clause-front : goal.returns-clause-front
returns-clause-front g c =
    IfOk-weaker c.make_runs.result
    (Drives (map rc_str_bytes c.args.words.now) c.args.name.now (kept_of c.args.store.now) (kept_of c.make_runs.new.store) c.args.sinks.now c.make_runs.new.sinks)
    _ (λ d is. front_of (map rc_str_bytes c.args.words.now) c.args.name.now (kept_of c.args.store.now) (kept_of c.make_runs.new.store) c.args.sinks.now c.make_runs.new.sinks d c.requires.asked c.requires.empty is)
    c.make_runs.ensures.drives

pub returns-clause-whole : goal.returns-clause-whole
returns-clause-whole g c =
    IfOk-weaker c.make_runs.result
    (Drives (map rc_str_bytes c.args.words.now) c.args.name.now (kept_of c.args.store.now) (kept_of c.make_runs.new.store) c.args.sinks.now c.make_runs.new.sinks)
    _ (λ d is. whole_of (map rc_str_bytes c.args.words.now) c.args.name.now (kept_of c.args.store.now) (kept_of c.make_runs.new.store) c.args.sinks.now c.make_runs.new.sinks d c.requires.asked c.requires.empty is)
    c.make_runs.ensures.drives

pub returns-clause-store_fault : goal.returns-clause-store_fault
returns-clause-store_fault g c =
    IfOk-weaker c.make_runs.result
    (Drives (map rc_str_bytes c.args.words.now) c.args.name.now (kept_of c.args.store.now) (kept_of c.make_runs.new.store) c.args.sinks.now c.make_runs.new.sinks)
    _ (λ d is. store_of (map rc_str_bytes c.args.words.now) c.args.name.now (kept_of c.args.store.now) (kept_of c.make_runs.new.store) c.args.sinks.now c.make_runs.new.sinks d c.requires.asked c.requires.empty is)
    c.make_runs.ensures.drives

pub returns-clause-sink_fault : goal.returns-clause-sink_fault
returns-clause-sink_fault g c =
    IfOk-weaker c.make_runs.result
    (Drives (map rc_str_bytes c.args.words.now) c.args.name.now (kept_of c.args.store.now) (kept_of c.make_runs.new.store) c.args.sinks.now c.make_runs.new.sinks)
    _ (λ d is. sink_of (map rc_str_bytes c.args.words.now) c.args.name.now (kept_of c.args.store.now) (kept_of c.make_runs.new.store) c.args.sinks.now c.make_runs.new.sinks d c.requires.asked c.requires.empty is)
    c.make_runs.ensures.drives

pub returns-clause-paused : goal.returns-clause-paused
returns-clause-paused g c =
    IfOk-weaker c.make_runs.result
    (Drives (map rc_str_bytes c.args.words.now) c.args.name.now (kept_of c.args.store.now) (kept_of c.make_runs.new.store) c.args.sinks.now c.make_runs.new.sinks)
    _ (λ d is. paused_of (map rc_str_bytes c.args.words.now) c.args.name.now (kept_of c.args.store.now) (kept_of c.make_runs.new.store) c.args.sinks.now c.make_runs.new.sinks d c.requires.asked c.requires.empty is)
    c.make_runs.ensures.drives

pub returns-clause-cut_short : goal.returns-clause-cut_short
returns-clause-cut_short g c =
    IfOk-weaker c.make_runs.result
    (Drives (map rc_str_bytes c.args.words.now) c.args.name.now (kept_of c.args.store.now) (kept_of c.make_runs.new.store) c.args.sinks.now c.make_runs.new.sinks)
    _ (λ d is. many_of (map rc_str_bytes c.args.words.now) c.args.name.now (kept_of c.args.store.now) (kept_of c.make_runs.new.store) c.args.sinks.now c.make_runs.new.sinks d c.requires.asked c.requires.empty is)
    c.make_runs.ensures.drives

pub returns-clause-refused : goal.returns-clause-refused
returns-clause-refused g c =
    IfOk-weaker c.make_runs.result
    (Drives (map rc_str_bytes c.args.words.now) c.args.name.now (kept_of c.args.store.now) (kept_of c.make_runs.new.store) c.args.sinks.now c.make_runs.new.sinks)
    _ (λ d is. refused_of (map rc_str_bytes c.args.words.now) c.args.name.now (kept_of c.args.store.now) (kept_of c.make_runs.new.store) c.args.sinks.now c.make_runs.new.sinks d c.requires.asked c.requires.empty is)
    c.make_runs.ensures.drives

pub returns-clause-usage : goal.returns-clause-usage
returns-clause-usage g c =
    IfOk-weaker c.make_runs.result
    (Drives (map rc_str_bytes c.args.words.now) c.args.name.now (kept_of c.args.store.now) (kept_of c.make_runs.new.store) c.args.sinks.now c.make_runs.new.sinks)
    _ (λ d is. usage_of (map rc_str_bytes c.args.words.now) c.args.name.now (kept_of c.args.store.now) (kept_of c.make_runs.new.store) c.args.sinks.now c.make_runs.new.sinks d c.requires.asked c.requires.empty is)
    c.make_runs.ensures.drives

pub returns-in_err-resume-clause-stopped : goal.returns-in_err-resume-clause-stopped
returns-in_err-resume-clause-stopped g c = on_err c.from_residual.result (record { calls = []; runs = (refl, refl) })
