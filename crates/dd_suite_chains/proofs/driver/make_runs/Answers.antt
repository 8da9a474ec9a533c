use Rattle.std.proofs.Common.{◌+◌, map, Some, refl, sym, subst, arith}
use Rattle.std.specs.Rc.{rc_str_bytes}
use Rattle.dd_suite_chains.specs.declared.driven.Drive.{Drive}
use Rattle.dd_suite_chains.specs.Runs.{kept_of}
use Rattle.dd_suite_chains.proofs.Going.{Going, at_first, some_order, have_run}
use Rattle.dd_suite_chains.proofs.TurnLemmas.{on_err, turned_to_next, turned_to_last}
use Rattle.dd_suite_chains.proofs.driver.make_runs.Goals as goal

pub loop-k-init : goal.loop-k-init
loop-k-init g c =
    let words = map rc_str_bytes c.args.words.now in
    let kept = kept_of c.args.store.now in
    let sinks = c.args.sinks.now in
    subst (λ bytes. Going words c.args.name.now kept kept sinks sinks 0 words (Some 1) bytes) (sym c.new.ensures.items)
    (at_first words c.args.name.now kept sinks c.requires.some)

pub run_next-requires-clause-asked : goal.run_next-requires-clause-asked
run_next-requires-clause-asked g c κs within =
    let words = map rc_str_bytes c.args.words.now in
    let going = c.loop-k.invariant in
    some_order words c.args.name.now c.requires.asked going.calls (map rc_str_bytes c.loop-k.chain.words.now) going.said_is

pub returns-in_err-status-clause-stopped : goal.returns-in_err-status-clause-stopped
returns-in_err-status-clause-stopped g c =
    let words = map rc_str_bytes c.args.words.now in
    let ran = c.in_err-status.ensures.ran in
    on_err c.from_residual.result
    (have_run words c.args.name.now (kept_of c.args.store.now) (kept_of c.loop-k.store) (kept_of c.run_next.new.store) c.args.sinks.now c.loop-k.sinks c.run_next.new.sinks c.loop-k.k
    (map rc_str_bytes c.loop-k.chain.words.now) c.loop-k.chain.number c.loop-k.chain.joined.items ran.0 c.requires.asked c.loop-k.invariant ran.1)

pub returns-in-Last-clause-drives : goal.returns-in-Last-clause-drives
returns-in-Last-clause-drives g c =
    let words = map rc_str_bytes c.args.words.now in
    let drive : Drive = record { status = c.in-Last.status; runs = c.loop-k.k + 1; joined = c.run_next.new.self.joined } in
    turned_to_last words c.args.name.now (kept_of c.args.store.now) (kept_of c.loop-k.store) (kept_of c.run_next.new.store) c.args.sinks.now c.loop-k.sinks c.run_next.new.sinks c.loop-k.k
    (map rc_str_bytes c.loop-k.chain.words.now) c.loop-k.chain.number c.loop-k.chain.joined.items c.requires.asked c.loop-k.invariant drive c.run_next.new.self.joined.items c.in-Last.status
    (rw c.in-Last.is at c.in_ok-status.ensures.turn) refl refl refl

pub loop-k-preserved : goal.loop-k-preserved
loop-k-preserved g c =
    let words = map rc_str_bytes c.args.words.now in
    let kept = kept_of c.args.store.now in
    let after = kept_of c.run_next.new.store in
    let whole = c.run_next.new.self.joined.items in
    subst (λ said. Going words c.args.name.now kept after c.args.sinks.now c.run_next.new.sinks (c.loop-k.k + 1) said c.run_next.new.self.number whole) (sym c.requires.resume)
    (turned_to_next words c.args.name.now kept (kept_of c.loop-k.store) after c.args.sinks.now c.loop-k.sinks c.run_next.new.sinks c.loop-k.k (map rc_str_bytes c.loop-k.chain.words.now) c.loop-k.chain.number
    c.loop-k.chain.joined.items c.requires.asked c.loop-k.invariant whole c.run_next.new.self.number (rw c.in-Next.is at c.in_ok-status.ensures.turn))

pub unreachable-requires : goal.unreachable-requires
unreachable-requires g c =
    let going = c.loop-k.invariant in
    let less = going.less in
    let past = c.loop-k-test.false in
    omega (arith, less, past)
