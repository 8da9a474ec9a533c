use Rattle.std.proofs.Common.{◌≢◌, ◌-◌, take, drop, refl, sym, subst}
use Rattle.dd_front.specs.declared.entry.State.TheVariants.{Open}
use Rattle.dd_front.specs.Places.{with_state_at}
use Rattle.dd_front.specs.Rounds.{IsFirstOpen}
use Rattle.dd_front.specs.Shut.{IsShutTo}
use Rattle.dd_front.proofs.Shutting.{put_any, put_shut, put_next, none_found}
use Rattle.dd_front.proofs.lookups.shut_after.Goals as goal

pub returns-then-is_open : goal.returns-then-is_open
returns-then-is_open c =
    subst (λ n. IsShutTo n (with_state_at c.args.place c.args.state.now c.args.entries.now)) (sym c.min.ensures)
    (put_any c.args.shut c.args.place c.args.state.now c.args.entries.now c.requires.place c.requires.shut)

pub returns-then-is_none : goal.returns-then-is_none
returns-then-is_none c =
    let es = c.args.entries.now in
    let not : c.args.state.now ≢ Open = λ is. let wrong = c.if-is_open.ensures.1 is in cc in
    put_next c.args.shut c.args.place c.args.state.now es (take (c.args.place - c.args.shut) (drop c.args.shut es)) not c.if-place-shut.true c.requires.place c.requires.shut refl
    (none_found (λ e. IsFirstOpen (take (c.args.place - c.args.shut) (drop c.args.shut es)) e.now) c.first_open.result c.is_none.result (take (c.args.place - c.args.shut) (drop c.args.shut es))
    c.first_open.ensures c.is_none.ensures c.if-is_none.true)

pub returns : goal.returns
returns c =
    let not : c.args.state.now ≢ Open = λ is. let wrong = c.if-is_open.ensures.1 is in cc in
    put_shut c.args.shut c.args.place c.args.state.now c.args.entries.now not c.requires.shut
