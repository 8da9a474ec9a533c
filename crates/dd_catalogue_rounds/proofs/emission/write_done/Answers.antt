use Rattle.std.proofs.Common.{◌≡◌, ◌+◌, ◌-◌, sym, ◌∙◌, subst, arith, refl}
use Rattle.dd_catalogue_rounds.specs.Ways.{IsFull}
use Rattle.dd_catalogue_rounds.specs.Outs.{IsAny}
use Rattle.dd_catalogue_rounds.proofs.WaySteps.{emits_first, few_emitted, waiting_emitted, way_next, lines_on_way, none_on_way, way_part, way_added}
use Rattle.dd_catalogue_rounds.proofs.FirstLists.{first_there, room_for_first, fewer_emitted}
use Rattle.dd_catalogue_rounds.proofs.RoundEntries.{rest_open}
use Rattle.dd_catalogue_rounds.proofs.emission.write_done.Goals as goal

pub write_last-requires-clause-more : goal.write_last-requires-clause-more
write_last-requires-clause-more g c κs within = c.if-allowed.ensures.0 refl

pub write_last-requires-clause-any : goal.write_last-requires-clause-any
write_last-requires-clause-any g c κs within =
    let r = c.requires.any in
    record { any = r.any; way = c.loop-room.invariant.0.way r.any r.way }

pub next_list-requires-clause-first : goal.next_list-requires-clause-first
next_list-requires-clause-first g c =
    let short = first_there c.loop-room.front c.count_at_front.result (sym c.is_some.ensures ∙ c.loop-room-test.true) c.count_at_front.ensures in
    (short.list, short.first)

pub next_list-requires-clause-room : goal.next_list-requires-clause-room
next_list-requires-clause-room g c =
    let r = c.requires.any in
    let any : IsAny (g.O.Sink.held c.loop-room.out) c.loop-room.page c.loop-room.front = record { any = r.any; way = c.loop-room.invariant.0.way r.any r.way } in
    let short = first_there c.loop-room.front c.count_at_front.result (sym c.is_some.ensures ∙ c.loop-room-test.true) c.count_at_front.ensures in
    let lines = lines_on_way (g.O.Sink.held c.loop-room.out) c.loop-room.page c.loop-room.front any (omega (arith, c.loop-room.invariant.1, c.requires.last)) in
    room_for_first c.loop-room.front short (omega (arith, lines))

pub add-requires-clause-few : goal.add-requires-clause-few
add-requires-clause-few g c =
    let few = few_emitted c.loop-room.front c.next_list.new.front (c.args.last - c.loop-room.page.count) c.next_list.result (λ may. let wrong = c.if-allowed.ensures.1 may in cc) c.next_list.ensures in
    omega (arith, few, c.loop-room.invariant.1, c.requires.last)

pub returns-in_err-write_last-clause-part : goal.returns-in_err-write_last-clause-part
returns-in_err-write_last-clause-part g c w way = c.write_last.ensures.part w (c.loop-room.invariant.0.way w way)

pub returns-then-allowed-clause-part : goal.returns-then-allowed-clause-part
returns-then-allowed-clause-part g c w way = c.write_last.ensures.part w (c.loop-room.invariant.0.way w way)

pub returns-then-allowed-clause-full : goal.returns-then-allowed-clause-full
returns-then-allowed-clause-full g c w way =
    let low = c.loop-room.invariant.1 in
    let whole : c.loop-room.page.count + (c.args.last - c.loop-room.page.count) ≡ c.args.last = omega (arith, low) in
    subst (λ n. IsFull w (g.O.Sink.held c.write_last.new.out) c.write_last.new.page n c.write_last.new.front) whole (c.in_ok-write_last.ensures.full w (c.loop-room.invariant.0.way w way))

pub returns-clause-opened : goal.returns-clause-opened
returns-clause-opened g c =
    let r = c.requires.any in
    let way = c.loop-room.invariant.0.way r.any r.way in
    rest_open c.loop-room.front way.emitted.entries_are (none_on_way c.loop-room.front c.count_at_front.result (sym c.is_some.ensures ∙ c.loop-room-test.false) c.count_at_front.ensures)

pub returns-clause-part : goal.returns-clause-part
returns-clause-part g c w way = way_part w (g.O.Sink.held c.loop-room.out) c.loop-room.page c.loop-room.front (c.loop-room.invariant.0.way w way)

pub returns-in_err-add-clause-part : goal.returns-in_err-add-clause-part
returns-in_err-add-clause-part g c w way =
    let before = g.O.Sink.held c.loop-room.out in
    let now = g.O.Sink.held c.add.new.out in
    let list = c.next_list.result in
    way_added w before now c.loop-room.page c.loop-room.front c.next_list.new.front list (emits_first c.loop-room.front c.next_list.new.front list c.next_list.ensures) c.add.ensures.front (c.loop-room.invariant.0.way w way)

pub loop-room-preserved : goal.loop-room-preserved
loop-room-preserved g c =
    let before = g.O.Sink.held c.loop-room.out in
    let now = g.O.Sink.held c.add.new.out in
    let f = c.loop-room.front in
    let h = c.next_list.new.front in
    let list = c.next_list.result in
    let emits = c.next_list.ensures in
    let count = c.in_ok-add.ensures.count in
    let few = few_emitted f h (c.args.last - c.loop-room.page.count) list (λ may. let wrong = c.if-allowed.ensures.1 may in cc) emits in
    let ih = c.loop-room.invariant in (
      record {
        way = λ w way. way_next w before now c.loop-room.page c.add.new.self f h list (emits_first f h list emits) c.in_ok-add.ensures.all (ih.0.way w way);
        waiting = waiting_emitted f h list emits ∙ ih.0.waiting;
      },
      omega (arith, count, few, ih.1),
      omega (arith, c.add.ensures.cause.later, ih.2),
      λ s. let sure = ih.3 s in let next = c.add.ensures.sure sure.0 in (next.sure, next.count ∙ sure.1),
    )

pub loop-room-smaller : goal.loop-room-smaller
loop-room-smaller g c = fewer_emitted c.loop-room.front c.next_list.new.front c.next_list.result c.next_list.ensures
