use Rattle.std.proofs.Common.{suc, List, [], refl, sym, ap, ◌∙◌, subst, arith, add-zero}
use Rattle.dd_model.specs.Symbol.{Symbol}
use Rattle.dd_front.specs.Machine.{Machine}
use Rattle.dd_front.specs.Step.{Emits}
use Rattle.dd_pages_and_checkpoints.specs.Rounds.{AreDoneThenOpen}
use Rattle.dd_catalogue_rounds.proofs.FirstLists.{first_there, room_for_first, fewer_emitted}
use Rattle.dd_catalogue_rounds.proofs.RoundEntries.{rest_open}
use Rattle.dd_catalogue_rounds.proofs.WaySteps.{none_on_way, first_done}
use Rattle.dd_catalogue_rounds.proofs.Members.{nothing_emitted, part_nothing}
use Rattle.dd_catalogue_rounds.proofs.emission.reach_member.Goals as goal

pub loop-front-init : goal.loop-front-init
loop-front-init c = ((0, refl), refl, c.requires.done)

pub part-requires-clause-allowed : goal.part-requires-clause-allowed
part-requires-clause-allowed c = c.if-allowed.ensures.0 refl

pub part-requires-clause-room : goal.part-requires-clause-room
part-requires-clause-room c = let same = c.loop-front.invariant.1 in let low = c.requires.lines in omega (arith, same, low)

pub next_list-requires-clause-first : goal.next_list-requires-clause-first
next_list-requires-clause-first c =
    let short = first_there c.loop-front.front c.count_at_front.result (sym c.is_some.ensures ∙ c.loop-front-test.true) c.count_at_front.ensures in
    (short.list, short.first)

pub next_list-requires-clause-room : goal.next_list-requires-clause-room
next_list-requires-clause-room c =
    let short = first_there c.loop-front.front c.count_at_front.result (sym c.is_some.ensures ∙ c.loop-front-test.true) c.count_at_front.ensures in
    let same = c.loop-front.invariant.1 in
    let low = c.requires.lines in
    room_for_first c.loop-front.front short (omega (arith, same, low))

pub returns-then-allowed : goal.returns-then-allowed
returns-then-allowed c =
    record {
      reached = record {
        count = c.loop-front.invariant.0.0;
        ready = c.loop-front.front;
        emptied = c.loop-front.invariant.0.1;
        part = part_nothing c.loop-front.front c.part.new.self c.in_ok-part.field-0 c.in_ok-part.ensures.members;
      };
    }

pub loop-front-smaller : goal.loop-front-smaller
loop-front-smaller c = fewer_emitted c.loop-front.front c.next_list.new.front c.next_list.result c.next_list.ensures

pub loop-front-preserved : goal.loop-front-preserved
loop-front-preserved c =
    let f = c.loop-front.front in
    let g = c.next_list.new.front in
    let none = nothing_emitted f g c.next_list.result (λ may. let wrong = c.if-allowed.ensures.1 may in cc) c.next_list.ensures in
    let emits : Emits f g [] = subst (λ (ss : List Symbol). Emits f g ss) none c.next_list.ensures in
    let i = c.loop-front.invariant in (
      (suc i.0.0, (f, i.0.1, emits)),
      ap (λ (m : Machine). m.lines) emits.after ∙ add-zero f.lines ∙ i.1,
      subst AreDoneThenOpen (sym (ap (λ (m : Machine). m.entries) emits.after)) (first_done f.entries emits.first.rest emits.first.number emits.first.job emits.list emits.first.entries i.2),
    )

pub returns : goal.returns
returns c =
    record {
      reached = record {
        count = c.loop-front.invariant.0.0;
        emptied = c.loop-front.invariant.0.1;
        opens = rest_open c.loop-front.front c.loop-front.invariant.2 (none_on_way c.loop-front.front c.count_at_front.result (sym c.is_some.ensures ∙ c.loop-front-test.false) c.count_at_front.ensures);
      };
    }
