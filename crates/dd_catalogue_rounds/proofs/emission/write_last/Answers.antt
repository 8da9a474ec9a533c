use Rattle.dd_catalogue_rounds.proofs.WaySteps.{part_full, part_added, way_part, room_to_part}
use Rattle.dd_catalogue_rounds.proofs.emission.write_last.Goals as goal

pub part-requires-clause-room : goal.part-requires-clause-room
part-requires-clause-room g c = room_to_part (g.O.Sink.held c.args.out.now) c.args.page.now c.args.front.now c.args.count c.requires.any c.requires.room

pub returns-in_default-clause-part : goal.returns-in_default-clause-part
returns-in_default-clause-part g c w way = way_part w (g.O.Sink.held c.args.out.now) c.args.page.now c.args.front.now way

pub returns-in_err-add-clause-part : goal.returns-in_err-add-clause-part
returns-in_err-add-clause-part g c w way =
    part_added w (g.O.Sink.held c.args.out.now) (g.O.Sink.held c.add.new.out) c.args.page.now c.args.front.now c.part.new.self c.args.count c.in-Ok.list c.in-Ok.ensures.members way c.add.ensures.front

pub returns-clause-full : goal.returns-clause-full
returns-clause-full g c w way =
    part_full w (g.O.Sink.held c.args.out.now) (g.O.Sink.held c.add.new.out) c.args.page.now c.args.front.now c.part.new.self c.args.count c.in-Ok.list c.in-Ok.ensures.members way c.add.new.self
    c.in_ok-add.ensures.all c.in_ok-add.ensures.count

pub returns-clause-part : goal.returns-clause-part
returns-clause-part g c w way =
    part_added w (g.O.Sink.held c.args.out.now) (g.O.Sink.held c.add.new.out) c.args.page.now c.args.front.now c.part.new.self c.args.count c.in-Ok.list c.in-Ok.ensures.members way c.add.ensures.front
