use Rattle.dd_catalogue_rounds.proofs.WaySteps.{goes_on_flushed, room_flushed, full_up_flushed, part_flushed}
use Rattle.dd_catalogue_rounds.proofs.kept_round.write_and_flush.Goals as goal

pub returns-clause-all : goal.returns-clause-all
returns-clause-all g c =
    goes_on_flushed (g.O.Sink.held c.args.out.now) (g.O.Sink.held c.write_done.new.out) (g.O.Sink.held c.flush.new.out) c.args.page.now c.write_done.new.page c.flush.new.self c.args.last c.args.front.now c.write_done.new.front
    c.in_ok-flush.ensures.kept c.flush.ensures.count c.in_ok-all.all c.in_ok-all.ensures.all

pub returns-clause-room : goal.returns-clause-room
returns-clause-room g c =
    room_flushed (g.O.Sink.held c.args.out.now) (g.O.Sink.held c.write_done.new.out) (g.O.Sink.held c.flush.new.out) c.args.page.now c.write_done.new.page c.flush.new.self c.args.last c.args.front.now c.write_done.new.front
    c.in_ok-flush.ensures.kept c.flush.ensures.count c.in_ok-all.all c.in_ok-all.ensures.room

pub returns-clause-full : goal.returns-clause-full
returns-clause-full g c =
    full_up_flushed (g.O.Sink.held c.args.out.now) (g.O.Sink.held c.write_done.new.out) (g.O.Sink.held c.flush.new.out) c.args.page.now c.write_done.new.page c.flush.new.self c.args.last c.args.front.now c.write_done.new.front
    c.in_ok-flush.ensures.kept c.flush.ensures.count c.in_ok-all.all c.in_ok-all.ensures.full

pub returns-clause-part : goal.returns-clause-part
returns-clause-part g c =
    part_flushed (g.O.Sink.held c.args.out.now) (g.O.Sink.held c.write_done.new.out) (g.O.Sink.held c.flush.new.out) c.args.page.now c.write_done.new.page c.args.last c.args.front.now c.write_done.new.front
    c.in_ok-all.all c.in_ok-all.ensures.all c.in_ok-all.ensures.full c.flush.ensures.front

pub returns-in_err-flush-clause-part : goal.returns-in_err-flush-clause-part
returns-in_err-flush-clause-part g c =
    part_flushed (g.O.Sink.held c.args.out.now) (g.O.Sink.held c.write_done.new.out) (g.O.Sink.held c.flush.new.out) c.args.page.now c.write_done.new.page c.args.last c.args.front.now c.write_done.new.front
    c.in_ok-all.all c.in_ok-all.ensures.all c.in_ok-all.ensures.full c.flush.ensures.front
