use Rattle.std.proofs.Common.{refl}
use Rattle.dd_front.specs.declared.event.Event.TheVariants.{Take, Look}
use Rattle.dd_board.specs.Calls.{TakesFirst, TakesNone}
use Rattle.dd_steal.proofs.Settled.{finished, none_left}
use Rattle.dd_steal.proofs.Steps.{swept_one, swept_through}
use Rattle.dd_steal.proofs.last_sweep.do_next.Goals as goal

pub returns-in_default-clause-none : goal.returns-in_default-clause-none
returns-in_default-clause-none g c =
    let takes : TakesNone 1 c.args.desk.now c.take.new.self = rw c.in_default.is at c.in_ok-ticket.ensures.takes in
    (none_left 1 c.args.desk.now c.take.new.self c.requires.none takes).1

pub returns-in_default-clause-fewer : goal.returns-in_default-clause-fewer
returns-in_default-clause-fewer g c =
    let takes : TakesNone 1 c.args.desk.now c.take.new.self = rw c.in_default.is at c.in_ok-ticket.ensures.takes in
    (none_left 1 c.args.desk.now c.take.new.self c.requires.none takes).0

pub returns-in_default-clause-swept : goal.returns-in_default-clause-swept
returns-in_default-clause-swept g c =
    let takes : TakesNone 1 c.args.desk.now c.take.new.self = rw c.in_default.is at c.in_ok-ticket.ensures.takes in
    swept_one c.args.desk.now c.take.new.self (Look 1) takes.books refl

pub returns-in_err-list-clause-swept : goal.returns-in_err-list-clause-swept
returns-in_err-list-clause-swept g c =
    let takes : TakesFirst 1 c.in-Job.ticket.entry c.in-Job.ticket.job c.args.desk.now c.take.new.self = rw c.in-Job.is at c.in_ok-ticket.ensures.takes in
    swept_one c.args.desk.now c.take.new.self (Take 1 c.in-Job.ticket.entry) takes.books refl

pub returns-in_err-finish_as_first-clause-swept : goal.returns-in_err-finish_as_first-clause-swept
returns-in_err-finish_as_first-clause-swept g c =
    let takes : TakesFirst 1 c.in-Job.ticket.entry c.in-Job.ticket.job c.args.desk.now c.take.new.self = rw c.in-Job.is at c.in_ok-ticket.ensures.takes in
    swept_through c.args.desk.now.log c.take.new.self.log c.finish_as_first.new.desk.log (swept_one c.args.desk.now c.take.new.self (Take 1 c.in-Job.ticket.entry) takes.books refl) c.finish_as_first.ensures.swept

pub returns-clause-none : goal.returns-clause-none
returns-clause-none g c =
    let ticket = c.in-Job.ticket in
    let takes : TakesFirst 1 ticket.entry ticket.job c.args.desk.now c.take.new.self = rw c.in-Job.is at c.in_ok-ticket.ensures.takes in
    (finished 1 ticket.entry ticket.job c.in_ok-list.list c.args.desk.now c.take.new.self c.finish_as_first.new.desk c.requires.none takes c.in_ok-finish_as_first.ensures.books).none

pub returns-clause-fewer : goal.returns-clause-fewer
returns-clause-fewer g c =
    let ticket = c.in-Job.ticket in
    let takes : TakesFirst 1 ticket.entry ticket.job c.args.desk.now c.take.new.self = rw c.in-Job.is at c.in_ok-ticket.ensures.takes in
    (finished 1 ticket.entry ticket.job c.in_ok-list.list c.args.desk.now c.take.new.self c.finish_as_first.new.desk c.requires.none takes c.in_ok-finish_as_first.ensures.books).fewer_open

pub returns-clause-swept : goal.returns-clause-swept
returns-clause-swept g c =
    let takes : TakesFirst 1 c.in-Job.ticket.entry c.in-Job.ticket.job c.args.desk.now c.take.new.self = rw c.in-Job.is at c.in_ok-ticket.ensures.takes in
    swept_through c.args.desk.now.log c.take.new.self.log c.finish_as_first.new.desk.log (swept_one c.args.desk.now c.take.new.self (Take 1 c.in-Job.ticket.entry) takes.books refl) c.finish_as_first.ensures.swept
