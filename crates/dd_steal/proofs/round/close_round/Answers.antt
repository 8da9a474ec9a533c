use Rattle.std.proofs.Common.{sym, subst}
use Rattle.dd_front.specs.Absorbed.{ComeFrom}
use Rattle.dd_steal.proofs.Whole.{desk_done}
use Rattle.dd_steal.proofs.round.close_round.Goals as goal

pub returns-clause-round : goal.returns-clause-round
returns-clause-round g c =
    let desk = c.sweep.new.desk in
    subst (ComeFrom g.N.Naming.request g.N.Naming.jobs) (sym c.into_entries.ensures.same)
    (desk_done g.N.Naming.request g.N.Naming.jobs desk.machine desk.log c.into_entries.ensures.desk c.in_ok-sweep.ensures.done)
