use Rattle.std.proofs.Common.{subst}
use Rattle.std.specs.List.{Contains}
use Rattle.dd_steal.proofs.Settled.{given_back}
use Rattle.dd_steal.proofs.last_sweep.give_back.Goals as goal

pub loop-entry-smaller : goal.loop-entry-smaller
loop-entry-smaller g c =
    let there = subst (λ es. Contains es c.in-Some.entry.now) c.entries.ensures.same c.in-Some.ensures.0 in
    given_back g.N.Naming.request g.N.Naming.jobs 1 c.loop-entry.desk c.back.new.self c.in-Some.entry.now c.entries.ensures.desk there c.in-Some.ensures.1 c.in_ok-back.ensures.books
