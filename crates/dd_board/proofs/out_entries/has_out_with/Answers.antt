use Rattle.dd_front.specs.declared.entry.State.TheVariants.{Out}
use Rattle.dd_front.proofs.Placed.{stands_with, none_with}
use Rattle.dd_board.proofs.out_entries.has_out_with.Goals as goal

pub returns-in-Some : goal.returns-in-Some
returns-in-Some c =
    let parts = stands_with c.args.number c.args.front.now.entries c.in-Some.entry.now c.args.job.now Out c.in-Some.ensures in
    ((λ yes. parts.1 (c.is_out_with.ensures.0 yes)), (λ there. c.is_out_with.ensures.1 (parts.0 there)))

pub returns-in-None : goal.returns-in-None
returns-in-None c = ((λ wrong. absurd cc), (λ there. absurd (none_with c.args.number c.args.front.now.entries Out c.args.job.now c.in-None.ensures there)))
