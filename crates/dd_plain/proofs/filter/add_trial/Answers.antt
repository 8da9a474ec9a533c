use Rattle.std.proofs.Common.{◌≡◌, ◌≤◌, IsSome, sym, subst}
use Rattle.dd_plain.specs.Trials.{tried}
use Rattle.dd_symbol.specs.Building.{IsAccepted}
use Rattle.dd_plain.proofs.AddsLemmas.{nothing_added}
use Rattle.dd_plain.proofs.AcceptedLemmas.{wanted-accepted}
use Rattle.dd_plain.proofs.filter.add_trial.Goals as goal

pub returns-in-None : goal.returns-in-None
returns-in-None c =
    nothing_added c.args.q.now (λ s. s ≡ tried c.args.trial) c.args.list.now
    (λ s e member.
    let few = subst (λ t. t.size ≤ 3) (sym e) c.requires in
    let taken = subst (IsAccepted 3) e (wanted-accepted c.args.q.now s member.wanted few) in
    let found = subst IsSome c.in-None.is (c.in_ok-symbol.ensures.some.1 taken) in
    (cc))
