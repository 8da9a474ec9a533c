use Rattle.std.proofs.Common.{◌-◌, false, sym, ◌∙◌, arith}
use Rattle.std.proofs.lemmas.List.{get_or_read}
use Rattle.dd_symbol.proofs.WalkLemmas.{marked}
use Rattle.dd_symbol.proofs.involutions.Involutions.mark.Goals as goal

pub returns-in_ok-push-clause-walk : goal.returns-in_ok-push-clause-walk
returns-in_ok-push-clause-walk c =
    rw c.in_ok-push.ensures.items
    (marked c.args.self.now c.args.seen.now.items c.args.queue.now.items c.args.chamber c.requires.walk c.requires.chamber c.requires.reached
    (sym (get_or_read c.args.seen.now.items (c.args.chamber - 1) c.index.result.now (let f = c.requires.walk.flags in omega arith) c.index.ensures false) ∙ c.if-not-index.true))
