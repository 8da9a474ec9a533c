use Rattle.std.proofs.Common.{◌≡◌, ◌+◌, ◌-◌, true, false, get_or, sym, ap, ◌∙◌, arith}
use Rattle.std.proofs.lemmas.List.{get_or_read}
use Rattle.dd_model.specs.Connected.{IsReached}
use Rattle.dd_symbol.specs.Walk.{IsMarked}
use Rattle.dd_symbol.proofs.DegreeLemmas.{at_more}
use Rattle.dd_symbol.proofs.involutions.Involutions.check_connected.Goals as goal

pub returns-then-not-index-clause-why : goal.returns-then-not-index-clause-why
returns-then-not-index-clause-why c =
    let seen = c.in_ok-seen.seen.items in
    let k = c.loop-k.k in
    let unmarked = get_or_read seen k c.index.result.now (omega (arith, c.in_ok-seen.ensures.length)) c.index.ensures false in
    let place : k + 1 - 1 ≡ k = omega arith in
    record {
      involutions = c.size-k-end.ensures.three.involutions;
      commuting = c.requires.commuting;
      first = record {
        chamber = (omega arith, omega arith);
        fails = λ r.
            let marked = (c.in_ok-seen.ensures.reached (k + 1) (omega arith, omega arith)).1 r in
            let here : get_or seen k false ≡ true = rw (← place) marked in
            cc c.if-not-index.true;
        before = λ e h below. c.loop-k.invariant e h (omega arith);
      };
    }

pub loop-k-preserved : goal.loop-k-preserved
loop-k-preserved c =
    let s = c.args.self.now in
    let seen = c.in_ok-seen.seen.items in
    let k = c.loop-k.k in
    let read = get_or_read seen k c.index.result.now (omega (arith, c.in_ok-seen.ensures.length)) c.index.ensures false in
    let place : k + 1 - 1 ≡ k = omega arith in
    let marked : IsMarked seen (k + 1) = ap (λ j. get_or seen j false) place ∙ sym read ∙ c.if-not-index.false in
    at_more s (IsReached s) k c.loop-k.invariant ((c.in_ok-seen.ensures.reached (k + 1) (omega arith, omega arith)).0 marked)

pub returns-clause-connected : goal.returns-clause-connected
returns-clause-connected c d h = c.loop-k.invariant d h (let high = h.1 in omega arith)
