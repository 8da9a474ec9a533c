use Rattle.std.proofs.Common.{◌≡◌, ℕ, ◌+◌, List, [], ◌∷◌, ◌++◌, take, sym, ap, ◌∙◌, subst}
use Rattle.dd_name.specs.Rounds.{corners}
use Rattle.dd_name.specs.Arranged.{IsGreatestTurned}
use Rattle.dd_name.specs.Boundaries.{AreWritten}
use Rattle.dd_name.proofs.TellingLemmas.{written_more}
use Rattle.dd_name.proofs.boundaries.written.Goals as goal

pub loop-round-preserved : goal.loop-round-preserved
loop-round-preserved c =
    let rounds = c.args.rounds.now in
    let k = c.loop-round.round-index in
    let round = c.round-item.result in
    let turned = c.in_ok-greatest_turned.field-0 in
    let pushed : c.push.new.self.items ≡ c.loop-round.lists.items ++ turned ∷ [] = c.in_ok-push.ensures.items in
    subst (λ (ls : List (List ℕ)). AreWritten (take (k + 1) rounds) ls) (sym pushed)
    (written_more rounds k c.loop-round.lists.items round turned c.loop-round-test.true (sym c.round-item.is) c.loop-round.invariant
    (subst (λ (cs : List ℕ). IsGreatestTurned cs turned) (c.deref.ensures.value ∙ c.in_ok-corners.ensures ∙ ap corners c.as_slice.ensures) c.in_ok-greatest_turned.ensures))
