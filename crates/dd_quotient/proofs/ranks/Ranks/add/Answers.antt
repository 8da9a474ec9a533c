use Rattle.std.proofs.Common.{◌≡◌, ◌+◌, ◌-◌, length, [], ◌∷◌, ◌++◌, sym, ap, ◌∙◌, subst, arith}
use Rattle.std.proofs.lemmas.List.{length-append, get_or_read}
use Rattle.dd_model.specs.Symbol.{item}
use Rattle.dd_quotient.specs.Ranks.{AreRanks}
use Rattle.dd_quotient.proofs.RankLemmas.{rank_of_leader, rank_of_other}
use Rattle.dd_quotient.proofs.ranks.Ranks.add.Goals as goal

pub returns-then-leader-chamber : goal.returns-then-leader-chamber
returns-then-leader-chamber c =
    let classes = c.args.classes.now in
    let leaders = c.args.self.now.leaders.items in
    let ranks = c.args.self.now.ranks.items in
    let d = c.args.chamber in
    let rank : c.len.result ≡ length leaders + 1 = c.len.ensures ∙ c.push.new.self.ok.0 ∙ ap length c.in_ok-push.ensures.items ∙ length-append leaders (d ∷ []) in
    subst (λ xs. AreRanks classes xs c.push-then-leader-chamber.new.self.items d) (sym c.in_ok-push.ensures.items)
    (subst (λ ys. AreRanks classes (leaders ++ d ∷ []) ys d) (sym (c.in_ok-push-2.ensures.items ∙ ap (λ x. ranks ++ x ∷ []) rank))
    (rank_of_leader classes leaders ranks d c.requires.low c.if-leader-chamber.true c.requires.before))

pub returns : goal.returns
returns c =
    let classes = c.args.classes.now in
    let leaders = c.args.self.now.leaders.items in
    let ranks = c.args.self.now.ranks.items in
    let d = c.args.chamber in
    let before = c.requires.before in
    let high = c.requires.led.high d c.requires.low c.requires.high in
    let low = c.requires.led.low d c.requires.low c.requires.high in
    let other = c.if-leader-chamber.false in
    let whole = before.whole in
    let read = get_or_read ranks (item classes d - 1) c.index-rank.result.now (omega arith) c.index-rank.ensures 0 in
    subst (λ ys. AreRanks classes leaders ys d) (sym (c.in_ok-push-3.ensures.items ∙ ap (λ x. ranks ++ x ∷ []) read))
    (rank_of_other classes leaders ranks d c.requires.led c.requires.low c.requires.high other before)
