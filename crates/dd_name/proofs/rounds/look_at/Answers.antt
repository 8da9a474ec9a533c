use Rattle.std.proofs.Common.{ℕ, ◌+◌, false, get_or, sym, ap, ◌∙◌, subst}
use Rattle.dd_model.specs.Symbol.{op}
use Rattle.dd_name.specs.Marks.{AreTold, AreMarks, IsNewRound}
use Rattle.dd_name.proofs.TourLemmas.{told_skip, told_more}
use Rattle.dd_name.proofs.rounds.look_at.Goals as goal
use Rattle.dd_name.proofs.rounds.look_at.Goals.{then-op-flag-via-then-op-flag, then-op-flag-via-else-op-flag+then-marks-place}

pub returns-then-op-flag : goal.returns-then-op-flag
returns-then-op-flag c =
    let flag = c.at-flag.result in
    let same = ap (λ t. op t flag.index flag.chamber) c.symbol-symbol.ensures.same in
    told_skip c.args.s.now c.args.place c.args.marks.now c.args.rounds.now.items flag c.requires.told c.at-flag.ensures
    (λ is. elim c.then-op-flag.branch [
      | then-op-flag-via-then-op-flag w ↦ absurd (w.if-op-flag.true (c.op.ensures.image ∙ same ∙ is.fixed))
      | then-op-flag-via-else-op-flag+then-marks-place w ↦ ap (λ (k : ℕ). get_or c.args.marks.now k false) c.at-flag.ensures ∙ w.if-marks-place.true
    ])

pub returns : goal.returns
returns c =
    let same = c.symbol-symbol.ensures.same in
    let start = c.at-flag.result in
    let done = c.in_ok-round.ensures in
    subst (AreTold c.args.s.now (c.args.place + 1) c.round_from.new.marks) (sym c.in_ok-push.ensures.items)
    (told_more c.args.s.now c.args.place c.args.marks.now c.round_from.new.marks c.args.rounds.now.items start c.in_ok-round.round
    c.requires.told c.at-flag.ensures (subst (λ t. AreMarks t c.round_from.new.marks) same done.marks)
    (subst (λ t. IsNewRound t start c.args.marks.now c.round_from.new.marks c.in_ok-round.round) same done.round))
