use Rattle.dd_plain.proofs.WantedLemmas.{passes-wanted}
use Rattle.dd_plain.proofs.wanted.is_wanted.Goals as goal

pub returns-then-not-q : goal.returns-then-not-q
returns-then-not-q c = (
  (λ _. passes-wanted c.args.q.now c.args.connected.now (c.passes.ensures.0 c.if-passes.true) (λ asked. let no = c.if-not-q.true in absurd (cc))),
  (λ _. let no = c.if-not-q.true in cc),
)

pub returns-in_ok-is_minimal : goal.returns-in_ok-is_minimal
returns-in_ok-is_minimal c = (
  (λ yes. passes-wanted c.args.q.now c.args.connected.now (c.passes.ensures.0 c.if-passes.true) (λ _. c.in_ok-is_minimal.ensures.0 yes)),
  (λ wanted. c.in_ok-is_minimal.ensures.1 (wanted.minimal (let asked = c.if-not-q.false in cc))),
)
