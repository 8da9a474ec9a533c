use Rattle.std.proofs.Common.{◌+◌, Some, refl, sym, ap, ◌∙◌}
use Rattle.dd_suite_chains.proofs.PartLemmas.{no_part, own_part, other_number, other_part}
use Rattle.dd_suite_chains.proofs.parts.add_part.Goals.{in-Some-number, in_default-number, in_default-number-via-in-Some-number+else-number-run, in_default-number-via-in_default-number}
use Rattle.dd_suite_chains.proofs.parts.add_part.Goals as goal

pub returns-in_default-clause-part : goal.returns-in_default-clause-part
returns-in_default-clause-part c =
    let old = c.args.joined.now.items in
    no_part c.args.number c.args.text.now c.args.output.now old old (λ k holds e. rw c.in_default.is at c.in_ok-check.ensures k holds) refl

pub returns-clause-part : goal.returns-clause-part
returns-clause-part c =
    let old = c.args.joined.now.items in
    let new = c.extend_from_slice.new.self.items in
    let check = c.in-Some.check in
    let holds = rw c.in-Some.is at c.in_ok-check.ensures in
    let items = c.in_ok-extend_from_slice.ensures.items in
    let run = c.from-run.ensures in
    elim c.match-number.branch [
      | in-Some-number w ↦
          own_part c.args.number c.args.text.now c.args.output.now old new check c.match-number.part.now holds (w.in-Some-number.is ∙ ap Some (w.if-number-run.true ∙ run))
          (ap (λ b. b.now) w.part-is ∙ w.first_bytes-part.ensures) items
      | in_default-number w ↦
          other_part c.args.number c.args.text.now c.args.output.now old new check c.match-number.part.now holds
          (λ e. elim w.in_default-number.branch [
            | in_default-number-via-in-Some-number+else-number-run other ↦
                other_number c.args.number other.in-Some-number.number c.from-run.result other.in-Some-number.is other.if-number-run.false (e ∙ ap Some (sym run))
            | in_default-number-via-in_default-number none ↦ let is = none.in_default-number.is in (cc)
          ])
          (ap (λ b. b.now) w.part-is) items
    ]

pub returns-clause-next : goal.returns-clause-next
returns-clause-next c = (c.in-Some.check, rw c.in-Some.is at c.in_ok-check.ensures, ap (λ n. n + 1) c.from-run.ensures)
