use Rattle.std.proofs.Common.{◌+◌, get_or, take, refl, sym, subst, arith}
use Rattle.std.proofs.lemmas.List.{take_more}
use Rattle.dd_front_jobs.specs.FirstVisit.{IsFirstVisitPrefix}
use Rattle.dd_front_jobs.proofs.FirstVisits.{first_more, first_less, first_front}
use Rattle.dd_front_jobs.proofs.numbering.is_first_visit.Goals as goal

pub returns-then-not-can_follow : goal.returns-then-not-can_follow
returns-then-not-can_follow c =
    let xs = c.args.prefix.now in
    let t = c.loop-place.place in (
      λ f. absurd (cc),
      λ whole.
          let front = first_front c.args.size xs (t + 1) whole (omega arith) in
          let parted = first_less c.args.size (take t xs) (get_or xs t 0) (subst (IsFirstVisitPrefix c.args.size) (take_more xs t 0 (omega arith)) front) in
          c.if-not-can_follow.ensures.1 parted.1,
    )

pub loop-place-preserved : goal.loop-place-preserved
loop-place-preserved c =
    let xs = c.args.prefix.now in
    let t = c.loop-place.place in
    subst (IsFirstVisitPrefix c.args.size) (sym (take_more xs t 0 (omega arith))) (first_more c.args.size (take t xs) (get_or xs t 0) c.loop-place.invariant (c.if-not-can_follow.ensures.0 refl))
