use Rattle.std.proofs.Common.{inl, inr}
use Rattle.std.proofs.lemmas.Result.{IfOk-weaker}
use Rattle.dd_check.proofs.ranges.is_job_place.Goals as goal

pub returns : goal.returns
returns c =
    IfOk-weaker c.is_whole_place.result _ _ (λ answer h. (
      λ e. inr (h.0 e),
      λ p. elim p [ inl o ↦ absurd (let yes_is = c.is_opening.ensures.1 o in let no_is = c.if-is_opening.false in cc) | inr w ↦ h.1 w ],
    )) c.is_whole_place.ensures
