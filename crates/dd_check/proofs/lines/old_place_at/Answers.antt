use Rattle.std.proofs.Common.{refl}
use Rattle.dd_check.specs.Faults.{range}
use Rattle.dd_check.specs.Told.{position_of}
use Rattle.dd_check.proofs.lines.old_place_at.Goals as goal

pub returns-then-not-is_in_old_range-clause-fault : goal.returns-then-not-is_in_old_range-clause-fault
returns-then-not-is_in_old_range-clause-fault c _ =
    range (position_of c.in_ok-place.place) refl c.in_ok-place.ensures.told (λ h. let holds = c.is_in_old_range.ensures.1 h in let fails = c.if-not-is_in_old_range.true in cc)
