use Rattle.std.proofs.Common.{◌≡◌, take}
use Rattle.dd_name.specs.Rounds.{corners}
use Rattle.dd_name.proofs.boundaries.corners.Given as goal

abbrev pub invariant-loop-joint : goal.invariant-loop-joint
invariant-loop-joint l = l.corners.items ≡ corners (take l.joint-index l.joints)
