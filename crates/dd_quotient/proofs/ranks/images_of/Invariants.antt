use Rattle.dd_quotient.specs.Ranks.{AreValues, image_of}
use Rattle.dd_quotient.proofs.ranks.images_of.Given as goal

abbrev pub invariant-loop-leader : goal.invariant-loop-leader
invariant-loop-leader l = AreValues (image_of l.s l.fn.leaders l.ranks l.fn.i) l.leader-index l.images.items
