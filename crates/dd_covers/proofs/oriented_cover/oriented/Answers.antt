use Rattle.std.proofs.Common.{subst}
use Rattle.dd_cells.specs.Orientation.{IsOriented}
use Rattle.dd_covers.specs.Shifts.{AreOnes}
use Rattle.dd_covers.proofs.KeptCovers.{two_are_sheets, oriented_by_two}
use Rattle.dd_covers.proofs.oriented_cover.oriented.Goals as goal

pub cover-requires : goal.cover-requires
cover-requires c =
    let s = c.args.s.now in
    let not_oriented : ¬ IsOriented s = λ yes. let t = c.in_ok-is_oriented.ensures.1 yes in let n = c.if-branch.false in cc in
    two_are_sheets s c.symbol.ensures.symbol c.symbol.ensures.connected c.requires not_oriented c.in_ok-ones.ones
    (subst (λ t. AreOnes t c.in_ok-ones.ones) c.symbol.ensures.same c.in_ok-ones.ensures)

pub returns : goal.returns
returns c =
    let s = c.args.s.now in
    let not_oriented : ¬ IsOriented s = λ yes. let t = c.in_ok-is_oriented.ensures.1 yes in let n = c.if-branch.false in cc in
    let ones = subst (λ t. AreOnes t c.in_ok-ones.ones) c.symbol.ensures.same c.in_ok-ones.ensures in
    let by = oriented_by_two s c.symbol.ensures.symbol c.symbol.ensures.connected c.requires not_oriented c.in_ok-ones.ones ones c.in_ok-cover.field-0 c.in_ok-cover.ensures in
    record { cover = by.cover; morphism = by.morphism; turn = by.turn; oriented = by.oriented; connected = by.connected }
