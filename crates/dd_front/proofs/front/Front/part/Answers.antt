use Rattle.std.proofs.Common.{◌+◌, refl, ap, arith}
use Rattle.dd_front.proofs.Emitted.{part_room, parts_where}
use Rattle.dd_front.proofs.front.Front.part.Goals as goal

pub position_in-requires-clause-place : goal.position_in-requires-clause-place
position_in-requires-clause-place c = let low = part_room c.args.self.now c.in_ok-part.part c.args.count c.in_ok-part.ensures c.requires.allowed in omega arith

pub keep-requires : goal.keep-requires
keep-requires c = let low = part_room c.args.self.now c.in_ok-part.part c.args.count c.in_ok-part.ensures c.requires.allowed in omega arith

pub returns-clause-members : goal.returns-clause-members
returns-clause-members c = parts_where c.in_ok-part.part c.keep.new.self c.in_ok-next.next c.args.count (c.self.inside.lines + c.from.result) c.self.view_is c.in_ok-part.ensures c.requires.allowed c.in_ok-next.ensures
    c.keep.ensures (ap (λ n. c.self.inside.lines + n) c.from.ensures) refl
