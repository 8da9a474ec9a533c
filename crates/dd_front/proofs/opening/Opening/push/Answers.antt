use Rattle.std.proofs.Common.{◌∙◌, ◌++◌, ◌∷◌, [], refl, sym}
use Rattle.dd_front.proofs.Packing.{unpacked_push, packed_push}
use Rattle.dd_front.proofs.opening.Opening.push.Goals as goal

pub invariant_of-self-2 : goal.invariant_of-self-2
invariant_of-self-2 c =
    rw (c.push_reserved.ensures.items, c.in_ok-reserve.ensures.items, c.in_ok-extend_from_slice.ensures.items) (packed_push c.self.inside.packed.items c.self.inside.numbers.items c.as_slice-numbers.result.now _ c.self.invariant refl)

pub returns : goal.returns
returns c = rw (c.push_reserved.ensures.items, c.in_ok-reserve.ensures.items, c.in_ok-extend_from_slice.ensures.items, sym c.self.view_is, sym c.as_slice-numbers.ensures)
    (unpacked_push c.self.inside.packed.items c.self.inside.numbers.items c.as_slice-numbers.result.now _ c.self.invariant refl)
