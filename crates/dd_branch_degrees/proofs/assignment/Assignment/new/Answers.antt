use Rattle.std.proofs.Common.{arith}
use Rattle.dd_branch_degrees.proofs.Beginnings.{at_root_first, begun}
use Rattle.dd_branch_degrees.proofs.Chosen.{sound_places}
use Rattle.dd_branch_degrees.proofs.assignment.Assignment.new.Goals as goal

pub of-requires-clause-most : goal.of-requires-clause-most
of-requires-clause-most c j x low =
    let are = c.requires.places in
    let count = are.count in
    let s = sound_places c.args.q.now c.args.table c.args.places.items c.requires.table.symbol.table.involutions are j x (omega (arith, low, count)) in
    let few = s.sides in
    let up = s.most in
    omega (arith, few, up)

pub of-requires-clause-sides : goal.of-requires-clause-sides
of-requires-clause-sides c j x low =
    let are = c.requires.places in
    let count = are.count in
    let s = sound_places c.args.q.now c.args.table c.args.places.items c.requires.table.symbol.table.involutions are j x (omega (arith, low, count)) in
    s.sides

pub invariant_of-result : goal.invariant_of-result
invariant_of-result c =
    begun _ c.requires.table c.requires.limits c.requires.ties c.requires.automorphisms c.requires.places c.of.ensures c.new.ensures

pub returns-clause-root : goal.returns-clause-root
returns-clause-root c = at_root_first _ (invariant_of-result c) c.new.ensures
