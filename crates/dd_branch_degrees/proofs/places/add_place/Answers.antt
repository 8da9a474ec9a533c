use Rattle.std.proofs.Common.{ℕ, ◌+◌, ◌-◌, ◌<◌, List, length, slice_index_or, sym, ap, subst, arith}
use Rattle.dd_branch_degrees.specs.Budget.{no_place}
use Rattle.dd_branch_degrees.specs.Place.{IsPlaceOf}
use Rattle.dd_branch_degrees.specs.declared.places.DegreeSlot.{DegreeSlot}
use Rattle.dd_branch_degrees.proofs.PlacesInCell.{place_beside, smaller_chamber, told_before}
use Rattle.dd_branch_degrees.proofs.places.add_place.Goals as goal

pub overflow_sub-first : goal.overflow_sub-first
overflow_sub-first c =
    let is = rw c.in-Some.is at c.smaller_neighbor.ensures in
    let near = smaller_chamber c.args.table.now c.requires.three.involutions c.args.pair c.args.chamber c.in-Some.smaller c.requires.chamber is in
    let low = near.0 in
    omega arith

pub bounds-as_slice-first : goal.bounds-as_slice-first
bounds-as_slice-first c =
    let is = rw c.in-Some.is at c.smaller_neighbor.ensures in
    let near = smaller_chamber c.args.table.now c.requires.three.involutions c.args.pair c.args.chamber c.in-Some.smaller c.requires.chamber is in
    let low = near.0 in
    let smaller = is.smaller in
    let before = c.requires.before in
    let same = ap length c.as_slice.ensures.value in
    omega (arith, low, smaller, before, same)

pub returns-in-Some : goal.returns-in-Some
returns-in-Some c =
    let is = rw c.in-Some.is at c.smaller_neighbor.ensures in
    let near = smaller_chamber c.args.table.now c.requires.three.involutions c.args.pair c.args.chamber c.in-Some.smaller c.requires.chamber is in
    let e = c.in-Some.smaller in
    let xs = c.as_slice.result.now in
    let before = subst (λ (ys : List DegreeSlot). (k : ℕ) (x : DegreeSlot) → k + 1 < c.args.chamber → IsPlaceOf c.args.table.now c.args.set.now c.args.pair c.args.first (k + 1) (slice_index_or ys (c.args.first + k) x))
    (sym c.as_slice.ensures.value) c.requires.places in
    record {
      place = c.beside-place.result;
      added = c.push.ensures.items;
      is = place_beside c.args.table.now c.requires.three.involutions c.args.set.now c.args.pair c.args.first c.args.chamber e
          (slice_index_or xs (c.args.first + e - 1) no_place) c.beside-place.result c.requires.chamber is
          (told_before c.args.table.now c.args.set.now c.args.pair c.args.first c.args.chamber e xs no_place near.0 is.smaller before)
          c.beside-place.ensures.root c.beside-place.ensures.turns c.beside-place.ensures.sides c.beside-place.ensures.most;
    }
