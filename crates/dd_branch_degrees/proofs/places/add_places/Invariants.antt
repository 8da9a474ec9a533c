use Rattle.std.proofs.Common.{◌≡◌, length}
use Rattle.dd_branch_degrees.specs.Place.{HasPlaces}
use Rattle.dd_branch_degrees.proofs.places.add_places.Given as goal

abbrev pub invariant-loop-k : goal.invariant-loop-k
invariant-loop-k l = record {
  first : l.first ≡ length l.fn.places.items;
  placed : HasPlaces l.table l.set l.pair l.fn.places.items l.k l.places.items;
}
