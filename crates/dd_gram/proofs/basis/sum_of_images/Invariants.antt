use Rattle.std.proofs.Common.{◌≡◌, ◌≤◌, nat_abs, take}
use Rattle.dd_gram.specs.Shifts.{number_at}
use Rattle.dd_gram.specs.Walks.{sum_along, image_walk}
use Rattle.dd_gram.proofs.basis.sum_of_images.Given as goal

abbrev pub invariant-loop-k : goal.invariant-loop-k
invariant-loop-k l = record {
  sum : l.sum ≡ sum_along (number_at l.numbers) (image_walk l.map (take l.k l.walk));
  small : nat_abs l.sum ≤ l.k;
}
