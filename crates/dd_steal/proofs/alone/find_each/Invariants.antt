use Rattle.std.proofs.Common.{◌≡◌, ◌≤◌, length, take, vec_capacity}
use Rattle.std.specs.List.{AllByRecursion}
use Rattle.dd_front.specs.Absorbed.{IsFound}
use Rattle.dd_front.specs.Joining.{done_with}
use Rattle.dd_steal.proofs.alone.find_each.Given as goal

abbrev pub invariant-loop-entry : goal.invariant-loop-entry
invariant-loop-entry g l = record {
  long : length l.lists.items ≡ l.entry-index;
  room : length l.entries ≤ vec_capacity l.lists;
  request : g.F.Finder.request l.finder ≡ g.F.Finder.request l.fn.finder;
  found : AllByRecursion (IsFound (g.F.Finder.request l.fn.finder)) (done_with l.lists.items (take l.entry-index l.entries));
}
