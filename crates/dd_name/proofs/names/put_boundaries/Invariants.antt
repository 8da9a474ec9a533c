use Rattle.std.proofs.Common.{◌≡◌, ◌++◌, take}
use Rattle.std.specs.List.{flat_map}
use Rattle.dd_name.specs.Name.{boundary_text}
use Rattle.dd_name.proofs.names.put_boundaries.Given as goal

abbrev pub invariant-loop-boundary : goal.invariant-loop-boundary
invariant-loop-boundary l = l.out.items ≡ l.initial.out.items ++ flat_map boundary_text (take l.boundary-index l.boundaries)
