use Rattle.std.proofs.Common.{◌≡◌, ◌+◌, ◌*◌, ◌≤◌, ◌++◌, map, drop, vec_len, vec_capacity}
use Rattle.std.specs.List.{flat_map}
use Rattle.dd_model.specs.Line.{after_space}
use Rattle.dd_model.specs.Symbol.{item}
use Rattle.dd_text.proofs.told_degrees.put_at.Given as goal

-- what went out, and what is left, are all after the first
abbrev pub invariant-loop-chamber : goal.invariant-loop-chamber
invariant-loop-chamber l = record {
  text : l.out.items ++ flat_map after_space (map (item l.degrees) (drop l.chamber-index l.others)) ≡ l.initial.out.items ++ flat_map after_space (map (item l.degrees) l.others);
  len : vec_len l.out ≤ vec_len l.initial.out + 4 * l.chamber-index;
  capacity : vec_capacity l.out ≡ vec_capacity l.initial.out;
}
