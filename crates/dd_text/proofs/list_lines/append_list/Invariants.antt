use Rattle.std.proofs.Common.{◌≡◌, ℕ, ◌+◌, ◌-◌, ◌<◌, length, take, get_or}
use Rattle.dd_model.specs.Symbol.{Symbol}
use Rattle.dd_text.specs.Writing.{AddsLines}
use Rattle.dd_text.specs.Outline.{HasNumber, IsOutlineOf}
use Rattle.dd_text.proofs.list_lines.append_list.Given as goal

-- the lines of the symbols so far stand, and the outline is that of each symbol of the same table
abbrev pub invariant-loop-k : goal.invariant-loop-k
invariant-loop-k l = record {
  lines : AddsLines l.before (take (l.place + l.k) l.symbols) l.fn.out.items l.out.items;
  number : HasNumber (l.before + (l.place + l.k)) l.outline;
  outline : (j : ℕ) (s : Symbol) → j < length l.alike → s ≡ get_or l.alike j s → IsOutlineOf (l.before + (l.place + l.k)) s l.outline;
}

-- the lines of the symbols so far stand
abbrev pub invariant-loop-place : goal.invariant-loop-place
invariant-loop-place l = record {
  lines : AddsLines l.before (take l.place l.symbols) l.fn.out.items l.out.items;
  number : HasNumber (l.before + l.place) l.outline;
}

abbrev pub decreases-loop-place : goal.decreases-loop-place
decreases-loop-place l = length l.symbols - l.place
