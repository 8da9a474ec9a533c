-- How many lines a catalogue has at most.
use Rattle.std.specs.Prelude.{ℕ}

-- the number of the last line that is written
abbrev pub most_lines : ℕ
most_lines = 1000000000000000000
