-- The budget of a flat table: 12/v for each chain and 24/v for each cycle come to 6 for each chamber.
use Rattle.std.specs.Prelude.{ℕ, zero, suc, ◌+◌, ◌*◌, ◌/◌, List, slice_index_or, min}
use Rattle.dd_branch_degrees.specs.declared.places.DegreeSlot.{DegreeSlot}

-- what stands for a place that a list does not have
abbrev pub no_place : DegreeSlot
no_place = record { root = 0; turns = 0; sides = 0; most = 0; shares = 0 }

-- the part of a degree m: 12/v for each side of the cell at the place of its least chamber, none at the others
abbrev pub twelfths : DegreeSlot → ℕ → ℕ
twelfths x m = x.sides * (12 / (m / x.turns))

-- the parts of k degrees, from place `first` on
abbrev pub spent : List DegreeSlot → (ℕ → ℕ) → ℕ → ℕ → ℕ
spent places f first zero = 0
spent places f first (suc k) = spent places f first k + twelfths (slice_index_or places (first + k) no_place) (f (first + k))

-- how many of the first k places have sides: one for each cell
abbrev pub cells_to : List DegreeSlot → ℕ → ℕ
cells_to places zero = 0
cells_to places (suc k) = cells_to places k + min (slice_index_or places k no_place).sides 1
