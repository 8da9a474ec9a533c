-- How a cell is settled by a side.
use Rattle.std.specs.Prelude.{◌≡◌, ◌≢◌, ◌⊎◌, ℕ, ◌-◌, ◌+◌, ◌%◌, ◌<◌, ◌≤◌, Bool, List, length, set, slice_index}
use Rattle.dd_model.specs.Symbol.{Symbol, IsChamber, op}
use Rattle.dd_model.specs.declared.index.Index.{Index}
use Rattle.dd_cells.specs.Orientation.{color}
use Rattle.dd_covers.specs.Joins.{either}
use Rattle.dd_covers.specs.Shifts.{shift, HaveSize}
use Rattle.dd_covers.specs.declared.join.Join.{Join}
use Rattle.dd_covers.specs.declared.shifts.Shifts.{Shifts}
use Rattle.dd_covers.specs.declared.side.Side.{Side}

-- the side of a chamber by an involution
abbrev pub IsThisSide : Symbol → Side → Index → ℕ → Type 0
IsThisSide s x i d = (i ≡ x.index) × ((d ≡ x.chamber) ⊎ (d ≡ op s x.index x.chamber))

-- a side has the shift z from its white chamber, and the opposite one from the other; other shifts stay
pub record IsPut (s : Symbol) (white : List Bool) (k : ℕ) (x : Side) (z : ℕ) (old new : Shifts) : Type 0 where
  pub sizes : HaveSize s new
  pub here : shift new x.index x.chamber ≡ either (color white x.chamber) z ((k - z) % k)
  pub there : shift new x.index (op s x.index x.chamber) ≡ either (color white x.chamber) ((k - z) % k) z
  pub others : (i : Index) (d : ℕ) → IsChamber s d → ¬ IsThisSide s x i d → shift new i d ≡ shift old i d

-- what is wanting at a cell: the first end of a side may have it, or the second the opposite
abbrev pub shift_of : List ℕ → ℕ → Join → ℕ
shift_of wants k j = either j.out (slice_index wants j.side.from) ((k - slice_index wants j.side.to) % k)

-- less is wanting at the first end, and more at the second
abbrev pub wants_after : List ℕ → ℕ → Side → ℕ → List ℕ
wants_after wants k x z =
    let one = set wants x.from ((slice_index wants x.from + (k - z)) % k) in
    set one x.to ((slice_index one x.to + z) % k)

-- lists of the right length, with numbers below k
pub record AreReady (s : Symbol) (white : List Bool) (k : ℕ) (j : Join) (shifts : Shifts) (wants : List ℕ) : Type 0 where
  pub some : 1 ≤ k
  pub high : k ≤ 30
  pub sizes : HaveSize s shifts
  pub whites : length white ≡ s.size
  pub chamber : IsChamber s j.side.chamber
  pub moved : op s j.side.index j.side.chamber ≢ j.side.chamber
  pub below : (n : ℕ) → slice_index wants n < k
  pub from : j.side.from < length wants
  pub to : j.side.to < length wants

-- the new cell of the side is settled
pub record IsSettled (s : Symbol) (white : List Bool) (k : ℕ) (j : Join) (shifts : Shifts) (wants : List ℕ) (shifts' : Shifts) (wants' : List ℕ) : Type 0 where
  pub wanted : wants' ≡ wants_after wants k j.side (shift_of wants k j)
  pub put : IsPut s white k j.side (shift_of wants k j) shifts shifts'
