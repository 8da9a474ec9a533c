-- The handles and the crosscaps of the surface of a symbol.
use Rattle.std.specs.Prelude.{◌≡◌, ◌⊎◌, ℕ, ◌*◌, ◌≤◌, ℤ, pos, ◌-ℤ◌, ◌<ℤ◌}
use Rattle.dd_model.specs.Symbol.{Symbol}
use Rattle.dd_cells.specs.Orientation.{IsOrientable}
use Rattle.dd_cells.specs.Euler.{IsEuler}

-- 2, less the number of boundaries and the Euler number, and 0 where that is negative
pub record IsRoom (s : Symbol) (boundaries room : ℕ) : Type 0 where
  pub euler : ℤ
  pub is_euler : IsEuler s euler
  pub rest : let x = pos 2 -ℤ pos boundaries -ℤ euler in (x ≡ pos room) ⊎ ((x <ℤ pos 0) × (room ≡ 0))

-- the greatest whole number of which twice is at most n
pub record IsHalf (n half : ℕ) : Type 0 where
  pub below : 2 * half ≤ n
  pub greatest : (k : ℕ) → 2 * k ≤ n → k ≤ half

-- an orientable surface has half as many handles as there is room, and no crosscaps
pub record HasHandles (s : Symbol) (room handles crosscaps : ℕ) : Type 0 where
  pub orientable : IsOrientable s
  pub half : IsHalf room handles
  pub none : crosscaps ≡ 0

-- another surface has as many crosscaps as there is room, and no handles
pub record HasCrosscaps (s : Symbol) (room handles crosscaps : ℕ) : Type 0 where
  pub not_orientable : ¬ IsOrientable s
  pub whole : crosscaps ≡ room
  pub none : handles ≡ 0

-- the handles and crosscaps of a surface with so many boundaries
pub record AreHandlesAndCrosscaps (s : Symbol) (boundaries handles crosscaps : ℕ) : Type 0 where
  pub room : ℕ
  pub is_room : IsRoom s boundaries room
  pub kind : HasHandles s room handles crosscaps ⊎ HasCrosscaps s room handles crosscaps
