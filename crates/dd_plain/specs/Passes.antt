-- What is tested of every symbol.
use Rattle.std.specs.Prelude.{ℕ, ◌≤◌}
use Rattle.dd_model.specs.declared.pair.Pair.TheVariants.{Tile, Vertex}
use Rattle.dd_model.specs.declared.requests.Request.{Request}
use Rattle.dd_model.specs.Symbol.{Symbol, IsSymbol, IsChamber, degree}
use Rattle.dd_model.specs.Connected.{Connected}
use Rattle.dd_model.specs.Allowed.{IsIn}
use Rattle.dd_model.specs.Cell.{IsBranching}
use Rattle.dd_model.specs.Flat.{Flat}
use Rattle.dd_model.specs.Wanted.{AtMost, IsCrystallographic}

-- s is wanted, but for what is asked of minimality
pub record Passes (q : Request) (s : Symbol) : Type 0 where
  pub symbol : IsSymbol s
  pub connected : Connected s
  pub chambers : s.size ≤ q.chambers
  pub flat : Flat s
  pub faces : (d : ℕ) → IsChamber s d → IsIn q.faces (degree s Tile d)
  pub degrees : (d : ℕ) → IsChamber s d → IsIn q.degrees (degree s Vertex d)
  pub face_branching : (d v : ℕ) → IsChamber s d → IsBranching s Tile d v → IsCrystallographic v
  pub vertex_branching : (d v : ℕ) → IsChamber s d → IsBranching s Vertex d v → IsCrystallographic v
  pub tiles : AtMost s Tile q.tiles
  pub vertices : AtMost s Vertex q.vertices
