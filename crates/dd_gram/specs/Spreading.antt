-- Steps along edges without a shift, from one vertex of a net to all others. Each step is told by how it is gone back.
use Rattle.std.specs.Prelude.{◌≡◌, ◌⊎◌, ℕ, ◌+◌, ◌-◌, ◌<◌, ◌≤◌, pos, Bool, true, false, List, length, slice_index_or}
use Rattle.dd_model.specs.Symbol.{Symbol, IsChamber, op}
use Rattle.dd_model.specs.declared.index.Index.TheVariants.{Zero}
use Rattle.dd_lattice.specs.NetOf.{IsVertexNumber, IsNet}
use Rattle.dd_lattice.specs.Nets.{IsNetVertex}
use Rattle.dd_lattice.specs.declared.net.Net.{Net}
use Rattle.dd_lattice.specs.declared.net_edge.NetEdge.{NetEdge}
use Rattle.dd_gram.specs.declared.back_step.BackStep.{BackStep}

-- the flag of a vertex
abbrev pub flag : List Bool → ℕ → Bool
flag met v = slice_index_or met (v - 1) false

-- an edge without a shift
pub record IsStill (e : NetEdge) : Type 0 where
  pub x : e.x ≡ pos 0
  pub y : e.y ≡ pos 0

-- the edge of the chamber leads back from the vertex `to` to the vertex `from`, and has no shift
pub record IsStep (t : Symbol) (net : Net) (is : IsNet t net) (s : BackStep) : Type 0 where
  pub chamber : IsChamber t s.back
  pub to : IsVertexNumber t is.vertices s.back s.to
  pub from : IsVertexNumber t is.vertices (op t Zero s.back) s.from
  pub x : is.first s.back ≡ pos 0
  pub y : is.second s.back ≡ pos 0

-- the step along the edge of a chamber, ahead or the other way
abbrev pub IsOver : Symbol → NetEdge → ℕ → Bool → BackStep → Type 0
IsOver t e d true s = s ≡ record { back = op t Zero d; from = e.from; to = e.to }
IsOver t e d false s = s ≡ record { back = d; from = e.to; to = e.from }

-- a step from a vertex that is met to one that is not
pub record IsNewStep (t : Symbol) (net : Net) (met : List Bool) (s : BackStep) : Type 0 where
  pub step : (is : IsNet t net) → IsStep t net is s
  pub from : IsNetVertex net s.from
  pub to : IsNetVertex net s.to
  pub was_met : flag met s.from ≡ true
  pub new : flag met s.to ≡ false

-- no edge without a shift leads from a vertex that is met to one that is not
abbrev pub AreLevel : Net → List Bool → Type 0
AreLevel net met = (k : ℕ) (e : NetEdge) → k < length net.edges.items → IsStill (slice_index_or net.edges.items k e)
    → flag met (slice_index_or net.edges.items k e).from ≡ flag met (slice_index_or net.edges.items k e).to

-- one of the first k steps leads to a vertex
pub record IsLedTo (steps : List BackStep) (k v : ℕ) : Type 0 where
  pub place : ℕ
  pub early : place < k
  pub inside : place < length steps
  pub leads : (s : BackStep) → (slice_index_or steps place s).to ≡ v

-- the first vertex, or one to which one of the first k steps leads
abbrev pub IsReached : ℕ → List BackStep → ℕ → ℕ → Type 0
IsReached root steps k v = (v ≡ root) ⊎ IsLedTo steps k v

-- each step leads from a vertex that those before it reach
pub record AreSteps (t : Symbol) (net : Net) (root : ℕ) (steps : List BackStep) : Type 0 where
  pub each : (is : IsNet t net) (k : ℕ) (s : BackStep) → k < length steps → IsStep t net is (slice_index_or steps k s)
  pub from : (k : ℕ) (s : BackStep) → k < length steps → IsReached root steps k (slice_index_or steps k s).from
  pub few : length steps + 1 ≤ net.vertices

-- and they reach all vertices
pub record AreWholeSteps (t : Symbol) (net : Net) (root : ℕ) (steps : List BackStep) : Type 0 where
  pub are : AreSteps t net root steps
  pub all : (v : ℕ) → IsNetVertex net v → IsReached root steps (length steps) v
