-- Nets: vertices that are numbered from 1, and edges that join two of them.
use Rattle.std.specs.Prelude.{ℕ}
use Rattle.dd_lattice.specs.Joined.{IsVertexOf, AreJoined}
use Rattle.dd_lattice.specs.declared.net.Net.{Net}

-- a number of a vertex
abbrev pub IsNetVertex : Net → ℕ → Type 0
IsNetVertex net v = IsVertexOf net.vertices v

-- a net with a vertex or more, all of which are joined by its edges
abbrev pub IsConnectedNet : Net → Type 0
IsConnectedNet net = AreJoined net.vertices net.edges.items
