use Rattle.std.specs.Prelude.{◌≡◌, ℕ, ◌+◌, length}
use Rattle.dd_model.specs.declared.pair.Pair.TheVariants.{Tile}
use Rattle.dd_model.specs.Symbol.{AreInvolutions}
use Rattle.dd_cells.proofs.CellSums.{has_roots}
use Rattle.dd_lattice.proofs.PathLemmas.{IsOnWay}
use Rattle.dd_lattice.proofs.paths.Path.closed.Given as goal

abbrev pub invariant-loop-k : goal.invariant-loop-k
invariant-loop-k l = (inv : AreInvolutions l.fn.crossing.symbol.now) (m : ℕ) → m + l.k ≡ length l.steps.items → IsOnWay l.fn.crossing.symbol.now l.fn.first l.steps.items (has_roots l.fn.crossing.symbol.now inv Tile).root m l.exits.items l.place
