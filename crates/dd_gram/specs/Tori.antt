-- A torus with its net and the edges of the torus.
use Rattle.std.specs.Prelude.{ℕ, List}
use Rattle.dd_model.specs.Cell.{AreCells}
use Rattle.dd_model.specs.Symbol.{Symbol}
use Rattle.dd_model.specs.declared.pair.Pair.TheVariants.{Edge}
use Rattle.dd_covers.specs.Torus.{IsTorus}
use Rattle.dd_lattice.specs.NetOf.{IsNet}
use Rattle.dd_lattice.specs.declared.net.Net.{Net}

pub record Torus : Type 0 where
  pub symbol : Symbol
  pub net : Net
  pub edges : List ℕ

-- The symbol is a torus, the net is its net, and the edges are told by their least chambers.
pub record IsWithNet (t : Symbol) (net : Net) (edges : List ℕ) : Type 0 where
  pub torus : IsTorus t
  pub is_net : IsNet t net
  pub cells : AreCells t Edge edges
