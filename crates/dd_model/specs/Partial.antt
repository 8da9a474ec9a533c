-- Tables of involutions of which some images are not known yet.
use Rattle.std.specs.Prelude.{◌≡◌, ◌≢◌, ℕ}
use Rattle.dd_model.specs.declared.index.Index.{Index}
use Rattle.dd_model.specs.Symbol.{Symbol, IsTable, op}
use Rattle.dd_model.specs.Connected.{Connected}

-- s is a connected table with the images of a partial one, in which 0 stands for an image that is not known
pub record Completes (partial s : Symbol) : Type 0 where
  pub table : IsTable s
  pub connected : Connected s
  pub size : s.size ≡ partial.size
  pub images : (i : Index) (d : ℕ) → op partial i d ≢ 0 → op s i d ≡ op partial i d
