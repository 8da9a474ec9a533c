-- Wanted symbols and catalogues, without the two sentences on branching values.
use Rattle.std.specs.Prelude.{◌↔◌, ℕ, ◌≤◌, List, IsTrue}
use Rattle.std.specs.List.{Contains}
use Rattle.dd_model.specs.Symbol.{Symbol, IsSymbol, IsChamber, item}
use Rattle.dd_model.specs.Connected.{Connected}
use Rattle.dd_model.specs.Code.{Least}
use Rattle.dd_model.specs.Flat.{Flat}
use Rattle.dd_model.specs.Minimal.{Minimal}
use Rattle.dd_model.specs.Allowed.{IsIn}
use Rattle.dd_model.specs.Wanted.{AtMost, IsAscending}
use Rattle.dd_model.specs.declared.pair.Pair.TheVariants.{Tile, Vertex}
use Rattle.dd_model.specs.declared.requests.Request.{Request}

-- all that a request asks for, but for what the definition says of branching values
pub record WantedOfAnyBranching (q : Request) (s : Symbol) : Type 0 where
  pub symbol : IsSymbol s
  pub connected : Connected s
  pub chambers : s.size ≤ q.chambers
  pub tiles : AtMost s Tile q.tiles
  pub vertices : AtMost s Vertex q.vertices
  pub faces : (d : ℕ) → IsChamber s d → IsIn q.faces (item s.m01 d)
  pub degrees : (d : ℕ) → IsChamber s d → IsIn q.degrees (item s.m12 d)
  pub flat : Flat s
  pub minimal : IsTrue q.minimal → Minimal s

-- a symbol that is wanted in this sense, and numbered so that its code is least
pub record IsMemberOfAnyBranching (q : Request) (s : Symbol) : Type 0 where
  pub wanted : WantedOfAnyBranching q s
  pub least : Least s

-- the ascending list of all least symbols that are wanted in this sense
pub record IsCatalogueOfAnyBranching (q : Request) (ss : List Symbol) : Type 0 where
  pub ascending : IsAscending ss
  pub members : (s : Symbol) → Contains ss s ↔ IsMemberOfAnyBranching q s
