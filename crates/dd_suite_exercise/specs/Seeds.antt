-- The symbols with which items begin.
use Rattle.std.specs.Prelude.{◌≡◌, List, false}
use Rattle.dd_model.specs.Symbol.{Symbol}
use Rattle.dd_model.specs.Allowed.{IsFrom}
use Rattle.dd_model.specs.Wanted.{IsCatalogue}
use Rattle.dd_model.specs.declared.requests.Request.{Request}

-- what `catalogue 2` asks for
pub record AsksForTwoChambers (q : Request) : Type 0 where
  pub chambers : q.chambers ≡ 2
  pub tiles : q.tiles ≡ 0
  pub vertices : q.vertices ≡ 0
  pub faces : IsFrom 3 q.faces
  pub degrees : IsFrom 3 q.degrees
  pub minimal : q.minimal ≡ false

-- the symbols of `catalogue 2` in the order of its lines
pub record AreSeeds (seeds : List Symbol) : Type 0 where
  pub request : Request
  pub asks : AsksForTwoChambers request
  pub catalogue : IsCatalogue request seeds
