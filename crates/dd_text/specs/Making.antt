-- How an outline is made.
use Rattle.std.specs.Prelude.{◌≡◌, ℕ, [], ◌∷◌, ◌++◌, codes, decimal}
use Rattle.dd_model.specs.Symbol.{Symbol, op}
use Rattle.dd_model.specs.declared.index.Index.TheVariants.{Zero, One, Two}
use Rattle.dd_model.specs.declared.pair.Pair.TheVariants.{Tile, Vertex}
use Rattle.dd_text.specs.Numbered.{IsNumbered}
use Rattle.dd_text.specs.Outline.{HasNumber}
use Rattle.dd_text.specs.Told.{TellsImage, AddsLeast}
use Rattle.dd_text.specs.declared.outline.Outline.{Outline}

-- after the number of a line stands the number of chambers, and chamber 1 is told
pub record IsBegun (s : Symbol) (old new : Outline) : Type 0 where
  pub numbered : (k : ℕ) → HasNumber k old → IsNumbered k (codes ":" ++ decimal s.size ++ codes ":" ++ decimal (op s Zero 1)) new.head.items new.number_end
  pub ones : new.ones.items ≡ decimal (op s One 1)
  pub twos : new.twos.items ≡ decimal (op s Two 1)
  pub tiles : new.tiles.items ≡ 1 ∷ []
  pub vertices : new.vertices.items ≡ 1 ∷ []

-- one chamber more is told
pub record TellsChamber (s : Symbol) (d : ℕ) (old new : Outline) : Type 0 where
  pub zeros : TellsImage d (op s Zero d) old.head.items new.head.items
  pub ones : TellsImage d (op s One d) old.ones.items new.ones.items
  pub twos : TellsImage d (op s Two d) old.twos.items new.twos.items
  pub tiles : AddsLeast s Tile d old.tiles.items new.tiles.items
  pub vertices : AddsLeast s Vertex d old.vertices.items new.vertices.items
  pub end : new.number_end ≡ old.number_end

-- the images stand one after the other
pub record IsFinished (old new : Outline) : Type 0 where
  pub head : new.head.items ≡ old.head.items ++ codes "," ++ old.ones.items ++ codes "," ++ old.twos.items ++ codes ":"
  pub end : new.number_end ≡ old.number_end
  pub tiles : new.tiles.items ≡ old.tiles.items
  pub vertices : new.vertices.items ≡ old.vertices.items
