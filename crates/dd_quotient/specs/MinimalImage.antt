-- The minimal image of a symbol: its alike chambers made equal, and no others.
use Rattle.std.specs.Prelude.{◌≡◌, ◌↔◌, ◌⊎◌, ℕ, ◌<◌, ◌≤◌, List}
use Rattle.dd_model.specs.Symbol.{Symbol, IsSymbol, IsChamber, item}
use Rattle.dd_model.specs.Cell.{IsBranching}
use Rattle.dd_model.specs.Isomorphic.{IsMorphism}
use Rattle.dd_model.specs.Minimal.{Alike}
use Rattle.dd_model.specs.declared.pair.Pair.{Pair}
use Rattle.dd_model.specs.declared.pair.Pair.TheVariants.{Tile, Vertex}

-- a chamber of s that f sends to e
pub record IsImage (s : Symbol) (f : List ℕ) (e : ℕ) : Type 0 where
  pub chamber : ℕ
  pub is_chamber : IsChamber s chamber
  pub leads : item f chamber ≡ e

-- each chamber of m is the image of some chamber of s
abbrev pub IsOnto : Symbol → Symbol → List ℕ → Type 0
IsOnto s m f = (e : ℕ) → IsChamber m e → IsImage s f e

-- a morphism onto a symbol m that makes two chambers equal exactly where they are alike
pub record IsMinimalImage (s m : Symbol) (f : List ℕ) : Type 0 where
  pub symbol : IsSymbol m
  pub morphism : IsMorphism s m f
  pub onto : IsOnto s m f
  pub alike : (d e : ℕ) → IsChamber s d → IsChamber s e → (item f d ≡ item f e) ↔ Alike s d e

-- a chamber before d that f sends to e
pub record IsMetBefore (f : List ℕ) (d e : ℕ) : Type 0 where
  pub chamber : ℕ
  pub low : 1 ≤ chamber
  pub before : chamber < d
  pub leads : item f chamber ≡ e

-- The images are numbered in the order in which the chambers of s meet them: each number below that of a chamber is that of
-- a chamber before it.
abbrev pub IsInOrder : Symbol → List ℕ → Type 0
IsInOrder s f = (d e : ℕ) → IsChamber s d → 1 ≤ e → e < item f d → IsMetBefore f d e

-- tiles before vertices, and then by the chamber
abbrev pub IsEarlier : Pair → ℕ → Pair → ℕ → Type 0
IsEarlier Tile d Tile e = d < e
IsEarlier Tile d Vertex e = Unit {0}
IsEarlier Vertex d Vertex e = d < e
IsEarlier _ d _ e = ⊥

-- all branching values are at most 30
abbrev pub AreAllSmall : Symbol → Type 0
AreAllSmall m = (p : Pair) (d v : ℕ) → IsChamber m d → IsBranching m p d v → v ≤ 30

-- v is the first branching value over 30 of a minimal image, where the cells of the image come in the order of the chambers
-- of s that map into them
pub record IsFirstTooLarge (s m : Symbol) (f : List ℕ) (v : ℕ) : Type 0 where
  pub image : IsMinimalImage s m f
  pub pair : Pair
  pub tile_or_vertex : (pair ≡ Tile) ⊎ (pair ≡ Vertex)
  pub chamber : ℕ
  pub is_chamber : IsChamber s chamber
  pub branching : IsBranching m pair (item f chamber) v
  pub large : 30 < v
  pub first : (p : Pair) (d u : ℕ) → IsChamber s d → IsEarlier p d pair chamber → IsBranching m p (item f d) u → u ≤ 30

-- v is the first branching value over 30 of some minimal image of s
pub record HasTooLarge (s : Symbol) (v : ℕ) : Type 0 where
  pub image : Symbol
  pub map : List ℕ
  pub first : IsFirstTooLarge s image map v
