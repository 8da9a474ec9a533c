-- How a part of the catalogue grows.
use Rattle.std.specs.Prelude.{◌⊎◌, List}
use Rattle.std.specs.List.{Contains}
use Rattle.dd_model.specs.declared.requests.Request.{Request}
use Rattle.dd_model.specs.Symbol.{Symbol}
use Rattle.dd_model.specs.Wanted.{IsMember}

-- the members of the catalogue at which P holds have joined a list, and nothing else but members
pub record Adds (q : Request) (P : Symbol → Type 0) (old new : List Symbol) : Type 0 where
  pub kept : (s : Symbol) → Contains old s → Contains new s
  pub sound : (s : Symbol) → Contains new s → Contains old s ⊎ IsMember q s
  pub complete : (s : Symbol) → P s → IsMember q s → Contains new s
