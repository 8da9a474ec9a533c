-- The members of a catalogue whose involutions are those of a table.
use Rattle.std.specs.Prelude.{◌↔◌, List}
use Rattle.std.specs.List.{Contains}
use Rattle.dd_model.specs.declared.requests.Request.{Request}
use Rattle.dd_model.specs.Symbol.{Symbol}
use Rattle.dd_model.specs.Wanted.{IsAscending, IsMember}
use Rattle.dd_model.specs.Involutions.{HaveSameInvolutions}

-- all of them, ascending
pub record AreMembersWith (q : Request) (t : Symbol) (ss : List Symbol) : Type 0 where
  pub ascending : IsAscending ss
  pub members : (s : Symbol) → Contains ss s ↔ (IsMember q s × HaveSameInvolutions t s)
