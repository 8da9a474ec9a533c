-- The lines between two positions.
use Rattle.std.specs.Prelude.{◌≡◌, ◌⊎◌, ◌↔◌, ℕ, ◌+◌, List, length}
use Rattle.std.specs.List.{AllByRecursion, Contains}
use Rattle.dd_model.specs.Symbol.{Symbol}
use Rattle.dd_model.specs.Code.{IsBelow}
use Rattle.dd_model.specs.Wanted.{IsAscending}
use Rattle.dd_model.specs.Position.{IsBefore}
use Rattle.dd_model.specs.Text.{AreLines}
use Rattle.dd_model.specs.declared.jobs.Position.{Position}
use Rattle.dd_front_jobs.specs.declared.portions.Portion.{Portion}
use Rattle.dd_front_jobs.specs.Portions.{IsPortionMember}
use Rattle.dd_check.specs.Texts.{Text}

-- a member that is not before one position and is before the other
pub record IsMemberBetween (p : Portion) (from to : Position) (s : Symbol) : Type 0 where
  pub member : IsPortionMember p s
  pub later : ¬ IsBefore from s
  pub earlier : IsBefore to s

-- all of them, ascending
pub record AreMembersBetween (p : Portion) (from to : Position) (ss : List Symbol) : Type 0 where
  pub ascending : IsAscending ss
  pub members : (s : Symbol) → Contains ss s ↔ IsMemberBetween p from to s

-- each member that is before the one position is before the other
abbrev pub IsNoEarlier : Portion → Position → Position → Type 0
IsNoEarlier p from to = (s : Symbol) → IsPortionMember p s → IsBefore from s → IsBefore to s

-- Their lines, numbered on from k; l is the number of the last one. The second position is no earlier than the first.
pub record AreLinesBetween (p : Portion) (from to : Position) (k l : ℕ) (bytes : Text) : Type 0 where
  pub members : List Symbol
  pub between : AreMembersBetween p from to members
  pub no_earlier : IsNoEarlier p from to
  pub count : l ≡ k + length members
  pub lines : AreLines k members bytes

-- the first members of a portion: each other member comes after all of them
pub record AreFirstMembers (p : Portion) (ss : List Symbol) : Type 0 where
  pub ascending : IsAscending ss
  pub members : (s : Symbol) → Contains ss s → IsPortionMember p s
  pub first : (s : Symbol) → IsPortionMember p s → Contains ss s ⊎ AllByRecursion (λ m. IsBelow m s) ss

-- the first l lines of the text of a portion
pub record AreFirstLines (p : Portion) (l : ℕ) (bytes : Text) : Type 0 where
  pub members : List Symbol
  pub first : AreFirstMembers p members
  pub count : l ≡ length members
  pub lines : AreLines 0 members bytes
