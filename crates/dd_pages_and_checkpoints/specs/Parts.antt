-- Members that are cut into parts.
use Rattle.std.specs.Prelude.{◌≡◌, ℕ, ◌+◌, List, [], ◌∷◌, ⊤, length}
use Rattle.std.specs.List.{flat_map}
use Rattle.dd_model.specs.Symbol.{Symbol}
use Rattle.dd_pages_and_checkpoints.specs.declared.numbered_members.NumberedMembers.{NumberedMembers}

-- the members of a part
abbrev pub members_of : NumberedMembers → List Symbol
members_of part = part.members

-- Each part has the number of lines before its own, where so many are before all of these.
abbrev pub AreNumbered : ℕ → List NumberedMembers → Type 0
AreNumbered k [] = ⊤
AreNumbered k (part ∷ parts) = (part.before ≡ k) × AreNumbered (k + length (members_of part)) parts

-- These parts follow each other and make these symbols, numbered from k + 1 on.
pub record AreParts (k : ℕ) (ss : List Symbol) (parts : List NumberedMembers) : Type 0 where
  pub numbered : AreNumbered k parts
  pub whole : ss ≡ flat_map members_of parts
