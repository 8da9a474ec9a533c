-- The boundaries of the surface, each told as a closed row of flags.
use Rattle.std.specs.Prelude.{◌≡◌, ◌≢◌, ℕ, ◌<◌, List, [], ◌∷◌, ◌++◌, map, nat_lt, filter}
use Rattle.std.specs.List.{AllByRecursion, Contains, flat_map}
use Rattle.std.specs.List.Sorted.{IsStrictlyIncreasing}
use Rattle.dd_model.specs.Symbol.{Symbol}
use Rattle.dd_model.specs.Cell.{InCell, IsBranching}
use Rattle.dd_model.specs.declared.index.Index.{Index}
use Rattle.dd_model.specs.declared.index.Index.TheVariants.{Zero, One, Two}
use Rattle.dd_model.specs.declared.pair.Pair.{Pair}
use Rattle.dd_model.specs.declared.pair.Pair.TheVariants.{Tile, Vertex}
use Rattle.dd_name.specs.declared.flags.Flag.{Flag}
use Rattle.dd_name.specs.declared.joints.Joint.{Joint}
use Rattle.dd_name.specs.Flags.{IsFlag, IsOfPair, place_of}

-- a flag at an end of its chain of the pair
pub record IsEnd (s : Symbol) (p : Pair) (f : Flag) : Type 0 where
  pub flag : IsFlag s f
  pub letter : IsOfPair p f.index

-- f and g are the two ends of a chain of the pair
pub record IsJoined (s : Symbol) (p : Pair) (f g : Flag) : Type 0 where
  pub start : IsEnd s p f
  pub end : IsEnd s p g
  pub in_cell : InCell s p f.chamber g.chamber
  pub two : f ≢ g

-- The chain of a joint begins at its flag and has its value.
pub record IsJoint (s : Symbol) (a : Joint) : Type 0 where
  pub end : IsEnd s a.by a.flag
  pub value : IsBranching s a.by a.flag.chamber a.value

-- the chain of a joint leads to the flag of the next, whose own chain is of another pair
pub record IsLinked (s : Symbol) (a b : Joint) : Type 0 where
  pub joint : IsJoint s a
  pub joined : IsJoined s a.by a.flag b.flag
  pub other : a.by ≢ b.by

-- a joint is linked to the first of a list, and each of the list to the next
abbrev pub AreLinked : Symbol → Joint → List Joint → Type 0
AreLinked s a [] = Unit {0}
AreLinked s a (b ∷ bs) = IsLinked s a b × AreLinked s b bs

-- no member comes twice
abbrev pub AreDistinct : {A : Type 0} → List A → Type 0
AreDistinct [] = Unit {0}
AreDistinct (x ∷ xs) = (¬ Contains xs x) × AreDistinct xs

-- the flags of joints
abbrev pub flags : List Joint → List Flag
flags = map (λ a. a.flag)

-- the first of the two pairs that hold an involution, in the order tile, vertex, edge
abbrev pub first_pair : Index → Pair
first_pair Zero = Tile
first_pair One = Tile
first_pair Two = Vertex

-- a row of joints that leads back to its first, with no flag twice, told from its least flag and by the first pair of that
pub record IsRoundFrom (s : Symbol) (start : Joint) (rest : List Joint) : Type 0 where
  pub closed : AreLinked s start (rest ++ start ∷ [])
  pub distinct : AreDistinct (flags (start ∷ rest))
  pub least : (f : Flag) → Contains (flags rest) f → place_of start.flag < place_of f
  pub first : start.by ≡ first_pair start.flag.index

-- once round a boundary
abbrev pub IsRound : Symbol → List Joint → Type 0
IsRound s [] = ⊥
IsRound s (a ∷ rest) = IsRoundFrom s a rest

-- the place of the flag at which a round begins
abbrev pub start_place : List Joint → ℕ
start_place [] = 0
start_place (a ∷ rest) = place_of a.flag

-- the boundaries, ascending by the flags at which they begin: each flag of the symbol is on exactly one of them, once
pub record AreRounds (s : Symbol) (rounds : List (List Joint)) : Type 0 where
  pub each : AllByRecursion (IsRound s) rounds
  pub ascending : IsStrictlyIncreasing (map start_place rounds)
  pub apart : AreDistinct (flat_map flags rounds)
  pub complete : (f : Flag) → IsFlag s f → Contains (flat_map flags rounds) f

-- the values above 1 of the chains passed, in order round the boundary
abbrev pub corners : List Joint → List ℕ
corners joints = filter (nat_lt 1) (map (λ a. a.value) joints)
