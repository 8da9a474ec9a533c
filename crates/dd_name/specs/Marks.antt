-- Marks on flags, by which boundaries that are told already are known.
use Rattle.std.specs.Prelude.{◌≡◌, ◌⊎◌, ◌↔◌, ℕ, ◌+◌, ◌*◌, ◌<◌, Bool, true, false, List, [], ◌∷◌, ◌++◌, length, map, slice_index_or}
use Rattle.std.specs.List.{AllByRecursion, Contains, flat_map}
use Rattle.std.specs.List.Sorted.{IsStrictlyIncreasing}
use Rattle.dd_model.specs.Symbol.{Symbol}
use Rattle.dd_model.specs.declared.pair.Pair.{Pair}
use Rattle.dd_name.specs.declared.flags.Flag.{Flag}
use Rattle.dd_name.specs.declared.joints.Joint.{Joint}
use Rattle.dd_name.specs.Flags.{IsFlag, place_of}
use Rattle.dd_name.specs.Rounds.{IsJoined, AreLinked, AreDistinct, flags, first_pair, IsRound, start_place}

-- the mark at the place of a flag is set
abbrev pub IsMarked : List Bool → Flag → Type 0
IsMarked marks f = slice_index_or marks (place_of f) false ≡ true

-- a mark for each flag, and the other ends of the chains at a marked flag are marked too
pub record AreMarks (s : Symbol) (marks : List Bool) : Type 0 where
  pub room : length marks ≡ 3 * s.size + 3
  pub closed : (p : Pair) (f g : Flag) → IsJoined s p f g → IsMarked marks f → IsMarked marks g

-- a closed row of joints from a flag on, over flags that were not marked, and now are
pub record IsNewRound (s : Symbol) (start : Flag) (old new : List Bool) (round : List Joint) : Type 0 where
  pub first : Joint
  pub rest : List Joint
  pub is : round ≡ first ∷ rest
  pub flag : first.flag ≡ start
  pub by : first.by ≡ first_pair start.index
  pub closed : AreLinked s first (rest ++ first ∷ [])
  pub distinct : AreDistinct (flags round)
  pub unmarked : (f : Flag) → Contains (flags round) f → IsMarked old f → ⊥
  pub marked : (f : Flag) → IsMarked new f ↔ (IsMarked old f ⊎ Contains (flags round) f)

-- all rounds that begin at a place below k are told, and their flags are marked
pub record AreTold (s : Symbol) (k : ℕ) (marks : List Bool) (rounds : List (List Joint)) : Type 0 where
  pub kept : AreMarks s marks
  pub each : AllByRecursion (IsRound s) rounds
  pub ascending : IsStrictlyIncreasing (map start_place rounds)
  pub below : (y : ℕ) → Contains (map start_place rounds) y → y < k
  pub apart : AreDistinct (flat_map flags rounds)
  pub marked : (f : Flag) → IsMarked marks f ↔ Contains (flat_map flags rounds) f
  pub complete : (f : Flag) → IsFlag s f → place_of f < k → IsMarked marks f
