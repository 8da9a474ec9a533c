-- What a merge makes of what names hold. Bytes are what was fetched: where the store tells, what it holds.
use Rattle.std.specs.Prelude.{◌≡◌, ◌⊎◌, ℕ, ◌<◌, List, [], ◌∷◌, ◌++◌, length, Option, Bool}
use Rattle.std.specs.Io.KnownBytes.{Appends}
use Rattle.dd_ports.specs.Causes.{Rose}
use Rattle.dd_ports.specs.Grows.{GrowsByPrefix}
use Rattle.dd_words.specs.Grammar.{IsCommand}
use Rattle.dd_words.specs.declared.commands.Command.TheVariants as command
use Rattle.dd_suite_commands.specs.declared.merge_refusal.MergeRefusal.{MergeRefusal}
use Rattle.dd_suite_commands.specs.Merges.{IsMergedText, IsMergeRefusal}
use Rattle.dd_suite_tasks.specs.declared.ending.Ending.{Ending}
use Rattle.dd_suite_tasks.specs.declared.ending.Ending.TheVariants.{Done, RefusedMerge, StoreFault, SinkFault, Memory}
use Rattle.dd_suite_tasks.specs.Held.{AreFetched}
use Rattle.dd_suite_tasks.specs.Outside.{Before, After, WritesNothing}

-- the words of a merge of the files of names
abbrev pub AskToMerge : List (List ℕ) → List (List ℕ) → Type 0
AskToMerge words names = IsCommand words (command.Merge names)

-- the bytes that names hold
abbrev pub AreAllFetched : Bool → (List ℕ → Option (List ℕ)) → List (List ℕ) → List (List ℕ) → Type 0
AreAllFetched tells held [] [] = Unit {0}
AreAllFetched tells held [] (file ∷ files) = ⊥
AreAllFetched tells held (name ∷ names) [] = ⊥
AreAllFetched tells held (name ∷ names) (file ∷ files) = AreFetched tells (held name) file × AreAllFetched tells held names files

-- the first bytes of what a name holds, and all of them if they are fewer than so many
pub record IsFetchedFront (tells : Bool) (held : Option (List ℕ)) (most : ℕ) (front : List ℕ) : Type 0 where
  pub rest : List ℕ
  pub fetched : AreFetched tells held (front ++ rest)
  pub whole : length front < most → rest ≡ []

-- the first bytes of what names hold
abbrev pub AreFetchedFronts : Bool → (List ℕ → Option (List ℕ)) → ℕ → List (List ℕ) → List (List ℕ) → Type 0
AreFetchedFronts tells held most [] [] = Unit {0}
AreFetchedFronts tells held most [] (front ∷ fronts) = ⊥
AreFetchedFronts tells held most (name ∷ names) [] = ⊥
AreFetchedFronts tells held most (name ∷ names) (front ∷ fronts) = IsFetchedFront tells (held name) most front × AreFetchedFronts tells held most names fronts

-- the merged text of the files that names hold
pub record IsMergeOfHeld (names : List (List ℕ)) (tells : Bool) (held : List ℕ → Option (List ℕ)) (text : List ℕ) : Type 0 where
  pub files : List (List ℕ)
  pub fetched : AreAllFetched tells held names files
  pub is_text : IsMergedText files text

-- names hold files that are not merged for this reason
pub record HoldUnmerged (names : List (List ℕ)) (tells : Bool) (held : List ℕ → Option (List ℕ)) (refusal : MergeRefusal) : Type 0 where
  pub files : List (List ℕ)
  pub fetched : AreAllFetched tells held names files
  pub refused : IsMergeRefusal files refusal

-- known bytes grew by the merged text of the files that names held
pub record AppendsMerge (names : List (List ℕ)) (tells : Bool) (held : List ℕ → Option (List ℕ)) (old new : Option (List ℕ)) : Type 0 where
  pub text : List ℕ
  pub is_text : IsMergeOfHeld names tells held text
  pub appended : Appends old new text

-- known bytes grew by a prefix of the merged text
pub record AppendsMergePart (names : List (List ℕ)) (tells : Bool) (held : List ℕ → Option (List ℕ)) (old new : Option (List ℕ)) : Type 0 where
  pub text : List ℕ
  pub is_text : IsMergeOfHeld names tells held text
  pub grown : GrowsByPrefix old new text

-- nothing was written, or a prefix of the merged text
abbrev pub WritesMergePart : List (List ℕ) → Before → After → Type 0
WritesMergePart names before after =
    WritesNothing before after ⊎ AppendsMergePart names before.tells before.held before.written after.written

-- Each ending of a merge has its cause, and only Done may have written more than a part.
abbrev pub HasMergeCause : List (List ℕ) → Ending → Before → After → Type 0
HasMergeCause names Done before after = Unit {0}
HasMergeCause names (RefusedMerge refusal) before after = HoldUnmerged names before.tells before.held refusal × WritesNothing before after
HasMergeCause names StoreFault before after = Rose before.store_faults after.store_faults × WritesNothing before after
HasMergeCause names SinkFault before after = Rose before.sink_faults after.sink_faults × WritesMergePart names before after
HasMergeCause names Memory before after = WritesMergePart names before after
HasMergeCause names ending before after = ⊥
