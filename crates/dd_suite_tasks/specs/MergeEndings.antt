-- What words of a merge come to.
use Rattle.std.specs.Prelude.{◌≡◌, ℕ, List, Option, Bool, true, IsSome}
use Rattle.std.specs.List.{AllByRecursion}
use Rattle.dd_ports.specs.Grows.{GrowsByPrefix}
use Rattle.dd_suite_commands.specs.declared.merge_refusal.MergeRefusal.{MergeRefusal}
use Rattle.dd_suite_commands.specs.Merges.{IsMergedText}
use Rattle.dd_suite_tasks.specs.declared.ending.Ending.{Ending}
use Rattle.dd_suite_tasks.specs.declared.ending.Ending.TheVariants.{Done}
use Rattle.dd_suite_tasks.specs.Merges.{AskToMerge, AreAllFetched, IsMergeOfHeld, HoldUnmerged, AppendsMerge, HasMergeCause}
use Rattle.dd_suite_tasks.specs.Outside.{Before, After, KeepsNames}

-- a prefix of the merged text of the files that names hold was written, and after Done the whole; the store is as it was
pub record EndsMerge (names : List (List ℕ)) (ending : Ending) (before : Before) (after : After) : Type 0 where
  pub cause : HasMergeCause names ending before after
  pub prefix : before.tells ≡ true → (text : List ℕ) → IsMergeOfHeld names before.tells before.held text
      → GrowsByPrefix before.written after.written text
  pub whole : ending ≡ Done → AppendsMerge names before.tells before.held before.written after.written
  pub same : KeepsNames before after

-- the merged text of the files that the words name
pub record IsMergeOutput (words : List (List ℕ)) (tells : Bool) (held : List ℕ → Option (List ℕ)) (bytes : List ℕ) : Type 0 where
  pub names : List (List ℕ)
  pub asked : AskToMerge words names
  pub text : IsMergeOfHeld names tells held bytes

-- the words name files that are not merged for this reason
pub record NameUnmerged (words : List (List ℕ)) (tells : Bool) (held : List ℕ → Option (List ℕ)) (refusal : MergeRefusal) : Type 0 where
  pub names : List (List ℕ)
  pub asked : AskToMerge words names
  pub holds : HoldUnmerged names tells held refusal

-- The store tells what it holds, and holds each file that the words merge, if they merge files. A store that does not tell may lose
-- a file by a fetch of another.
abbrev pub AreMergedHeld : List (List ℕ) → Bool → (List ℕ → Option (List ℕ)) → Type 0
AreMergedHeld words tells held = (names : List (List ℕ)) → AskToMerge words names → (tells ≡ true) × AllByRecursion (λ name. IsSome (held name)) names

-- files that names hold, with a merged text
pub record AreMergedFiles (names : List (List ℕ)) (held : List ℕ → Option (List ℕ)) : Type 0 where
  pub files : List (List ℕ)
  pub fetched : AreAllFetched true held names files
  pub text : List ℕ
  pub is_text : IsMergedText files text

-- the files that the words merge, if they merge files, have a merged text: each ascends, and no symbol is in two of them
abbrev pub IsMergeAccepted : List (List ℕ) → Bool → (List ℕ → Option (List ℕ)) → Type 0
IsMergeAccepted words tells held = (names : List (List ℕ)) → AskToMerge words names → (tells ≡ true) × AreMergedFiles names held
