-- What a merge writes of files, and why files are not merged.
use Rattle.std.specs.Prelude.{◌≡◌, ℕ, ◌+◌, ◌<◌, List, [], ◌∷◌, length, map, take, slice_index_or, IfOk, IfErr}
use Rattle.std.specs.declared.result.Result.{Result}
use Rattle.std.specs.Global.{Global}
use Rattle.std.specs.declared.vec.Vec.{Vec}
use Rattle.dd_model.specs.Symbol.{Symbol}
use Rattle.dd_model.specs.Text.{AreLines}
use Rattle.dd_model.specs.Reading.{Reads}
use Rattle.dd_shard.specs.Merging.{IsNth, AreMergeable, IsMerged, IsMergeFault}
use Rattle.dd_shard.specs.declared.merge_fault.MergeFault.{MergeFault}
use Rattle.dd_shard.specs.declared.merge_fault.MergeFault.TheVariants as fault
use Rattle.dd_text.specs.declared.faults.FileFault.{FileFault}
use Rattle.dd_suite_commands.specs.declared.merge_refusal.MergeRefusal.{MergeRefusal}
use Rattle.dd_suite_commands.specs.declared.merge_refusal.MergeRefusal.TheVariants.{File, NotAscending, Doubled}
use Rattle.dd_suite_commands.specs.declared.stop.Stop.{Stop}
use Rattle.dd_suite_commands.specs.Files.{IsFaulty}
use Rattle.dd_suite_commands.specs.Stops.{IsStop}

-- the bytes of files
abbrev pub bytes_of : List (Vec ℕ Global) → List (List ℕ)
bytes_of = map (λ (file : Vec ℕ Global). file.items)

-- files spell these lists of symbols
abbrev pub AreRead : List (List ℕ) → List (List Symbol) → Type 0
AreRead [] [] = Unit {0}
AreRead [] (list ∷ lists) = ⊥
AreRead (file ∷ files) [] = ⊥
AreRead (file ∷ files) (list ∷ lists) = Reads file list × AreRead files lists

-- the lines of all symbols of files, in order: each file ascends, and no symbol is in two of them
pub record IsMergedText (files : List (List ℕ)) (text : List ℕ) : Type 0 where
  pub lists : List (List Symbol)
  pub read : AreRead files lists
  pub mergeable : AreMergeable lists
  pub members : List Symbol
  pub merged : IsMerged lists members
  pub lines : AreLines 0 members text

-- the file with this number has this fault, and the files before it spell symbols
pub record IsUnread (files : List (List ℕ)) (n : ℕ) (fault : FileFault) : Type 0 where
  pub file : List ℕ
  pub is_file : IsNth files n file
  pub faulty : IsFaulty file fault
  pub lists : List (List Symbol)
  pub before : AreRead (take is_file.place files) lists

-- the files spell lists that are not merged for this reason
pub record IsUnmerged (files : List (List ℕ)) (why : MergeFault) : Type 0 where
  pub lists : List (List Symbol)
  pub read : AreRead files lists
  pub fault : IsMergeFault lists why

-- why files are not merged
abbrev pub IsMergeRefusal : List (List ℕ) → MergeRefusal → Type 0
IsMergeRefusal files (File n fault) = IsUnread files n fault
IsMergeRefusal files (NotAscending n symbol) = IsUnmerged files (fault.NotAscending n symbol)
IsMergeRefusal files (Doubled n symbol) = IsUnmerged files (fault.Doubled n symbol)

-- the fault of a file with a number
abbrev pub IsFileRefusal : ℕ → List ℕ → MergeRefusal → Type 0
IsFileRefusal number file (File n fault) = (n ≡ number) × IsFaulty file fault
IsFileRefusal number file other = ⊥

-- what reading a file with a number gives: its symbols, or its fault
pub record IsReadingOf (number : ℕ) (file : List ℕ) (result : Result (Vec Symbol Global) (Stop MergeRefusal)) : Type 0 where
  pub read : IfOk result (λ symbols. Reads file symbols.items)
  pub why : IfErr result (IsStop (IsFileRefusal number file))

-- what reading each file gives
pub record AreReadEach (files : List (List ℕ)) (results : List (Result (Vec Symbol Global) (Stop MergeRefusal))) : Type 0 where
  pub count : length results ≡ length files
  pub each : (k : ℕ) (f : List ℕ) (d : Result (Vec Symbol Global) (Stop MergeRefusal)) → k < length files
      → IsReadingOf (k + 1) (slice_index_or files k f) (slice_index_or results k d)

-- the fault of the first file that is not read
abbrev pub IsReadRefusal : List (List ℕ) → MergeRefusal → Type 0
IsReadRefusal files (File n fault) = IsUnread files n fault
IsReadRefusal files other = ⊥

-- why lists are not merged
abbrev pub IsListRefusal : List (List Symbol) → MergeRefusal → Type 0
IsListRefusal lists (File n fault) = ⊥
IsListRefusal lists (NotAscending n symbol) = IsMergeFault lists (fault.NotAscending n symbol)
IsListRefusal lists (Doubled n symbol) = IsMergeFault lists (fault.Doubled n symbol)
