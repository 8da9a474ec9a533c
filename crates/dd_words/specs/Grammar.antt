-- Which words ask for which command.
use Rattle.std.specs.Prelude.{◌≡◌, ℕ, ◌≤◌, List, [], ◌∷◌, length, Option, IsSome}
use Rattle.std.specs.List.{AllByRecursion}
use Rattle.dd_model.specs.declared.requests.Request.{Request}
use Rattle.dd_front_jobs.specs.declared.pace.Pace.{Pace}
use Rattle.dd_front_jobs.specs.declared.shards.Shard.{Shard}
use Rattle.dd_words.specs.declared.settings.Setting.TheVariants.{Tiles, Vertices, LeastFace, LeastDegree, Faces, Degrees, Minimal, Workers, Round, Pause, Checkpoint}
use Rattle.dd_model.specs.declared.frame.Frame.{Frame}
use Rattle.dd_opword.specs.Words.{IsSpelled}
use Rattle.dd_opword.specs.declared.words.OpWord.{OpWord}
use Rattle.dd_words.specs.declared.commands.Command.{Command}
use Rattle.dd_words.specs.declared.commands.Command.TheVariants as command
use Rattle.dd_words.specs.Values.{Text, IsNumberIn, IsName}
use Rattle.dd_words.specs.Layout.{IsLaid}
use Rattle.dd_words.specs.Given.{Given, AreSingle}
use Rattle.dd_words.specs.FirstWords.{first_word, verb_of}
use Rattle.dd_words.specs.GivenValues.{IsNumberOr, IsNumberIfGiven, IsNameIfGiven, IsFlagIfGiven, IsSet, IsFramed}

-- the pace of a catalogue, and after how many lines it is to pause
pub record IsRun (settings : List Given) (pace : Pace) (pause : Option ℕ) : Type 0 where
  pub workers_are : IsNumberOr settings Workers 1 64 1 pace.workers
  pub round_is : IsNumberOr settings Round 1 4096 64 pace.round
  pub pause_is : IsNumberIfGiven settings Pause 1 1000000000 pause

-- the argument and the settings ask for this request
pub record IsRequested (n : Text) (settings : List Given) (q : Request) : Type 0 where
  pub chambers : IsNumberIn 1 36 n q.chambers
  pub tiles : IsNumberOr settings Tiles 1 36 0 q.tiles
  pub vertices : IsNumberOr settings Vertices 1 36 0 q.vertices
  pub faces : IsSet settings Faces LeastFace q.faces
  pub degrees : IsSet settings Degrees LeastDegree q.degrees
  pub minimal : IsFlagIfGiven settings Minimal q.minimal

-- the argument and the settings of a catalogue; it pauses only where a checkpoint is named
pub record IsCatalogue (n : Text) (settings : List Given) (q : Request) (pace : Pace) (pause : Option ℕ) (checkpoint : Option Text) : Type 0 where
  pub request : IsRequested n settings q
  pub run : IsRun settings pace pause
  pub checkpoint_is : IsNameIfGiven settings Checkpoint checkpoint
  pub resumable : IsSome pause → IsSome checkpoint

-- the argument and the settings of a catalogue that is taken up again
pub record IsResumed (word : Text) (settings : List Given) (name : Text) (pace : Pace) (pause : Option ℕ) : Type 0 where
  pub same : word ≡ name
  pub is_name : IsName name
  pub run : IsRun settings pace pause

-- no catalogue has the argument and the settings
abbrev pub HasNoCatalogue : Text → List Given → Type 0
HasNoCatalogue n settings =
    (q : Request) (pace : Pace) (pause : Option ℕ) (checkpoint : Option Text) → IsCatalogue n settings q pace pause checkpoint → ⊥

-- two words that are the numbers of a shard
pub record IsShardOf (first second : Text) (shard : Shard) : Type 0 where
  pub index : IsNumberIn 1 8 first shard.index
  pub count : IsNumberIn 1 8 second shard.count

-- the arguments and the settings of a shard of a catalogue
pub record IsSharded (first second n : Text) (settings : List Given) (shard : Shard) (q : Request) (pace : Pace) (pause : Option ℕ) (checkpoint : Option Text) : Type 0 where
  pub shard_is : IsShardOf first second shard
  pub catalogue : IsCatalogue n settings q pace pause checkpoint

-- the argument and the settings of a drawing
pub record IsDrawn (word : Text) (settings : List Given) (file : Text) (frame : Option Frame) : Type 0 where
  pub same : word ≡ file
  pub is_name : IsName file
  pub frame_is : IsFramed settings frame

-- the arguments of an exercise
pub record IsExercise (first second : Text) (start count : ℕ) : Type 0 where
  pub start_is : IsNumberIn 0 2147483647 first start
  pub count_is : IsNumberIn 0 10000 second count

-- the arguments of a word of operations and a file
pub record IsApplied (first second : Text) (word : OpWord) (file : Text) : Type 0 where
  pub word_is : IsSpelled first word
  pub same : second ≡ file
  pub is_name : IsName file

-- the arguments of a merge, one to eight files
pub record AreMerged (arguments files : List Text) : Type 0 where
  pub same : arguments ≡ files
  pub some : 1 ≤ length arguments
  pub few : length arguments ≤ 8
  pub are_names : AllByRecursion IsName arguments

-- the argument of a command on a file
pub record IsOnFile (word file : Text) : Type 0 where
  pub same : word ≡ file
  pub is_name : IsName file

-- a claim on the one argument
abbrev pub OnOne : List Text → (Text → Type 0) → Type 0
OnOne (word ∷ []) P = P word
OnOne _ P = ⊥

-- a claim on the two arguments
abbrev pub OnTwo : List Text → (Text → Text → Type 0) → Type 0
OnTwo (first ∷ second ∷ []) P = P first second
OnTwo _ P = ⊥

-- a claim on the three arguments
abbrev pub OnThree : List Text → (Text → Text → Text → Type 0) → Type 0
OnThree (first ∷ second ∷ third ∷ []) P = P first second third
OnThree _ P = ⊥

-- the arguments and the settings say what the command has
abbrev pub IsSaid : Command → List Text → List Given → Type 0
IsSaid (command.Catalogue q pace pause checkpoint) arguments settings =
    OnOne arguments (λ n. IsCatalogue n settings q pace pause checkpoint)
IsSaid (command.Resume name pace pause) arguments settings = OnOne arguments (λ word. IsResumed word settings name pace pause)
IsSaid (command.Shard shard q pace pause checkpoint) arguments settings =
    OnThree arguments (λ first second n. IsSharded first second n settings shard q pace pause checkpoint)
IsSaid (command.ResumeShard name pace pause) arguments settings = OnOne arguments (λ word. IsResumed word settings name pace pause)
IsSaid (command.Draw file frame) arguments settings = OnOne arguments (λ word. IsDrawn word settings file frame)
IsSaid (command.Exercise start count) arguments settings = OnTwo arguments (λ first second. IsExercise first second start count)
IsSaid (command.Apply word file) arguments settings = OnTwo arguments (λ first second. IsApplied first second word file)
IsSaid (command.Merge files) arguments settings = AreMerged arguments files
IsSaid (command.File kind file) arguments settings = OnOne arguments (λ word. IsOnFile word file)

-- the words ask for the command
pub record IsCommand (words : List Text) (c : Command) : Type 0 where
  pub rest : List Text
  pub arguments : List Text
  pub settings : List Given
  pub first : words ≡ first_word (verb_of c) ∷ rest
  pub laid : IsLaid (verb_of c) rest arguments settings
  pub single : AreSingle settings
  pub said : IsSaid c arguments settings
