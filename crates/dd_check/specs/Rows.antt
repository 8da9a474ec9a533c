-- The lines of a checkpoint, each by its words.
use Rattle.std.specs.Prelude.{◌≡◌, ◌≢◌, ℕ, Bool, true, false, List, [], ◌∷◌, map, codes, decimal}
use Rattle.std.specs.List.{AllByRecursion}
use Rattle.dd_model.specs.declared.jobs.Job.{Job}
use Rattle.dd_model.specs.declared.jobs.Position.{Position}
use Rattle.dd_model.specs.declared.jobs.Position.TheVariants.{At, End}
use Rattle.dd_check.specs.declared.raw_values.Item.{Item}
use Rattle.dd_check.specs.declared.raw_values.Limits.{Limits}
use Rattle.dd_check.specs.declared.raw_values.OldLimits.{OldLimits}
use Rattle.dd_check.specs.Texts.{Text}
use Rattle.dd_check.specs.Numerals.{IsShort}
use Rattle.dd_check.specs.Sets.{ends_of, set_text}

-- a word and a number
abbrev pub number_row : Text → ℕ → List Text
number_row key number = key ∷ decimal number ∷ []

pub record IsNumberRow (key : Text) (words : List Text) (number : ℕ) : Type 0 where
  pub words_are : words ≡ number_row key number
  pub short : IsShort number

-- the word for all symbols, or for the minimal ones
abbrev pub filter_word : Bool → Text
filter_word true = codes "minimal"
filter_word false = codes "all"

-- the three numbers of a request, and the word for its filter
abbrev pub limits_row : Limits → List Text
limits_row limits = codes "request" ∷ decimal limits.chambers ∷ decimal limits.tiles ∷ decimal limits.vertices ∷ filter_word limits.minimal ∷ []

pub record IsLimitsRow (words : List Text) (limits : Limits) : Type 0 where
  pub words_are : words ≡ limits_row limits
  pub chambers : IsShort limits.chambers
  pub tiles : IsShort limits.tiles
  pub vertices : IsShort limits.vertices

-- the same with the least numbers of the two sets, which run up to 216
abbrev pub old_limits_row : OldLimits → List Text
old_limits_row limits =
    codes "request" ∷ decimal limits.chambers ∷ decimal limits.tiles ∷ decimal limits.vertices ∷
    decimal limits.least_face ∷ decimal limits.least_degree ∷ filter_word limits.minimal ∷ []

pub record IsOldLimitsRow (words : List Text) (limits : OldLimits) : Type 0 where
  pub words_are : words ≡ old_limits_row limits
  pub chambers : IsShort limits.chambers
  pub tiles : IsShort limits.tiles
  pub vertices : IsShort limits.vertices
  pub least_face : IsShort limits.least_face
  pub least_degree : IsShort limits.least_degree

-- a word and the items of a set
abbrev pub set_row : Text → List Item → List Text
set_row key items = key ∷ set_text items ∷ []

abbrev pub IsShortItem : Item → Type 0
IsShortItem item = AllByRecursion IsShort (ends_of item)

pub record IsSetRow (key : Text) (words : List Text) (items : List Item) : Type 0 where
  pub words_are : words ≡ set_row key items
  pub some : items ≢ []
  pub short : AllByRecursion IsShortItem items

-- the end, or the size and the numbers of a position
abbrev pub place_row : Position → List Text
place_row End = codes "at" ∷ codes "end" ∷ []
place_row (At job) = codes "at" ∷ decimal job.size ∷ map decimal job.prefix

pub record IsShortJob (job : Job) : Type 0 where
  pub size : IsShort job.size
  pub numbers : AllByRecursion IsShort job.prefix

abbrev pub IsShortPlace : Position → Type 0
IsShortPlace End = Unit {0}
IsShortPlace (At job) = IsShortJob job

-- after a size stands at least one number
abbrev pub IsTold : Position → Type 0
IsTold End = Unit {0}
IsTold (At job) = job.prefix ≢ []

pub record IsPlaceRow (words : List Text) (at : Position) : Type 0 where
  pub words_are : words ≡ place_row at
  pub told : IsTold at
  pub short : IsShortPlace at
