-- Parts of lines as they are told.
use Rattle.std.specs.Prelude.{◌<◌, ◌≤◌, length, slice_index, ◌≡◌, ◌≢◌, ℕ, List, [], Option, MatchOption, Vec, map, decimal, codes}
use Rattle.std.specs.List.{AllByRecursion}
use Rattle.std.specs.Global.{Global}
use Rattle.dd_model.specs.declared.jobs.Job.{Job}
use Rattle.dd_model.specs.declared.jobs.Position.{Position}
use Rattle.dd_model.specs.declared.jobs.Position.TheVariants.{At as AtJob, End as NoJob}
use Rattle.dd_check.specs.declared.raw_values.Item.{Item}
use Rattle.dd_check.specs.declared.raw_values.Limits.{Limits}
use Rattle.dd_check.specs.declared.raw_values.OldLimits.{OldLimits}
use Rattle.dd_check.specs.declared.raw_values.RawPosition.{RawPosition}
use Rattle.dd_check.specs.declared.raw_values.RawPosition.TheVariants.{At, End}
use Rattle.dd_check.specs.Texts.{Text}
use Rattle.dd_check.specs.Numerals.{IsShort, IsNumeral}
use Rattle.dd_check.specs.Sets.{ends_of, item_text, set_text}
use Rattle.dd_check.specs.Rows.{filter_word, IsShortItem, IsPlaceRow}

-- a word that tells an item
pub record IsItemWord (word : Text) (item : Item) : Type 0 where
  pub text_is : word ≡ item_text item
  pub short : IsShortItem item

-- words that tell the ends of an item
pub record AreEnds (words : List Text) (item : Item) : Type 0 where
  pub words_are : words ≡ map decimal (ends_of item)
  pub short : IsShortItem item

-- words that tell an item each
pub record AreItemWords (words : List Text) (items : List Item) : Type 0 where
  pub words_are : words ≡ map item_text items
  pub short : AllByRecursion IsShortItem items

-- a word that tells one or more items
pub record IsSetWord (word : Text) (items : List Item) : Type 0 where
  pub text_is : word ≡ set_text items
  pub some : items ≢ []
  pub short : AllByRecursion IsShortItem items

-- what the words tell, or none where they tell nothing
abbrev pub IsWhatTells : {A B : Type 0} → (B → A → Type 0) → B → Option A → Type 0
IsWhatTells form words told = MatchOption told ((a : _) → form words a → ⊥) (form words)

-- the same of a list of items
abbrev pub IsWhatTellsItems : {B : Type 0} → (B → List Item → Type 0) → B → Option (Vec Item Global) → Type 0
IsWhatTellsItems form words told = MatchOption told ((items : List Item) → form words items → ⊥) (λ items. form words items.items)

-- words that are the limits of a request
pub record AreLimitWords (chambers tiles vertices filter : Text) (limits : Limits) : Type 0 where
  pub chambers_is : IsNumeral chambers limits.chambers
  pub tiles_is : IsNumeral tiles limits.tiles
  pub vertices_is : IsNumeral vertices limits.vertices
  pub filter_is : filter ≡ filter_word limits.minimal

-- words that are those of version 1
pub record AreOldLimitWords (chambers tiles vertices face degree filter : Text) (limits : OldLimits) : Type 0 where
  pub limits_are : AreLimitWords chambers tiles vertices filter
      (record { chambers = limits.chambers; tiles = limits.tiles; vertices = limits.vertices; minimal = limits.minimal })
  pub face_is : IsNumeral face limits.least_face
  pub degree_is : IsNumeral degree limits.least_degree

-- words that are numbers
abbrev pub AreNumerals : List Text → List ℕ → Type 0
AreNumerals words numbers = (words ≡ map decimal numbers) × AllByRecursion IsShort numbers

abbrev pub IsWhatTellsNumbers : List Text → Option (Vec ℕ Global) → Type 0
IsWhatTellsNumbers words told = MatchOption told ((numbers : List ℕ) → AreNumerals words numbers → ⊥) (λ numbers. AreNumerals words numbers.items)

-- the position with these numbers
abbrev pub position_of : RawPosition → Position
position_of End = NoJob
position_of (At size numbers) = AtJob (record { size = size; prefix = numbers.items })

abbrev pub IsWhatTellsPlace : List Text → Option RawPosition → Type 0
IsWhatTellsPlace words told = MatchOption told ((at : Position) → IsPlaceRow words at → ⊥) (λ place. IsPlaceRow words (position_of place))

-- a word that says that the position is the end
abbrev pub IsWhatTellsEnd : Text → Option RawPosition → Type 0
IsWhatTellsEnd word told = MatchOption told (word ≡ codes "end" → ⊥) (λ place. (place ≡ End) × (word ≡ codes "end"))

-- words that are a size and numbers
pub record AreJobWords (size : Text) (rest : List Text) (job : Job) : Type 0 where
  pub size_is : IsNumeral size job.size
  pub numbers_are : AreNumerals rest job.prefix

abbrev pub IsJobPlace : Text → List Text → RawPosition → Type 0
IsJobPlace size rest End = ⊥
IsJobPlace size rest (At n numbers) = IsNumeral size n × AreNumerals rest numbers.items

abbrev pub IsWhatTellsJob : Text → List Text → Option RawPosition → Type 0
IsWhatTellsJob size rest told = MatchOption told ((job : Job) → AreJobWords size rest job → ⊥) (IsJobPlace size rest)

-- the numbers fit in those of a position
abbrev pub IsSmallPlace : RawPosition → Type 0
IsSmallPlace End = Unit {0}
IsSmallPlace (At size numbers) = (size ≤ 36) × ((t : ℕ) → t < length numbers.items → slice_index numbers.items t ≤ 216)
