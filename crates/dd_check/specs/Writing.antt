-- How a text grows by the lines of a checkpoint.
use Rattle.std.specs.Prelude.{◌≡◌, ℕ, Bool, true, false, List, ◌++◌, ◌==◌, Option, codes, if◌then◌else◌}
use Rattle.dd_model.specs.declared.allowed.Allowed.{Allowed}
use Rattle.dd_check.specs.declared.checkpoint.Checkpoint.{Checkpoint}
use Rattle.dd_check.specs.declared.raw_values.Item.{Item}
use Rattle.dd_check.specs.declared.raw_values.Item.TheVariants.{One, Span}
use Rattle.dd_check.specs.Texts.{Text, line_text}
use Rattle.dd_check.specs.Rows.{set_row}
use Rattle.dd_check.specs.Sets.{AreItems, IsSetOf, item_text, set_text}
use Rattle.dd_check.specs.Checks.{IsCheckText}
use Rattle.dd_check.specs.ShardChecks.{IsShardCheck, IsSavedText}
use Rattle.dd_front_jobs.specs.declared.shards.Shard.{Shard}

-- the item of the numbers from low to high
abbrev pub run_of : ℕ → ℕ → Item
run_of low high = if low == high then One low else Span low high

-- an item, after a comma where the set has begun
abbrev pub next_item : Bool → Item → Text
next_item false item = item_text item
next_item true item = codes "," ++ item_text item

-- the old text, and the items of the set
pub record AddsSet (set : Allowed) (old new : Text) : Type 0 where
  pub items : List Item
  pub are_items : AreItems items
  pub set_is : IsSetOf items set
  pub text : new ≡ old ++ set_text items

-- the old text, and a line of a word and the items of the set
pub record AddsSetLine (key : Text) (set : Allowed) (old new : Text) : Type 0 where
  pub items : List Item
  pub are_items : AreItems items
  pub set_is : IsSetOf items set
  pub text : new ≡ old ++ line_text (set_row key items)

-- the old text, and one of these texts
pub record Adds (IsOne : Text → Type 0) (old new : Text) : Type 0 where
  pub check : Text
  pub is_check : IsOne check
  pub text : new ≡ old ++ check

-- the text of the checkpoint of a catalogue
abbrev pub AddsCheck : Checkpoint → Text → Text → Type 0
AddsCheck c = Adds (IsCheckText c)

-- the text of the checkpoint of the shard
abbrev pub AddsShardCheck : Shard → Checkpoint → Text → Text → Type 0
AddsShardCheck shard c = Adds (IsShardCheck shard c)

-- the text of the checkpoint of a catalogue, or of the shard if there is one
abbrev pub AddsSaved : Option Shard → Checkpoint → Text → Text → Type 0
AddsSaved shard c = Adds (IsSavedText shard c)
