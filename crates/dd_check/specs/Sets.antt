-- How a set of numbers is told: by items, each a number or the two ends of a row of numbers.
use Rattle.std.specs.Prelude.{◌↔◌, ℕ, ◌+◌, ◌<◌, ◌≤◌, List, [], ◌∷◌, map, decimal}
use Rattle.std.specs.List.{AllByRecursion, Contains, join_with_byte}
use Rattle.dd_model.specs.Allowed.{IsIn}
use Rattle.dd_model.specs.declared.allowed.Allowed.{Allowed}
use Rattle.dd_check.specs.declared.raw_values.Item.{Item}
use Rattle.dd_check.specs.declared.raw_values.Item.TheVariants.{One, Span}
use Rattle.dd_check.specs.Texts.{Text}

-- the numbers that are written for an item
abbrev pub ends_of : Item → List ℕ
ends_of (One number) = number ∷ []
ends_of (Span low high) = low ∷ high ∷ []

-- one number, or two with a dash between them
abbrev pub item_text : Item → Text
item_text item = join_with_byte 45 (map decimal (ends_of item))

-- items with commas between them
abbrev pub set_text : List Item → Text
set_text items = join_with_byte 44 (map item_text items)

-- the least number of an item
abbrev pub low_of : Item → ℕ
low_of (One number) = number
low_of (Span low high) = low

-- the greatest number of an item
abbrev pub high_of : Item → ℕ
high_of (One number) = number
high_of (Span low high) = high

-- a number from 1 to 216, or two of them of which the second is the greater
abbrev pub IsItem : Item → Type 0
IsItem (One number) = (1 ≤ number) × (number ≤ 216)
IsItem (Span low high) = (1 ≤ low) × (low < high) × (high ≤ 216)

-- the later item begins at least 2 over the last number of the earlier one
abbrev pub ArePartedItems : Item → Item → Type 0
ArePartedItems item later = high_of item + 2 ≤ low_of later

-- each item begins at least 2 over the last number of each item before it
abbrev pub AreParted : List Item → Type 0
AreParted [] = Unit {0}
AreParted (item ∷ items) = AllByRecursion (ArePartedItems item) items × AreParted items

-- items in range, ascending and apart
pub record AreItems (items : List Item) : Type 0 where
  pub each : AllByRecursion IsItem items
  pub parted : AreParted items

-- an item has the number
pub record HasNumberIn (items : List Item) (number : ℕ) : Type 0 where
  pub item : Item
  pub among : Contains items item
  pub from : low_of item ≤ number
  pub to : number ≤ high_of item

-- the set has the numbers of the items and no others
abbrev pub IsSetOf : List Item → Allowed → Type 0
IsSetOf items set = (number : ℕ) → IsIn set number ↔ HasNumberIn items number
