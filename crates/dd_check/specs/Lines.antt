-- What is told of a line.
use Rattle.std.specs.Prelude.{◌≡◌, ℕ, List}
use Rattle.dd_model.specs.declared.allowed.Allowed.{Allowed}
use Rattle.dd_check.specs.declared.faults.CheckFault.{CheckFault}
use Rattle.dd_check.specs.declared.faults.CheckFault.TheVariants.{Shape, Memory}
use Rattle.dd_check.specs.declared.raw_values.Item.{Item}
use Rattle.dd_check.specs.Texts.{Text, words_of}
use Rattle.dd_check.specs.Sets.{AreItems, IsSetOf}
use Rattle.dd_check.specs.Rows.{IsSetRow}
use Rattle.dd_check.specs.Faults.{IsLine, Tells, FirstFault}

-- line k has these words
pub record HasWords (lines : List Text) (k : ℕ) (words : List Text) : Type 0 where
  pub line : Text
  pub is_line : IsLine lines k line
  pub words_are : words_of line ≡ words

-- there is no line k
pub record IsMissing (lines : List Text) (k : ℕ) (fault : CheckFault) : Type 0 where
  pub shape : fault ≡ Shape k
  pub none : (line : Text) → IsLine lines k line → ⊥

-- line k tells no value
pub record IsUnformed {A : Type 0} (form : List Text → A → Type 0) (lines : List Text) (k : ℕ) (fault : CheckFault) : Type 0 where
  pub shape : fault ≡ Shape k
  pub none : (a : A) → Tells form lines k a → ⊥

-- the answer's fault, unless memory was wanting
abbrev pub IsToldFault : (CheckFault → Type 0) → CheckFault → Type 0
IsToldFault P fault = (fault ≡ Memory → ⊥) → P fault

-- line k tells the value, which is in range
pub record IsToldInRange {A : Type 0} (lines : List Text) (k : ℕ) (form : List Text → A → Type 0) (range : A → Type 0) (a : A) : Type 0 where
  pub tells : Tells form lines k a
  pub in_range : range a

-- line k tells items in range, of which this is the set
pub record IsToldSet (lines : List Text) (k : ℕ) (key : Text) (set : Allowed) : Type 0 where
  pub items : List Item
  pub tells : Tells (IsSetRow key) lines k items
  pub are_items : AreItems items
  pub set_is : IsSetOf items set

-- line k is missing, not of its form or out of range
abbrev pub IsFaultHere : {A : Type 0} → List Text → ℕ → (List Text → A → Type 0) → (A → Type 0) → CheckFault → Type 0
IsFaultHere lines k form range = FirstFault lines k form range (λ _ _. ⊥)
