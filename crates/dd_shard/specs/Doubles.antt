-- Members with one symbol, among members in the order of their codes.
use Rattle.std.specs.Prelude.{◌≡◌, ◌⊎◌, ℕ, suc, ◌<◌, List, Option, Some, length, slice_index_or}
use Rattle.std.specs.declared.cmp.Ordering.TheVariants.{Equal}
use Rattle.dd_model.specs.Code.{code_cmp}
use Rattle.dd_shard.specs.Merging.{IsNoLater}
use Rattle.dd_shard.specs.declared.member.Member.{Member}
use Rattle.dd_shard.specs.declared.member.ListPlace.{ListPlace}

-- the member at a place and the next one have one code
abbrev pub HasDouble : List Member → ℕ → Member → Type 0
HasDouble ms k d = code_cmp (slice_index_or ms k d).symbol (slice_index_or ms (suc k) d).symbol ≡ Equal

-- up to a place neighbors have different codes
abbrev pub AreApartBelow : List Member → ℕ → Type 0
AreApartBelow ms high = (k : ℕ) (d : Member) → suc k < high → HasDouble ms k d → ⊥

-- the place of a member
abbrev pub IsPlaceOf : Member → ListPlace → Type 0
IsPlaceOf m p = (m.file ≡ p.file) × (m.number ≡ p.number)

-- one place is not after another
abbrev pub IsNotAfter : ListPlace → ListPlace → Type 0
IsNotAfter p q = IsNoLater p.file p.number q.file q.number

-- up to a place, the least place of a member that has the symbol of the one before it
pub record IsLeastDouble (ms : List Member) (high : ℕ) (p : ListPlace) : Type 0 where
  pub at : ℕ
  pub within : suc at < length ms
  pub same : (d : Member) → (slice_index_or ms at d).symbol ≡ (slice_index_or ms (suc at) d).symbol
  pub is : (d : Member) → IsPlaceOf (slice_index_or ms (suc at) d) p
  pub least : (k : ℕ) (d : Member) → suc k < high → HasDouble ms k d
      → IsNoLater p.file p.number (slice_index_or ms (suc k) d).file (slice_index_or ms (suc k) d).number

-- of a place and one that there may be, the one that is not after the other
pub record IsEarliest (least : Option ListPlace) (p result : ListPlace) : Type 0 where
  pub one : (least ≡ Some result) ⊎ (result ≡ p)
  pub new : IsNotAfter result p
  pub old : (q : ListPlace) → least ≡ Some q → IsNotAfter result q
