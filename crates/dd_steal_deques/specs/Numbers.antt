-- The rule of a deque of tickets: each number that its owner gave stands once among the content and what passes took.
use Rattle.std.specs.Prelude.{◌≡◌, ◌≤◌, ℕ, zero, suc, ◌+◌, ◌==◌, ◌&&◌, not, Bool, true, false, List, [], ◌∷◌, ◌++◌, length, if◌then◌else◌}
use mathlib.Core.Option.{some}
use lib.ListN.{get_elem?}
use Rattle.dd_steal_deques.specs.declared.known.Known.{Known}

abbrev pub known : Bool → ℕ → ℕ → Bool → List ℕ → Known
known owns count passes live taken = record { owns = owns; count = count; passes = passes; live = live; taken = taken }

-- how often x stands in the list
abbrev pub times : ℕ → List ℕ → ℕ
times x [] = 0
times x (y ∷ ys) = (if x == y then 1 else 0) + times x ys

-- k numbers from a on
abbrev pub counting : ℕ → ℕ → List ℕ
counting a zero = []
counting a (suc k) = a ∷ counting (suc a) k

-- f of each view, added up
abbrev pub total : (Known → ℕ) → List Known → ℕ
total f [] = 0
total f (v ∷ views) = f v + total f views

-- a pass beside the owner's that is not spent
abbrev pub guest : Known → ℕ
guest v = if v.live && not v.owns then 1 else 0

abbrev pub took : ℕ → Known → ℕ
took x v = times x v.taken

pub record Racked (seat n m from : ℕ) (numbers : List ℕ) (views : List Known) : Type 0 where
  -- the content is the highest numbers, ascending
  pub whole : from + length numbers ≡ n
  pub order : numbers ≡ counting (from + 1) (length numbers)
  -- every number stands once
  pub once : (x : ℕ) → times x numbers + total (took x) views ≡ times x (counting 1 n)
  -- there is one owner at most, who knows the count and the number of passes
  pub owner : (port : ℕ) (v : Known) → get_elem? views port ≡ some v → v.owns ≡ true → (port ≡ seat) × (v.live ≡ true) × (v.count ≡ n) × (v.passes ≡ m)
  pub passes : total guest views ≡ m
  -- what is spent has nothing
  pub spent : (port : ℕ) (v : Known) → get_elem? views port ≡ some v → v.live ≡ false → v.taken ≡ []

abbrev pub Holds : List ℕ → List Known → Type 0
Holds numbers views = (seat : ℕ) × (n : ℕ) × (m : ℕ) × (from : ℕ) × Racked seat n m from numbers views

-- the same pass, after it took more numbers
abbrev pub taking : Known → List ℕ → Known
taking v numbers = known v.owns v.count v.passes v.live (v.taken ++ numbers)

-- an owner took these numbers, and has then taken no more than it gave
abbrev pub Pops : Known → List ℕ → Known → Type 0
Pops v numbers w = (w ≡ taking v numbers) × (length w.taken ≤ w.count)

-- every number up to the count was taken once
pub record HasAll (v : Known) : Type 0 where
  pub each : (x : ℕ) → times x v.taken ≡ times x (counting 1 v.count)
  pub amount : length v.taken ≡ v.count

-- an owner without other passes has taken every number up to its count
abbrev pub TookAll : Known → Type 0
TookAll v = v.passes ≡ 0 → HasAll v
