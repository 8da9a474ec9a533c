-- How far a search for the degrees of a table has come.
use Rattle.arrayvec.specs.ArrayVec.{ArrayVec}
use Rattle.std.specs.Prelude.{◌≡◌, ℕ, ◌-◌, ◌*◌, ◌<◌, ◌≤◌, List, ◌++◌, length, take, slice_index, slice_index_or, IfSome}
use Rattle.dd_model.specs.declared.requests.Request.{Request}
use Rattle.dd_model.specs.declared.pair.Pair.TheVariants.{Tile, Vertex}
use Rattle.dd_model.specs.Symbol.{Symbol}
use Rattle.dd_model.specs.Code.{code}
use Rattle.dd_model.specs.Involutions.{HaveSameInvolutions}
use Rattle.dd_model.specs.Wanted.{AtMost, IsMember}
use Rattle.dd_canon.specs.Ties.{AreTies}
use Rattle.dd_branch_tables.specs.Table.{IsBareTable}
use Rattle.dd_front_jobs.specs.Under.{IsUnder}
use Rattle.dd_branch_degrees.specs.Budget.{no_place, spent}
use Rattle.dd_branch_degrees.specs.Choice.{IsChoice}
use Rattle.dd_branch_degrees.specs.Automorphism.{AreAutomorphisms}
use Rattle.dd_branch_degrees.specs.Place.{ArePlaces}
use Rattle.dd_branch_degrees.specs.LaterBudgets.{AreLaterBudgets}
use Rattle.dd_branch_degrees.specs.declared.later_budgets.LaterBudgets.{LaterBudgets}
use Rattle.dd_branch_degrees.specs.declared.places.DegreeSlot.{DegreeSlot}
use Rattle.dd_branch_degrees.specs.declared.ties.Ties.{Ties}

-- what is asked for, what is known of the table, the degrees that are told, and how many symbols the list had when the table came
pub record Assigned : Type 0 where
  pub request : Request
  pub table : Symbol
  pub ties : Ties
  pub places : ArrayVec DegreeSlot
  pub budgets : LaterBudgets
  pub degrees : ArrayVec ℕ
  pub first : ℕ

-- the degree at a place, those of the tiles coming first
abbrev pub degree_at : Symbol → ℕ → ℕ
degree_at s j = slice_index (s.m01 ++ s.m12) j

-- how many degrees are told
abbrev pub told : Assigned → ℕ
told a = length a.degrees.items

-- the images of the table, and the degrees that are told
abbrev pub prefix_of : Assigned → List ℕ
prefix_of a = take (3 * a.table.size) (code a.table) ++ a.degrees.items

-- a member that begins with a prefix
abbrev pub IsMemberUnder : Assigned → List ℕ → Symbol → Type 0
IsMemberUnder a prefix s = IsUnder (IsMember a.request) a.table.size prefix s

-- the assignment with no more than so many degrees
abbrev pub shortened : Assigned → ℕ → Assigned
shortened a mark = record a { degrees = record { items = take mark a.degrees.items } }

-- what the degrees that are told have of the budget
abbrev pub spent_by : Assigned → ℕ
spent_by a = spent a.places.items (λ j. slice_index a.degrees.items j) 0 (told a)

-- the place of the next degree
abbrev pub next_place : Assigned → DegreeSlot
next_place a = slice_index_or a.places.items (told a) no_place

-- a table of which no symbol has more chambers or classes than are asked for
pub record HasLimits (q : Request) (t : Symbol) : Type 0 where
  pub chambers : t.size ≤ q.chambers
  pub tiles : AtMost t Tile q.tiles
  pub vertices : AtMost t Vertex q.vertices

-- The degree at a place is that of the least chamber of the cell, and there it is a choice.
pub record IsTold (q : Request) (n : ℕ) (degrees : List ℕ) (j : ℕ) (x : DegreeSlot) : Type 0 where
  pub same : slice_index degrees j ≡ slice_index degrees x.root
  pub tile : x.root ≡ j → j < n → IsChoice q.faces x.turns (slice_index degrees j)
  pub vertex : x.root ≡ j → n ≤ j → IsChoice q.degrees x.turns (slice_index degrees j)

-- Each degree that is told may stand at its place.
pub record IsAssignment (a : Assigned) : Type 0 where
  pub table : IsBareTable a.table
  pub limits : HasLimits a.request a.table
  pub ties : AreTies a.table a.ties.starts.items
  pub automorphisms : IfSome a.ties.automorphisms (λ all. AreAutomorphisms a.table a.ties.starts.items all.items)
  pub places : ArePlaces a.request a.table a.places.items
  pub budgets : AreLaterBudgets a.places.items a.budgets
  pub short : told a ≤ 2 * a.table.size
  pub each : (j : ℕ) (x : DegreeSlot) → j < told a → IsTold a.request a.table.size a.degrees.items j (slice_index_or a.places.items j x)

-- A list that is longer than it was when the table came ends with a symbol that has the table's involutions.
abbrev pub HasLast : Assigned → List Symbol → Type 0
HasLast a list = a.first < length list → (s : Symbol) → s ≡ slice_index_or list (length list - 1) s → HaveSameInvolutions a.table s

-- The next degree is that of the least chamber of a cell.
abbrev pub IsAtRoot : Assigned → Type 0
IsAtRoot a = told a < 2 * a.table.size → (next_place a).root ≡ told a
