-- A walk over tables, one after another.
use Rattle.std.specs.Prelude.{◌≡◌, ◌≢◌, ◌⊎◌, ◌↔◌, ℕ, List, []}
use Rattle.std.specs.List.{Contains}
use Rattle.std.specs.Ordering.{nat_cmp}
use Rattle.std.specs.Cmp.Lexicographic.{slice_cmp}
use Rattle.std.specs.declared.cmp.Ordering.TheVariants.{Less, Greater}
use Rattle.dd_model.specs.declared.pair.Pair.TheVariants.{Tile, Vertex}
use Rattle.dd_model.specs.Symbol.{Symbol, IsSymbol}
use Rattle.dd_model.specs.Connected.{Connected}
use Rattle.dd_model.specs.Lists.{Begins}
use Rattle.dd_model.specs.Code.{code, code_cmp, all_images}
use Rattle.dd_model.specs.FirstVisit.{LeastTable}
use Rattle.dd_model.specs.Request.{IsValid}
use Rattle.dd_model.specs.Jobs.{IsJobOf}
use Rattle.dd_model.specs.Wanted.{AtMost, IsAscending}
use Rattle.dd_model.specs.declared.requests.Request.{Request}
use Rattle.dd_model.specs.declared.jobs.Job.{Job}
use Rattle.dd_branch_tables.specs.Table.{IsUnbranched}
use Rattle.dd_model.specs.Involutions.{HaveSameInvolutions}

-- what a request asks of a table: that no renumbering is smaller, and that it has no more tiles and vertices than asked for
pub record IsSought (q : Request) (t : Symbol) : Type 0 where
  pub least : LeastTable t
  pub tiles : AtMost t Tile q.tiles
  pub vertices : AtMost t Vertex q.vertices

-- A table that is sought under a job. Its degrees are those with which each branching value is 1.
pub record IsListed (q : Request) (job : Job) (t : Symbol) : Type 0 where
  pub symbol : IsSymbol t
  pub connected : Connected t
  pub unbranched : IsUnbranched t
  pub sought : IsSought q t
  pub size : t.size ≡ job.size
  pub begins : Begins job.prefix (code t)

-- the images of the table come after some numbers, as in a dictionary
abbrev pub IsPast : List ℕ → Symbol → Type 0
IsPast numbers t = slice_cmp nat_cmp numbers (all_images t) ≡ Less

-- of the listed tables past some numbers the first
pub record IsNext (q : Request) (job : Job) (numbers : List ℕ) (t : Symbol) : Type 0 where
  pub listed : IsListed q job t
  pub past : IsPast numbers t
  pub first : (s : Symbol) → IsListed q job s → IsPast numbers s → code_cmp t s ≢ Greater

-- no listed table is past some numbers
abbrev pub HasNoneLeft : Request → Job → List ℕ → Type 0
HasNoneLeft q job numbers = (s : Symbol) → IsListed q job s → IsPast numbers s → ⊥

-- the listed tables, ascending
pub record AreListed (q : Request) (job : Job) (ts : List Symbol) : Type 0 where
  pub ascending : IsAscending ts
  pub members : (t : Symbol) → Contains ts t ↔ IsListed q job t

-- a listed table with the involutions of a symbol
pub record HasTable (q : Request) (job : Job) (s : Symbol) : Type 0 where
  pub table : Symbol
  pub listed : IsListed q job table
  pub same : HaveSameInvolutions s table

-- What a walk goes over, and the images of the table where it stands: no numbers before the first one.
pub record Walking : Type 0 where
  pub request : Request
  pub job : Job
  pub last : List ℕ

-- the walk stands at a listed table, whose images are the last ones
pub record StandsAt (w : Walking) (t : Symbol) : Type 0 where
  pub listed : IsListed w.request w.job t
  pub images : all_images t ≡ w.last

-- the walk after it came to a table
abbrev pub after : Walking → Symbol → Walking
after w t = record { request = w.request; job = w.job; last = all_images t }

-- the walk has come to the first listed table past where it stood
pub record HasAdvanced (old new : Walking) : Type 0 where
  pub table : Symbol
  pub next : IsNext old.request old.job old.last table
  pub moved : new ≡ after old table

-- there is a listed table with these images
pub record IsReached (q : Request) (job : Job) (images : List ℕ) : Type 0 where
  pub table : Symbol
  pub listed : IsListed q job table
  pub images_are : all_images table ≡ images

-- a request, a job of it, and no images or those of a listed table
pub record IsWalk (q : Request) (job : Job) (last : List ℕ) : Type 0 where
  pub valid : IsValid q
  pub job_of : IsJobOf q job
  pub stands : (last ≡ []) ⊎ IsReached q job last
