-- A catalogue on its way through rounds.
use Rattle.std.specs.Prelude.{◌≡◌, ◌⊎◌, ℕ, ◌≤◌, List, [], ◌∷◌}
use Rattle.std.specs.List.{AllByRecursion}
use Rattle.dd_model.specs.Lists.{IsWithout}
use Rattle.dd_model.specs.Position.{IsWhollyBefore}
use Rattle.dd_model.specs.declared.jobs.Job.{Job}
use Rattle.dd_model.specs.declared.jobs.Position.{Position}
use Rattle.dd_front.specs.declared.entry.Entry.{Entry}
use Rattle.dd_front.specs.declared.entry.State.TheVariants.{Open}
use Rattle.dd_front.specs.Absorbed.{MayAbsorb, Absorbs}
use Rattle.dd_front.specs.Joining.{IsDone}
use Rattle.dd_front.specs.Machine.{Machine}
use Rattle.dd_front_jobs.specs.declared.portions.Portion.{Portion}
use Rattle.dd_front_jobs.specs.Portions.{IsPortionOpening}

-- the jobs of a portion that are not wholly before a position
pub record AreJobsFrom (p : Portion) (at : Position) (jobs : List Job) : Type 0 where
  pub opening : List Job
  pub is_opening : IsPortionOpening p opening
  pub left : IsWithout (IsWhollyBefore at) opening jobs

-- each entry is open
abbrev pub AreOpen : List Entry → Type 0
AreOpen es = AllByRecursion (λ e. e.state ≡ Open) es

-- some entries are done, and all after these are open
abbrev pub AreDoneThenOpen : List Entry → Type 0
AreDoneThenOpen [] = Unit {0}
AreDoneThenOpen (e ∷ es) = (IsDone e.state × AreDoneThenOpen es) ⊎ AreOpen (e ∷ es)

-- The first entries, at least one and at most so many, are done with what a round brought back.
pub record IsRoundDone (most : ℕ) (f g : Machine) : Type 0 where
  pub count : ℕ
  pub some : 1 ≤ count
  pub few : count ≤ most
  pub found : List Entry
  pub may : MayAbsorb f count found
  pub absorbs : Absorbs f count found g

-- no entry is left
pub record IsAtEnd (f g : Machine) : Type 0 where
  pub none : f.entries ≡ []
  pub same : g ≡ f
