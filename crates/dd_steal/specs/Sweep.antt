-- What a sweep does to a desk.
use Rattle.std.specs.Prelude.{◌≡◌, ℕ, ◌+◌, List, [], ◌∷◌, ◌++◌}
use Rattle.std.specs.List.{AllByRecursion}
use Rattle.dd_front.specs.declared.entry.Entry.{Entry}
use Rattle.dd_front.specs.declared.entry.State.{State}
use Rattle.dd_front.specs.declared.entry.State.TheVariants.{Open, Out, Done}
use Rattle.dd_front.specs.declared.event.Event.{Event}
use Rattle.dd_front.specs.declared.event.Event.TheVariants.{Take, Look, Split, Finish, Back, Emit, Part, Save, Resume}
use Rattle.dd_front.specs.Joining.{IsDone}

-- each entry is done
abbrev pub AreDone : List Entry → Type 0
AreDone es = AllByRecursion (λ e. IsDone e.state) es

-- no entry is out
abbrev pub IsNoneOut : List Entry → Type 0
IsNoneOut es = AllByRecursion (λ e. e.state ≡ Out → ⊥) es

-- what the calling thread books, as worker 1
abbrev pub IsSweep : Event → Type 0
IsSweep (Take worker k) = worker ≡ 1
IsSweep (Look worker) = worker ≡ 1
IsSweep (Finish worker k list) = worker ≡ 1
IsSweep (Back worker k) = worker ≡ 1
IsSweep (Split worker k jobs) = ⊥
IsSweep Emit = ⊥
IsSweep (Part count) = ⊥
IsSweep Save = ⊥
IsSweep Resume = ⊥

-- nothing else has been put to the log
pub record IsSwept (old new : List Event) : Type 0 where
  pub more : List Event
  pub log : new ≡ old ++ more
  pub are : AllByRecursion IsSweep more

-- how many entries are in a state that counts
abbrev pub counted : (State → ℕ) → List Entry → ℕ
counted weight [] = 0
counted weight (e ∷ es) = weight e.state + counted weight es

-- open entries count
abbrev pub if_open : State → ℕ
if_open Open = 1
if_open Out = 0
if_open (Done list) = 0

-- entries that are out count
abbrev pub if_out : State → ℕ
if_out Open = 0
if_out Out = 1
if_out (Done list) = 0
