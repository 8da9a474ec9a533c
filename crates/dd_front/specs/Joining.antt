-- Entries that a round brings back, by the jobs that they come from.
use Rattle.std.specs.Prelude.{◌≡◌, ◌≢◌, List, [], ◌∷◌, ◌++◌, length, take}
use Rattle.std.specs.List.{AllByRecursion}
use Rattle.dd_model.specs.Symbol.{Symbol}
use Rattle.dd_model.specs.declared.jobs.Job.{Job}
use Rattle.dd_front.specs.declared.entry.Entry.{Entry}
use Rattle.dd_front.specs.declared.entry.State.{State}
use Rattle.dd_front.specs.declared.entry.State.TheVariants.{Open, Out, Done}
use Rattle.dd_front.specs.Machine.{entry_of}
use Rattle.dd_front.specs.Absorbed.{Extends, found_by}

-- the entry is done
abbrev pub IsDone : State → Type 0
IsDone Open = ⊥
IsDone Out = ⊥
IsDone (Done list) = Unit {0}

-- The first of these entries, at least one, come from a job, and no other does.
pub record IsBlock (job : Job) (own rest es : List Entry) : Type 0 where
  pub parts : es ≡ own ++ rest
  pub some : own ≢ []
  pub come : AllByRecursion (λ e. Extends e.job job) own
  pub others : AllByRecursion (λ e. ¬ Extends e.job job) rest

-- entries that come from these jobs in turn
abbrev pub AreBlocks : List Job → List Entry → Type 0
AreBlocks [] es = es ≡ []
AreBlocks (job ∷ jobs) es = (own : List Entry) × (rest : List Entry) × IsBlock job own rest es × AreBlocks jobs rest

-- one list for each job: what the entries have that come from it
abbrev pub AreJoined : List Job → List Entry → List (List Symbol) → Type 0
AreJoined [] es [] = es ≡ []
AreJoined [] es (list ∷ lists) = ⊥
AreJoined (job ∷ jobs) es [] = ⊥
AreJoined (job ∷ jobs) es (list ∷ lists) = (own : List Entry) × (rest : List Entry) × (es ≡ own ++ rest)
    × AllByRecursion (λ e. Extends e.job job) own × (list ≡ found_by own) × AreJoined jobs rest lists

-- the first entries are done with these lists
abbrev pub done_with : List (List Symbol) → List Entry → List Entry
done_with [] es = es
done_with (list ∷ lists) [] = []
done_with (list ∷ lists) (e ∷ es) = entry_of e.number e.job (Done list) ∷ done_with lists es

-- so many of the first entries as there are lists, done with these
abbrev pub done_first : List (List Symbol) → List Entry → List Entry
done_first lists es = done_with lists (take (length lists) es)
