-- Jobs under each of which all members of a size are.
use Rattle.std.specs.Prelude.{ℕ, zero, suc, List, [], ◌∷◌, ◌++◌}
use Rattle.dd_model.specs.declared.jobs.Job.{Job}

-- a job for each size up to a number of chambers, with an empty prefix
abbrev pub sizes_up_to : ℕ → List Job
sizes_up_to zero = []
sizes_up_to (suc n) = sizes_up_to n ++ record { size = suc n; prefix = [] } ∷ []
