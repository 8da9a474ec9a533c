-- Jobs whose numbers stand one after the other.
use Rattle.std.specs.Prelude.{ℕ, ◌+◌, List, [], ◌∷◌, take, drop}
use Rattle.dd_model.specs.declared.jobs.Job.{Job}
use Rattle.dd_front.specs.declared.opening.PackedJob.{PackedJob}

-- the jobs of these sizes, each with the next numbers, of which the counts say how many
abbrev pub unpacked : List PackedJob → List ℕ → List Job
unpacked [] numbers = []
unpacked (p ∷ ps) numbers = record { size = p.size; prefix = take p.count numbers } ∷ unpacked ps (drop p.count numbers)

-- how many numbers these are together
abbrev pub together : List PackedJob → ℕ
together [] = 0
together (p ∷ ps) = p.count + together ps
