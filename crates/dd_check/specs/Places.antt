-- At which positions a catalogue may stop.
use Rattle.std.specs.Prelude.{◌≡◌, ◌⊎◌, ◌*◌, min, length, take}
use Rattle.dd_model.specs.declared.jobs.Job.{Job}
use Rattle.dd_model.specs.declared.jobs.Position.{Position}
use Rattle.dd_model.specs.declared.jobs.Position.TheVariants.{At, End}
use Rattle.dd_model.specs.declared.requests.Request.{Request}
use Rattle.dd_front_jobs.specs.Opening.{IsOpeningJob}

-- the end, or a job of the request's opening
abbrev pub IsOldPlace : Request → Position → Type 0
IsOldPlace q End = Unit {0}
IsOldPlace q (At job) = IsOpeningJob q job

-- the numbers of a job's size that an opening asks for
abbrev pub opening_job : Job → Job
opening_job job = record { size = job.size; prefix = take (min (3 * job.size) 9) job.prefix }

-- as many numbers as a whole code has, of which the first ones are a job of the opening
pub record IsWholePlace (q : Request) (job : Job) : Type 0 where
  pub whole : length job.prefix ≡ 5 * job.size
  pub begins : IsOpeningJob q (opening_job job)

-- the end, a job of the request's opening, or a size and as many numbers as a whole code has
abbrev pub IsPlace : Request → Position → Type 0
IsPlace q End = Unit {0}
IsPlace q (At job) = IsOpeningJob q job ⊎ IsWholePlace q job
