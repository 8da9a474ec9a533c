-- The stem of a job that is split.
use Rattle.std.specs.Prelude.{◌≡◌}
use Rattle.dd_model.specs.declared.jobs.Job.{Job}
use Rattle.dd_branch_tables.specs.Stem.{IsStem, prefix_of, size_of}
use Rattle.dd_branch_tables.specs.declared.stem.Stem.{Stem}

-- a stem of the job's size and prefix
pub record IsStemOf (job : Job) (stem : Stem) : Type 0 where
  pub is : IsStem stem
  pub size : size_of stem ≡ job.size
  pub prefix : prefix_of stem ≡ job.prefix
