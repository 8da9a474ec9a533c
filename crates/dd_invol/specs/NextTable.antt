-- The next table of a walk, as a search comes to it: jobs of stems, and what comes after some numbers.
use Rattle.std.specs.Prelude.{◌≡◌, ℕ, List}
use Rattle.dd_model.specs.Symbol.{Symbol}
use Rattle.dd_model.specs.Code.{all_images}
use Rattle.dd_model.specs.declared.requests.Request.{Request}
use Rattle.dd_model.specs.declared.jobs.Job.{Job}
use Rattle.dd_branch_tables.specs.Stem.{prefix_of, size_of}
use Rattle.dd_branch_tables.specs.Table.{IsTableOf}
use Rattle.dd_branch_tables.specs.Walk.{IsSought, IsNext}
use Rattle.dd_branch_tables.specs.declared.stem.Stem.{Stem}

-- the images of the first of the listed tables past some numbers
pub record IsAhead (q : Request) (job : Job) (numbers images : List ℕ) : Type 0 where
  pub table : Symbol
  pub next : IsNext q job numbers table
  pub images_are : all_images table ≡ images

-- the table of a whole prefix is sought
pub record HasSought (q : Request) (job : Job) : Type 0 where
  pub table : Symbol
  pub of : IsTableOf job.size job.prefix table
  pub sought : IsSought q table

-- the job of a stem
abbrev pub here : Stem → Job
here stem = record { size = size_of stem; prefix = prefix_of stem }

-- the table of a whole prefix is sought, and these are its images
pub record IsSoughtAt (q : Request) (job : Job) (images : List ℕ) : Type 0 where
  pub has : HasSought q job
  pub images_are : images ≡ job.prefix
