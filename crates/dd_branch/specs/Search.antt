-- What a search keeps from one job to the next.
use Rattle.std.specs.Prelude.{◌≡◌, Box}
use Rattle.std.specs.Global.{Global}
use Rattle.std.specs.declared.option.Option.{Option}
use Rattle.std.specs.declared.option.Option.TheVariants.{None, Some}
use Rattle.dd_model.specs.declared.requests.Request.{Request}
use Rattle.dd_model.specs.declared.jobs.Job.{Job}
use Rattle.dd_model.specs.Wanted.{IsMember}
use Rattle.dd_front_jobs.specs.Under.{HasNothingUnder}
use Rattle.dd_branch_bounds.specs.declared.path_shares.PathShares.{PathShares}
use Rattle.dd_branch.specs.Descent.{Descending}

-- The way down that was kept, if there is one, is for the request.
abbrev pub IsKept : Request → Option (Box Descending Global) → Type 0
IsKept q None = Unit {0}
IsKept q (Some kept) = kept.value.request ≡ q

-- the shares that a request allows, and a way down for it
pub record HasKept (q : Request) (classes : PathShares) (kept : Option (Box Descending Global)) : Type 0 where
  pub same_request : classes.request ≡ q
  pub kept_request : IsKept q kept

-- No member is under the prefix that was kept, if there is one.
abbrev pub IsDead : Request → Option Job → Type 0
IsDead q None = Unit {0}
IsDead q (Some dead) = HasNothingUnder (IsMember q) dead.size dead.prefix
