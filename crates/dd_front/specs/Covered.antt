-- What a run of a machine has emitted, and what it still has to emit.
use Rattle.std.specs.Prelude.{◌≡◌, ◌↔◌, ◌+◌, List, length}
use Rattle.std.specs.List.{Contains}
use Rattle.dd_model.specs.Symbol.{Symbol}
use Rattle.dd_model.specs.Position.{IsBefore}
use Rattle.dd_model.specs.Wanted.{IsAscending}
use Rattle.dd_model.specs.Joined.{IsUnderOne}
use Rattle.dd_model.specs.declared.requests.Request.{Request}
use Rattle.dd_model.specs.declared.jobs.Job.{Job}
use Rattle.dd_model.specs.declared.jobs.Position.{Position}
use Rattle.dd_front.specs.Machine.{Machine, StandsAt, jobs_of}

-- a member under one of the jobs that is not before a position
pub record IsLater (q : Request) (jobs : List Job) (at : Position) (s : Symbol) : Type 0 where
  pub under : IsUnderOne q jobs s
  pub later : ¬ IsBefore at s

-- such a member that is before another position
pub record IsBetween (q : Request) (jobs : List Job) (at end : Position) (s : Symbol) : Type 0 where
  pub from : IsLater q jobs at s
  pub before : IsBefore end s

-- After a run from an opening at a position: the symbols emitted are the opening's members from that position to where the
-- machine stands, ascending, each with its line. What the entries have from `from` on is what the opening has from there on.
pub record IsCovered (q : Request) (opening : List Job) (at : Position) (f : Machine) (out : List Symbol) : Type 0 where
  pub stands : Position
  pub stands_at : StandsAt f.from f.entries stands
  pub ascending : IsAscending out
  pub emitted : (s : Symbol) → Contains out s ↔ IsBetween q opening at stands s
  pub left : (s : Symbol) → IsLater q (jobs_of f.entries) f.from s ↔ IsLater q opening stands s
  pub lines : f.lines ≡ f.opened + length out
