-- What a front emits from the opening of a request are the first members of the catalogue.
use Rattle.std.proofs.Common.{List, inl, inr, ⊎_elim}
use Rattle.dd_model.specs.Symbol.{Symbol}
use Rattle.dd_model.specs.Code.{IsBelow}
use Rattle.dd_model.specs.Text.{beginning}
use Rattle.dd_model.specs.Wanted.{IsMember}
use Rattle.dd_model.specs.Joined.{AreFirstMembers, IsUnderOne}
use Rattle.dd_model.specs.declared.jobs.Job.{Job}
use Rattle.dd_model.specs.declared.requests.Request.{Request}
use Rattle.dd_model.proofs.Lists.{all_from_members}
use Rattle.dd_model.proofs.Positions.{before_or_not, below_over}
use Rattle.dd_model.proofs.Texts.{nothing_before}
use Rattle.dd_front_jobs.specs.Opening.{IsOpening}
use Rattle.dd_front_jobs.proofs.OpeningLaws.{covered}
use Rattle.dd_front.specs.Machine.{Machine}
use Rattle.dd_front.specs.Covered.{IsLater, IsCovered}

-- a member is under a job of the opening
under_the_opening : (q : Request) (jobs : List Job) → IsOpening q jobs → (s : Symbol) → IsMember q s → IsUnderOne q jobs s
under_the_opening q jobs opening s member =
    let w = member.wanted in
    let by = covered q s w.symbol w.connected member.least w.chambers in
    record { job = by.job; listed = (opening.members by.job).1 by.opening; under = record { member = member; size = by.size; begins = by.begins } }

-- nothing is before the beginning
from_the_beginning : (q : Request) (jobs : List Job) → IsOpening q jobs → (s : Symbol) → IsMember q s → IsLater q jobs beginning s
from_the_beginning q jobs opening s member = record { under = under_the_opening q jobs opening s member; later = nothing_before s member.wanted.symbol }

pub covered_first : (q : Request) (jobs : List Job) (f : Machine) (out : List Symbol) → IsOpening q jobs → IsCovered q jobs beginning f out → AreFirstMembers q out
covered_first q jobs f out opening is = record {
  ascending = is.ascending;
  members = λ s there. ((is.emitted s).0 there).from.under.under.member;
  first = λ s member. ⊎_elim
      (λ before. inl ((is.emitted s).1 (record { from = from_the_beginning q jobs opening s member; before = before })))
      (λ after. inr (all_from_members (λ m. IsBelow m s) out (λ m there.
      let one = (is.emitted m).0 there in
      below_over is.stands m s one.from.under.under.member.wanted.symbol.table member.wanted.symbol.table one.before after)))
      (before_or_not is.stands s);
}
