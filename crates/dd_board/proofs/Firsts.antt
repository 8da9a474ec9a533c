-- The first entry that is open.
use Rattle.std.proofs.Common.{◌≢◌, ◌≤◌, ℕ, List, ◌∷◌, Option, Some, None, MatchOption, IfSome, sym, ap, subst}
use Rattle.std.proofs.lemmas.List.Elements.{Contains-append_right}
use Rattle.std.specs.List.{AllByRecursion, Contains}
use Rattle.dd_model.specs.Jobs.{IsJobOf}
use Rattle.dd_model.specs.declared.requests.Request.{Request}
use Rattle.dd_model.proofs.Lists.{each_of, Contains-head}
use Rattle.dd_front.specs.declared.entry.Entry.{Entry}
use Rattle.dd_front.specs.declared.entry.State.TheVariants.{Open}
use Rattle.dd_front.specs.declared.event.Event.TheVariants.{Take, Look}
use Rattle.dd_front.specs.Machine.{Machine, entry_of}
use Rattle.dd_front.specs.Allowed.{IsAllowed}
use Rattle.dd_front.specs.Rounds.{IsFirstOpen}
use Rattle.dd_front.specs.Numbers.{AreNumbered}
use Rattle.dd_front.proofs.Entries.{range_of}
use Rattle.dd_board.specs.Desk.{HaveJobsOf}

first_stands : (es : List Entry) (e : Entry) → IsFirstOpen es e → Contains es e
first_stands es e first = subst (λ ds. Contains ds e) (sym first.parts) (Contains-append_right first.before (e ∷ first.after) e (Contains-head e first.after))

-- it is open
pub first_parts : (es : List Entry) (e : Entry) → IsFirstOpen es e → IsFirstOpen es (entry_of e.number e.job Open)
first_parts es e first = subst (IsFirstOpen es) (ap (λ s. entry_of e.number e.job s) first.waits) first

-- it may be taken
pub may_take : (f : Machine) (worker : ℕ) (e : Entry) → IsFirstOpen f.entries e → IsAllowed f (Take worker e.number)
may_take f worker e first = record { job = e.job; stands = first_stands f.entries (entry_of e.number e.job Open) (first_parts f.entries e first) }

-- where none is open a look may be booked
pub may_look : (f : Machine) (worker : ℕ) → AllByRecursion (λ e. e.state ≢ Open) f.entries → IsAllowed f (Look worker)
may_look f worker none e there = each_of (λ (d : Entry). d.state ≢ Open) f.entries e none there

first_of : (q : Request) (es : List Entry) (e : Entry) → HaveJobsOf q es → IsFirstOpen es e → IsJobOf q e.job
first_of q es e all first = each_of (λ (d : Entry). IsJobOf q d.job) es e all (first_stands es e first)

-- its job is one of the request
pub found_of : {A : Type 0} (q : Request) (entry : A → Entry) (es : List Entry) (found : Option A) → HaveJobsOf q es
    → MatchOption found (AllByRecursion (λ e. e.state ≢ Open) es) (λ a. IsFirstOpen es (entry a)) → IfSome found (λ a. IsJobOf q (entry a).job)
found_of q entry es None all none = tt
found_of q entry es (Some a) all first = first_of q es (entry a) all first

-- its number is positive
pub found_numbered : {A : Type 0} (next : ℕ) (entry : A → Entry) (es : List Entry) (found : Option A) → AreNumbered next es
    → MatchOption found (AllByRecursion (λ e. e.state ≢ Open) es) (λ a. IsFirstOpen es (entry a)) → IfSome found (λ a. 1 ≤ (entry a).number)
found_numbered next entry es None numbered none = tt
found_numbered next entry es (Some a) numbered first = (range_of next es numbered (entry a) (first_stands es (entry a) first)).0
