-- A desk whose entries are all done has what is under the jobs of its round.
use Rattle.std.proofs.Common.{◌≡◌, ⊎_elim, List, [], ◌∷◌, refl, sym, subst}
use Rattle.std.specs.List.{AllByRecursion}
use Rattle.dd_model.specs.Symbol.{Symbol}
use Rattle.dd_model.specs.Jobs.{AreAscendingJobs, AreApart, IsMemberUnder, AreMembersUnder}
use Rattle.dd_model.specs.Joined.{IsUnderOne}
use Rattle.dd_model.specs.Position.{IsBefore}
use Rattle.dd_model.specs.declared.requests.Request.{Request}
use Rattle.dd_model.specs.declared.jobs.Job.{Job}
use Rattle.dd_model.proofs.JoinedLists.{first_parts}
use Rattle.dd_model.proofs.Lists.{Contains-none, Contains-cases, Contains-map, each_of, all_from_members}
use Rattle.dd_model.proofs.Positions.{under_not_before, before_later}
use Rattle.dd_front.specs.declared.entry.Entry.{Entry}
use Rattle.dd_front.specs.declared.entry.State.{State}
use Rattle.dd_front.specs.declared.entry.State.TheVariants.{Open, Out, Done}
use Rattle.dd_front.specs.declared.event.Event.{Event}
use Rattle.dd_front.specs.Absorbed.{IsFound, ComeFrom}
use Rattle.dd_front.specs.Joining.{IsDone}
use Rattle.dd_front.specs.Machine.{Machine}
use Rattle.dd_front.proofs.Standing.{under_extended}
use Rattle.dd_board.specs.Desk.{IsDesk, first_place}
use Rattle.dd_board.proofs.Desks.{desk_held}
use Rattle.dd_steal.specs.Sweep.{AreDone}
use Rattle.dd_steal.proofs.InTurn.{found_under}
use Rattle.dd_steal.proofs.Parts.{desk_parts}

-- no member under a round's jobs comes before its first job
not_before_first : (q : Request) (jobs : List Job) (s : Symbol) → AreAscendingJobs jobs → AreApart jobs → IsUnderOne q jobs s → ¬ IsBefore (first_place jobs) s
not_before_first q [] s ascending apart under before = absurd (Contains-none under.job under.listed)
not_before_first q (job ∷ jobs) s ascending apart under before =
    ⊎_elim
    (λ first. under_not_before q job s (subst (λ j. IsMemberUnder q j s) (sym first) under.under) before)
    (λ later. under_not_before q under.job s under.under (before_later job under.job s (first_parts job under.job jobs ascending apart later) before))
    (Contains-cases job under.job jobs under.listed)

done_found : (q : Request) (e : Entry) → IsDone e.state → ((list : List Symbol) → e.state ≡ Done list → AreMembersUnder q e.job list) → IsFound q e
done_found q e done under = go e.state refl done
  where
    go : (state : State) → e.state ≡ state → IsDone state → IsFound q e
    go Open is never = absurd never
    go Out is never = absurd never
    go (Done list) is done' = record { list = list; done = is; under = under list is }

pub desk_done : (q : Request) (jobs : List Job) (f : Machine) (log : List Event) → IsDesk q jobs f log → AreDone f.entries → ComeFrom q jobs f.entries
desk_done q jobs f log desk done =
    let held = desk_held q jobs f log desk in
    let es = f.entries in
    let found : AllByRecursion (IsFound q) es = all_from_members (IsFound q) es (λ e there. done_found q e (each_of (λ (d : Entry). IsDone d.state) es e done there) (held.found e there)) in
    let ascending = held.go_on.ascending_jobs in
    let apart = held.go_on.apart in
    let own = found_under q es ascending apart found in
    record {
      found = found;
      ascending = ascending;
      apart = apart;
      extend = λ e there. held.go_on.extend e.job (Contains-map (λ (x : Entry). x.job) es e there);
      each = λ job there. let part = desk_parts q jobs f log desk job there in (part.entry, part.listed, part.extends);
      all = record {
        ascending = own.ascending;
        members = λ s. (
          (λ there.
              let under = (own.members s).0 there in
              let whole = held.go_on.extend under.job under.listed in
              record { job = whole.0; listed = whole.1; under = under_extended q under.job whole.0 s whole.2 under.under }),
          (λ under. (own.members s).1 (⊎_elim
              (λ out. absurd (Contains-none s out))
              (λ left. left.under)
              (held.go_on.complete s (record { under = under; later = not_before_first q jobs s held.ascending held.apart under })))),
        );
      };
    }
