-- The writing of a catalogue, round by round.
use Rattle.std.proofs.Common.{◌≡◌, ℕ, Bool, true, false, ◌+◌, ◌<◌, ◌≤◌, ◌^◌, List, [], ◌∷◌, ◌++◌, Option, Some, None, MatchOption, length, length-append, take, drop, inl, inr, ⊎_elim, refl, sym, ap, ◌∙◌, subst, arith, append_assoc}
use Rattle.std.proofs.lemmas.Bool.{cases_lt}
use Rattle.std.proofs.lemmas.List.{append-nil}
use Rattle.std.proofs.lemmas.List.Elements.{Contains-append_cases, Contains-append_left, Contains-append_right}
use Rattle.std.specs.Io.KnownBytes.{Appends}
use Rattle.std.specs.List.{AllByRecursion, Contains}
use Rattle.std.specs.Bool.{OnTrue, OnFalse}
use Rattle.std.specs.Option.{is_some}
use Rattle.dd_model.specs.Request.{IsValid}
use Rattle.dd_model.specs.Symbol.{Symbol}
use Rattle.dd_model.specs.Code.{code}
use Rattle.dd_model.specs.Joined.{IsPartBelow}
use Rattle.dd_model.specs.Position.{IsBefore, IsWhollyBefore}
use Rattle.dd_model.specs.Jobs.{IsMemberUnder, IsJobOf}
use Rattle.dd_model.specs.declared.requests.Request.{Request}
use Rattle.dd_model.specs.declared.jobs.Job.{Job}
use Rattle.dd_model.specs.declared.jobs.Position.{Position}
use Rattle.dd_model.proofs.Lists.{Contains-none, Contains-head, Contains-later, Contains-cases, all_from_members, each_of}
use Rattle.dd_model.proofs.Differing.{smaller_apart}
use Rattle.dd_model.proofs.Pairs.{ArePairs, part_pairs}
use Rattle.dd_model.proofs.Positions.{begun_before}
use Rattle.dd_model.proofs.Without.{without_there}
use Rattle.dd_front.specs.declared.entry.Entry.{Entry}
use Rattle.dd_front.specs.declared.entry.State.{State}
use Rattle.dd_front.specs.declared.entry.State.TheVariants.{Open, Out, Done}
use Rattle.dd_front.specs.declared.event.Event.TheVariants.{Emit, Part}
use Rattle.dd_front.specs.Allowed.{HasFirst, MayPart}
use Rattle.dd_front.specs.Held.{IsHeld}
use Rattle.dd_front.specs.Joining.{IsDone}
use Rattle.dd_front.specs.Machine.{Machine, StandsAt, entry_of, open_entries, jobs_of}
use Rattle.dd_front.specs.Room.{HasRoom}
use Rattle.dd_front.specs.Rounds.{open_jobs}
use Rattle.dd_front.specs.Step.{Emits, EmitsPart, at_symbol}
use Rattle.dd_front.proofs.Absorbing.{held_absorbed, all_back}
use Rattle.dd_front.proofs.Entries.{jobs_opened}
use Rattle.dd_front.proofs.Events.{held_next}
use Rattle.dd_front.proofs.Holding.{held_first}
use Rattle.dd_front.proofs.Standing.{under_extended}
use Rattle.dd_board.specs.Desk.{AreJobsOf}
use Rattle.dd_check.specs.ChainStarts.{Start}
use Rattle.dd_pages_and_checkpoints.specs.Pages.{IsEmpty, AddsAll, KeepsLines, WritesFront, WritesFrontOf}
use Rattle.dd_pages_and_checkpoints.specs.Rounds.{AreOpen, AreDoneThenOpen, IsRoundDone}
use Rattle.dd_catalogue_rounds.specs.Works.{IsPartOfOne, IsBegun}
use Rattle.dd_catalogue_rounds.specs.Splits.{IsReady, IsSplit}
use Rattle.dd_catalogue_rounds.specs.Ways.{Way, AreRecent, AreOfRound, HasEmitted, EmitsMore, IsUnderWay, IsFull, GoesOn, FillsUp}
use Rattle.dd_catalogue_rounds.specs.Outs.{IsPartOut, IsAny, WritesPart}
use Rattle.dd_pages_and_checkpoints.specs.declared.pages.Page.{Page}
use Rattle.dd_catalogue_rounds.proofs.Working.{children_jobs}
use Rattle.dd_pages_and_checkpoints.proofs.PageLemmas.{front_kept}
use Rattle.dd_catalogue_rounds.proofs.RoundEntries.{open_all, opened_open, opens_back, open_behind, round_jobs, round_entries, done_in_round}

pub appends_nothing : (old : Option (List ℕ)) → Appends old old []
appends_nothing None = tt
appends_nothing (Some xs) = sym (append-nil xs)

never_open : (state : State) → state ≡ Open → IsDone state → ⊥
never_open Open is none = none
never_open Out is none = none
never_open (Done list) is done = cc

-- where all entries are open, none is done
pub none_done : (w : Way) (es : List Entry) → AreOpen es → AreOfRound w es
none_done w [] opens e there done = absurd (Contains-none e there)
none_done w (d ∷ ds) opens e there done =
    ⊎_elim
    (λ same. absurd (never_open e.state (subst (λ (x : Entry). x.state ≡ Open) same opens.0) done))
    (λ later. none_done w ds opens.1 e later done)
    (Contains-cases d e ds there)

pub begun_open : (s : Start) (f : Machine) → IsBegun s f → AreOpen f.entries
begun_open s f begun = subst AreOpen (sym begun.opened.entries) (opened_open 1 begun.jobs)

-- no job is done yet
abbrev pub way_first : (s : Start) (known : Option (List ℕ)) (page : Page) (f : Machine) (p : Position) (most : ℕ) (round : List Job) (begun : IsBegun s f) → IsEmpty page → page.count ≡ s.lines → page.collected.written ≡ 0
    → IsUnderWay (record { start = s; jobs = begun.jobs; base = []; known = known; from = s.at; since = p; ahead = begun.jobs; most = most; round = round }) known page f
way_first s known page f p most round begun empty count bytes =
    let o = begun.opened in
    let w : Way = record { start = s; jobs = begun.jobs; base = []; known = known; from = s.at; since = p; ahead = begun.jobs; most = most; round = round } in
    let listed : jobs_of f.entries ≡ begun.jobs = ap jobs_of o.entries ∙ jobs_opened 1 begun.jobs in
    record {
      members = [];
      emitted = record {
        work = begun.within;
        covers = begun.covers;
        opened = o.opened;
        stays = o.from;
        all = begun.within.all;
        gone = [];
        jobs_are = sym listed;
        entries_are = subst AreDoneThenOpen (sym o.entries) (open_all (open_entries 1 begun.jobs) (opened_open 1 begun.jobs));
        few = opens_back most f.entries (begun_open s f begun);
        held = held_first s.portion.request begun.jobs s.at s.lines f o;
        recent = λ m there. absurd (Contains-none m there);
        of_round = none_done w f.entries (begun_open s f begun);
      };
      lines = record { written = []; appended = appends_nothing known; made = []; parts = sym empty.waiting; lines = empty.collected; count = omega (arith, count); bytes = bytes };
    }

-- a round is done, of jobs that are parts of those of the way
pub way_round : (w : Way) (most : ℕ) (now : Option (List ℕ)) (page : Page) (f g : Machine) → IsRoundDone most f g → AreOpen f.entries → AreOpen (drop w.most g.entries)
    → ((c : Job) → Contains (take most (jobs_of f.entries)) c → IsPartOfOne w.round c) → IsUnderWay w now page f → IsUnderWay w now page g
way_round w most now page f g round opens few covered way =
    let been = way.emitted in
    let same = same_but_entries f g most round in
    record {
      members = way.members;
      emitted = record {
        work = been.work;
        covers = been.covers;
        opened = ap (λ (m : Machine). m.opened) same ∙ been.opened;
        stays = ap (λ (m : Machine). m.from) same ∙ been.stays;
        all = been.all;
        gone = been.gone;
        jobs_are = been.jobs_are ∙ ap (λ js. been.gone ++ js) (sym (round_jobs most f g round));
        entries_are = round_entries most f g round opens;
        few = few;
        held = held_absorbed w.start.portion.request w.jobs w.start.at f g way.members round.count round.found been.held round.may round.absorbs;
        recent = been.recent;
        of_round = λ e there done. covered e.job (done_in_round most f g round opens e there done);
      };
      lines = way.lines;
    }
  where
    same_but_entries : (f g : Machine) (most : ℕ) (round : IsRoundDone most f g) → g ≡ record f { entries = g.entries }
    same_but_entries f g most round = round.absorbs.after ∙ ap (λ es. record f { entries = es }) (sym (ap (λ (m : Machine). m.entries) round.absorbs.after))

-- the jobs of a run under way are jobs of its request
pub way_jobs : (w : Way) (now : Option (List ℕ)) (page : Page) (f : Machine) → IsUnderWay w now page f → AreJobsOf w.start.portion.request (jobs_of f.entries)
way_jobs w now page f way =
    all_back (IsJobOf w.start.portion.request) way.emitted.gone (jobs_of f.entries) (subst (AreJobsOf w.start.portion.request) way.emitted.jobs_are way.emitted.all)

-- it can do a round, where all its entries wait
pub way_ready : (q : Request) (w : Way) (now : Option (List ℕ)) (page : Page) (f : Machine) → w.start.portion.request ≡ q → IsUnderWay w now page f → AreOpen f.entries → IsValid q → IsReady q f
way_ready q w now page f same way opens valid =
    let held = way.emitted.held in
    record {
      valid = valid;
      request = held.request ∙ same;
      jobs = subst (λ r. AreJobsOf r (jobs_of f.entries)) same (way_jobs w now page f way);
      ascending = held.go_on.ascending_jobs;
      apart = held.go_on.apart;
      opens = opens;
      numbered = held.numbered;
    }

-- the first job is in parts now
pub way_split : (w : Way) (now : Option (List ℕ)) (page : Page) (f g : Machine) → IsSplit w.start.portion.request f g → AreOpen f.entries → IsUnderWay w now page f
    → IsUnderWay (record w { ahead = jobs_of g.entries }) now page g
way_split w now page f g split opens way =
    let been = way.emitted in
    let q = w.start.portion.request in
    let open_now : AreOpen g.entries = split.opens (subst AreOpen split.parts opens).1 in
    let old : AreJobsOf q (split.first.job ∷ jobs_of split.rest) = subst (λ es. AreJobsOf q (jobs_of es)) split.parts (way_jobs w now page f way) in
    record {
      members = way.members;
      emitted = record {
        work = been.work;
        covers = been.covers;
        opened = split.opened ∙ been.opened;
        stays = split.from ∙ been.stays;
        all = subst (AreJobsOf q) (sym split.jobs) (children_jobs q split.first.job split.children (jobs_of split.rest) split.are old);
        gone = [];
        jobs_are = refl;
        entries_are = open_all g.entries open_now;
        few = opens_back w.most g.entries open_now;
        held = split.holds w.jobs w.start.at way.members been.held;
        recent = been.recent;
        of_round = none_done (record w { ahead = jobs_of g.entries }) g.entries open_now;
      };
      lines = way.lines;
    }

pub first_done : (es rest : List Entry) (k : ℕ) (job : Job) (list : List Symbol) → es ≡ entry_of k job (Done list) ∷ rest → AreDoneThenOpen es → AreDoneThenOpen rest
first_done es rest k job list is are = ⊎_elim (λ done. done.1) (λ opens. absurd (not_open opens.0)) (subst AreDoneThenOpen is are)
  where
    not_open : Done list ≡ Open → ⊥
    not_open e = cc

-- what the first entry has is under a job of the round
module _ (w : Way) (f : Machine) (ss : List Symbol) (been : HasEmitted w f ss) (list : List Symbol) (first : HasFirst f list) where
  entry_there : Contains f.entries (entry_of first.number first.job (Done list))
  entry_there = subst (λ es. Contains es (entry_of first.number first.job (Done list))) (sym first.entries) (Contains-head (entry_of first.number first.job (Done list)) first.rest)

  first_under : (s : Symbol) → Contains list s → IsMemberUnder w.start.portion.request first.job s
  first_under s there = ((been.held.found (entry_of first.number first.job (Done list)) entry_there list refl).members s).0 there

  recent_more : (emitted : List Symbol) → ((s : Symbol) → Contains emitted s → Contains list s) → AreRecent w (ss ++ emitted)
  recent_more emitted inside s there =
      ⊎_elim
      (λ old. been.recent s old)
      (λ new.
      let part = been.of_round (entry_of first.number first.job (Done list)) entry_there tt in
      inr (record { job = part.job; listed = part.listed; under = under_extended w.start.portion.request first.job part.job s part.extends (first_under s (inside s new)) }))
      (Contains-append_cases ss emitted s there)

-- the first entry is emitted
pub emits_first : (f g : Machine) (emitted : List Symbol) → Emits f g emitted → EmitsMore f g emitted
emits_first f g emitted emits w ss been =
    let first = emits.first in
    let rest : g.entries ≡ first.rest = ap (λ (m : Machine). m.entries) emits.after in
    let inside : (s : Symbol) → Contains emitted s → Contains emits.list s = λ s there. (without_there (IsBefore f.from) emits.list emitted s emits.not_before there).0 in
    let jobs : jobs_of f.entries ≡ first.job ∷ jobs_of g.entries = ap jobs_of first.entries ∙ ap (λ es. first.job ∷ jobs_of es) (sym rest) in
    record {
      work = been.work;
      covers = been.covers;
      opened = ap (λ (m : Machine). m.opened) emits.after ∙ been.opened;
      stays = ap (λ (m : Machine). m.from) emits.after ∙ been.stays;
      all = been.all;
      gone = been.gone ++ first.job ∷ [];
      jobs_are = been.jobs_are ∙ ap (λ js. been.gone ++ js) jobs ∙ sym (append_assoc been.gone (first.job ∷ []) (jobs_of g.entries));
      entries_are = subst AreDoneThenOpen (sym rest) (first_done f.entries first.rest first.number first.job emits.list first.entries been.entries_are);
      few = subst (λ es. AreOpen (drop w.most es)) (sym rest) (open_behind w.most (entry_of first.number first.job (Done emits.list)) first.rest (subst (λ es. AreOpen (drop w.most es)) first.entries been.few));
      held = held_next w.start.portion.request w.jobs w.start.at f g ss emitted Emit been.held (record { allowed = (emits.list, first); step = emits });
      recent = recent_more w f ss been emits.list first emitted inside;
      of_round = λ e there done. been.of_round e (subst (λ es. Contains es e) (sym first.entries) (Contains-later (entry_of first.number first.job (Done emits.list)) e first.rest (subst (λ es. Contains es e) rest there))) done;
    }

-- what was emitted, and its lines are put to the page
pub way_next : (w : Way) (before now : Option (List ℕ)) (old new : Page) (f g : Machine) (emitted : List Symbol) → EmitsMore f g emitted → AddsAll before now old new emitted
    → IsUnderWay w before old f → IsUnderWay w now new g
way_next w before now old new f g emitted emits adds way = record {
  members = way.members ++ emitted;
  emitted = emits w way.members way.emitted;
  lines = adds w.start.lines w.base w.known way.members way.lines;
}

-- the jobs that wait are the same
pub waiting_emitted : (f g : Machine) (emitted : List Symbol) → Emits f g emitted → open_jobs g.entries ≡ open_jobs f.entries
waiting_emitted f g emitted emits = ap (λ (m : Machine). open_jobs m.entries) emits.after ∙ sym (ap open_jobs emits.first.entries)

-- what went out where members were emitted
pub way_added : (w : Way) (before now : Option (List ℕ)) (page : Page) (f g : Machine) (emitted : List Symbol) → EmitsMore f g emitted → WritesFrontOf before now page emitted → IsUnderWay w before page f
    → IsPartOut w now
way_added w before now page f g emitted emits writes way =
    let been = emits w way.members way.emitted in
    record {
      machine = g;
      members = way.members ++ emitted;
      work = been.work;
      covers = been.covers;
      held = been.held;
      recent = been.recent;
      out = writes w.start.lines w.base w.known way.members way.lines;
    }

-- nothing more went out
abbrev pub way_part : (w : Way) (now : Option (List ℕ)) (page : Page) (f : Machine) → IsUnderWay w now page f → IsPartOut w now
way_part w now page f way = record {
  machine = f;
  members = way.members;
  work = way.emitted.work;
  covers = way.emitted.covers;
  held = way.emitted.held;
  recent = way.emitted.recent;
  out = front_kept w.start.lines w.base w.known now page way.members way.lines;
}

-- what was collected went out, or a part of it
pub way_written : (w : Way) (before now : Option (List ℕ)) (page : Page) (f : Machine) → WritesFront before now page → IsUnderWay w before page f → IsPartOut w now
way_written w before now page f writes way = record {
  machine = f;
  members = way.members;
  work = way.emitted.work;
  covers = way.emitted.covers;
  held = way.emitted.held;
  recent = way.emitted.recent;
  out = writes w.start.lines w.base w.known way.members way.lines;
}

pub way_flushed : (w : Way) (before now : Option (List ℕ)) (old new : Page) (f : Machine) → KeepsLines before now old new → IsUnderWay w before old f → IsUnderWay w now new f
way_flushed w before now old new f keeps way = record {
  members = way.members;
  emitted = way.emitted;
  lines = keeps w.start.lines w.base w.known way.members way.lines;
}

-- ## The last lines

module _ (w : Way) (before now : Option (List ℕ)) (old : Page) (f g : Machine) (count : ℕ) (emitted : List Symbol) (part : EmitsPart f count g emitted) (way : IsUnderWay w before old f) where
  inside : (s : Symbol) → Contains (emitted ++ part.next ∷ part.rest) s → Contains part.list s
  inside s there = (without_there (IsBefore f.from) part.list (emitted ++ part.next ∷ part.rest) s part.not_before there).0

  emitted_in : (s : Symbol) → Contains emitted s → Contains part.list s
  emitted_in s there = inside s (Contains-append_left emitted (part.next ∷ part.rest) s there)

  more : MayPart f count
  more =
      let size = length-append emitted (part.next ∷ part.rest) in
      let is = part.count in
      record { list = part.list; done = part.first; later = emitted ++ part.next ∷ part.rest; not_before = part.not_before; more = omega (arith, size, is) }

  member_inside : Contains part.list part.next
  member_inside = inside part.next (Contains-append_right emitted (part.next ∷ part.rest) part.next (Contains-head part.next part.rest))

  part_held : IsHeld w.start.portion.request w.jobs w.start.at g (way.members ++ emitted)
  part_held = held_next w.start.portion.request w.jobs w.start.at f g way.members emitted (Part count) way.emitted.held (record { allowed = more; step = part })

  recent_after : AreRecent w (way.members ++ emitted)
  recent_after = recent_more w f way.members way.emitted part.list part.first emitted emitted_in

  entries_same : g.entries ≡ f.entries
  entries_same = ap (λ (x : Machine). x.entries) part.after

  -- the machine goes on at the next member
  emitted_next : HasEmitted (record w { from = at_symbol part.next }) g (way.members ++ emitted)
  emitted_next =
      let been = way.emitted in
      record {
        work = been.work;
        covers = been.covers;
        opened = ap (λ (x : Machine). x.opened) part.after ∙ been.opened;
        stays = ap (λ (x : Machine). x.from) part.after;
        all = been.all;
        gone = been.gone;
        jobs_are = been.jobs_are ∙ ap (λ js. been.gone ++ js) (sym (ap jobs_of entries_same));
        entries_are = subst AreDoneThenOpen (sym entries_same) been.entries_are;
        few = subst (λ es. AreOpen (drop w.most es)) (sym entries_same) been.few;
        held = part_held;
        recent = recent_after;
        of_round = subst (AreOfRound w) (sym entries_same) been.of_round;
      }

  -- no job that is left is wholly before it
  later_next : AllByRecursion (λ j. ¬ IsWhollyBefore (at_symbol part.next) j) (jobs_of g.entries)
  later_next = subst (λ js. AllByRecursion (λ j. ¬ IsWhollyBefore (at_symbol part.next) j) js) (sym listed) (first_later, all_from_members (λ j. ¬ IsWhollyBefore (at_symbol part.next) j) (jobs_of part.first.rest) rest_later)
    where
      listed : jobs_of g.entries ≡ part.first.job ∷ jobs_of part.first.rest
      listed = ap jobs_of (entries_same ∙ part.first.entries)

      pairs : ArePairs IsPartBelow (part.first.job ∷ jobs_of part.first.rest)
      pairs = subst (ArePairs IsPartBelow) (ap jobs_of part.first.entries) (part_pairs (jobs_of f.entries) way.emitted.held.go_on.ascending_jobs way.emitted.held.go_on.apart)

      first_later : ¬ IsWhollyBefore (at_symbol part.next) part.first.job
      first_later wholly =
          let under = first_under w f way.members way.emitted part.list part.first part.next member_inside in
          ⊎_elim
          (λ low. let size = under.size in absurd (omega (arith, low, size)))
          (λ both. (smaller_apart part.first.job.prefix (code part.next) both.1).0 under.begins)
          wholly

      rest_later : (c : Job) → Contains (jobs_of part.first.rest) c → ¬ IsWhollyBefore (at_symbol part.next) c
      rest_later c there wholly = first_later (begun_before (at_symbol part.next) part.first.job c (each_of (IsPartBelow part.first.job) (jobs_of part.first.rest) c pairs.0 there) (inl wholly))

  pub part_full : (new : Page) → AddsAll before now old new emitted → new.count ≡ old.count + length emitted → IsFull w now new (old.count + count) g
  part_full new adds size =
      let first = part.first in
      let under = first_under w f way.members way.emitted part.list first part.next (inside part.next (Contains-append_right emitted (part.next ∷ part.rest) part.next (Contains-head part.next part.rest))) in
      let own = way.emitted.held.go_on.extend first.job
      (subst (λ es. Contains (jobs_of es) first.job) (sym first.entries) (Contains-head first.job (jobs_of first.rest))) in
      let entries : g.entries ≡ entry_of first.number first.job (Done part.list) ∷ first.rest = ap (λ (m : Machine). m.entries) part.after ∙ first.entries in
      let from : g.from ≡ at_symbol part.next = ap (λ (m : Machine). m.from) part.after in
      record {
        members = way.members ++ emitted;
        work = way.emitted.work;
        covers = way.emitted.covers;
        held = part_held;
        lines = adds w.start.lines w.base w.known way.members way.lines;
        recent = recent_after;
        count = size ∙ ap (λ n. old.count + n) part.count;
        next = part.next;
        emitted = emitted_next;
        later = later_next;
        member = way.emitted.work.members part.next
            (record { job = own.0; listed = own.1; under = under_extended w.start.portion.request first.job own.0 part.next own.2 under });
        stands = subst (λ es. StandsAt g.from es (at_symbol part.next)) (sym entries)
            (subst (λ p. StandsAt p (entry_of first.number first.job (Done part.list) ∷ first.rest) (at_symbol part.next)) (sym from) (inl (inr (sym under.size, under.begins), refl)));
      }

  pub part_added : WritesFrontOf before now old emitted → IsPartOut w now
  part_added writes = record {
    machine = g;
    members = way.members ++ emitted;
    work = way.emitted.work;
    covers = way.emitted.covers;
    held = part_held;
    recent = recent_after;
    out = writes w.start.lines w.base w.known way.members way.lines;
  }

pub full_flushed : (w : Way) (before now : Option (List ℕ)) (old new : Page) (last : ℕ) (f : Machine) → KeepsLines before now old new → new.count ≡ old.count → IsFull w before old last f → IsFull w now new last f
full_flushed w before now old new last f keeps count full = record {
  members = full.members;
  work = full.work;
  covers = full.covers;
  held = full.held;
  lines = keeps w.start.lines w.base w.known full.members full.lines;
  recent = full.recent;
  count = count ∙ full.count;
  next = full.next;
  emitted = full.emitted;
  later = full.later;
  member = full.member;
  stands = full.stands;
}

abbrev pub full_part : (w : Way) (now : Option (List ℕ)) (page : Page) (last : ℕ) (f : Machine) → IsFull w now page last f → IsPartOut w now
full_part w now page last f full = record {
  machine = f;
  members = full.members;
  work = full.work;
  covers = full.covers;
  held = full.held;
  recent = full.recent;
  out = front_kept w.start.lines w.base w.known now page full.members full.lines;
}

pub full_written : (w : Way) (before now : Option (List ℕ)) (page : Page) (last : ℕ) (f : Machine) → WritesFront before now page → IsFull w before page last f → IsPartOut w now
full_written w before now page last f writes full = record {
  machine = f;
  members = full.members;
  work = full.work;
  covers = full.covers;
  held = full.held;
  recent = full.recent;
  out = writes w.start.lines w.base w.known full.members full.lines;
}

-- ## What the front allows

-- the lines that came before can be counted
pub lines_on_way : (now : Option (List ℕ)) (page : Page) (f : Machine) → IsAny now page f → page.count ≤ 1000000000000000000 → f.lines ≤ 1000000000000000000
lines_on_way now page f any few =
    let opened = any.way.emitted.opened in
    let lines = any.way.emitted.held.lines in
    let count = any.way.lines.count in
    omega (arith, opened, lines, count, few)

pub room_to_part : (now : Option (List ℕ)) (page : Page) (f : Machine) (count : ℕ) → IsAny now page f → page.count + count ≤ 1000000000000000000 → HasRoom f (Part count)
room_to_part now page f count any few =
    let opened = any.way.emitted.opened in
    let lines = any.way.emitted.held.lines in
    let size = any.way.lines.count in
    omega (arith, opened, lines, size, few)

-- where no more members are left than that, they are emitted whole
pub few_emitted : (f g : Machine) (room : ℕ) (emitted : List Symbol) → (MayPart f room → ⊥) → Emits f g emitted → length emitted ≤ room
few_emitted f g room emitted not emits =
    ⊎_elim
    (λ many. absurd (not (record { list = emits.list; done = emits.first; later = emitted; not_before = emits.not_before; more = many })))
    (λ few. few)
    (cases_lt room (length emitted))

-- where the first entry is not done it has no members
pub none_on_way : (f : Machine) (count : Option ℕ) → is_some count ≡ false → MatchOption count ((list : List Symbol) → ¬ HasFirst f list) (λ n. (n < 2 ^ 127) × ((list : List Symbol) × HasFirst f list × (length list ≡ n)))
    → (list : List Symbol) → ¬ HasFirst f list
none_on_way f None not first = first
none_on_way f (Some n) not first = cc

-- ## What was collected is written

on_true : (b : Bool) (P Q : Type 0) → (P → Q) → OnTrue b P → OnTrue b Q
on_true true P Q f p = f p
on_true false P Q f p = tt

on_false : (b : Bool) (P Q : Type 0) → (P → Q) → OnFalse b P → OnFalse b Q
on_false true P Q f p = tt
on_false false P Q f p = f p

module _ (before mid now : Option (List ℕ)) (old part new : Page) (last : ℕ) (f g : Machine) (keeps : KeepsLines mid now part new) (count : new.count ≡ part.count) where
  pub goes_on_flushed : (b : Bool) → OnTrue b (GoesOn before mid old part f g) → OnTrue b (GoesOn before now old new f g)
  goes_on_flushed b = on_true b (GoesOn before mid old part f g) (GoesOn before now old new f g) (λ goes. record { way = λ w way. way_flushed w mid now part new g keeps (goes.way w way); waiting = goes.waiting })

  pub room_flushed : (b : Bool) → OnTrue b (part.count ≤ last) → OnTrue b (new.count ≤ last)
  room_flushed b = on_true b (part.count ≤ last) (new.count ≤ last) (λ low. omega (arith, low, count))

  pub full_up_flushed : (b : Bool) → OnFalse b (FillsUp before mid old part last f g) → OnFalse b (FillsUp before now old new last f g)
  full_up_flushed b = on_false b (FillsUp before mid old part last f g) (FillsUp before now old new last f g) (λ fills w way. full_flushed w mid now part new last g keeps count (fills w way))

pub part_flushed : (before mid now : Option (List ℕ)) (old part : Page) (last : ℕ) (f g : Machine) (b : Bool) → OnTrue b (GoesOn before mid old part f g) → OnFalse b (FillsUp before mid old part last f g)
    → WritesFront mid now part → WritesPart before now old f
part_flushed before mid now old part last f g true goes fills writes w way = way_written w mid now part g writes (goes.way w way)
part_flushed before mid now old part last f g false goes fills writes w way = full_written w mid now part last g writes (fills w way)
