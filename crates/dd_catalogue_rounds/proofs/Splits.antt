-- The first entry, with its children in its place.
use Rattle.std.proofs.Common.{◌≡◌, ◌≢◌, ℕ, zero, suc, ◌+◌, ◌<◌, ◌≤◌, List, [], ◌∷◌, ◌++◌, length, get_or, drop, inr, refl, sym, ap, ◌∙◌, subst, arith}
use Rattle.std.proofs.lemmas.List.{append-nil, map-append}
use Rattle.std.specs.List.{Contains}
use Rattle.dd_model.specs.Position.{IsWhollyBefore}
use Rattle.dd_model.specs.Jobs.{AreChildren}
use Rattle.dd_model.specs.Joined.{IsPartBelow}
use Rattle.dd_model.specs.declared.jobs.Job.{Job}
use Rattle.dd_model.specs.declared.jobs.Position.{Position}
use Rattle.dd_model.specs.declared.requests.Request.{Request}
use Rattle.dd_model.proofs.Ascending.{all-append}
use Rattle.dd_model.proofs.Lists.{Contains-head, all_from_members}
use Rattle.dd_model.proofs.Pairs.{ArePairs, part_pairs, pairs_ascending_jobs, pairs_apart}
use Rattle.dd_front.specs.declared.entry.Entry.{Entry}
use Rattle.dd_front.specs.declared.entry.State.TheVariants.{Open, Out}
use Rattle.dd_front.specs.declared.event.Event.TheVariants.{Take, Split}
use Rattle.dd_front.specs.Allowed.{MaySplit}
use Rattle.dd_front.specs.Held.{IsHeld}
use Rattle.dd_front.specs.Machine.{Machine, StandsAt, entry_of, open_entries, jobs_of}
use Rattle.dd_front.specs.Numbers.{AreNumbered}
use Rattle.dd_front.specs.Step.{IsStep, split_entries, taken_numbers, with_state}
use Rattle.dd_front.proofs.Entries.{jobs_opened, opened_in_place}
use Rattle.dd_front.proofs.Events.{held_next}
use Rattle.dd_front.proofs.Replaced.{state_at, split_at}
use Rattle.dd_front.proofs.Splitting.{child_extends, children_pairs}
use Rattle.dd_board.specs.Desk.{AreJobsOf}
use Rattle.dd_pages_and_checkpoints.specs.Rounds.{AreOpen}
use Rattle.dd_catalogue_rounds.specs.Splits.{IsNoLonger, IsReady, IsSplit, AreSplits, IsRefined}
use Rattle.dd_catalogue_rounds.proofs.RoundEntries.{opened_open}
use Rattle.dd_catalogue_rounds.proofs.Working.{children_jobs, child_stays}

-- a list begins with its first item
pub first_item : {A : Type 0} (xs : List A) (x : A) → 0 < length xs → x ≡ get_or xs 0 x → (rest : List A) × (xs ≡ x ∷ rest)
first_item [] x some is = absurd (omega (arith, some))
first_item (y ∷ ys) x some is = (ys, ap (λ z. z ∷ ys) (sym is))

pub not_none : {A : Type 0} (xs : List A) → 1 ≤ length xs → xs ≢ []
not_none xs some none = let size = ap length none in omega (arith, some, size)

pub drop_nothing : {A : Type 0} (xs : List A) → drop 0 xs ≡ xs
drop_nothing [] = refl
drop_nothing (x ∷ xs) = refl

module _ (q : Request) (f h : Machine) (e : Entry) (rest : List Entry) (cs : List Job) (parts : f.entries ≡ e ∷ rest) (waits : e.state ≡ Open) (numbered : AreNumbered f.next f.entries)
    (are : AreChildren q e.job cs) (asked : f.request ≡ q) (taken : IsStep f (Take 1 e.number) h [])
  where
    abbrev n : ℕ
    n = e.number

    own : AreNumbered f.next (e ∷ rest)
    own = subst (AreNumbered f.next) parts numbered

    abbrev out : Entry
    out = entry_of e.number e.job Out

    entries_out : h.entries ≡ out ∷ rest
    entries_out = ap (λ (m : Machine). m.entries) taken.0 ∙ ap (with_state n Out) parts ∙ state_at n Out (e ∷ rest) 0 e own.own refl (omega arith)

    next_out : h.next ≡ f.next
    next_out = ap (λ (m : Machine). m.next) taken.0

    own_out : AreNumbered f.next (out ∷ rest)
    own_out = record { own = own.own; below = own.below }

    asked_out : h.request ≡ q
    asked_out = ap (λ (m : Machine). m.request) taken.0 ∙ asked

    pub may_split : MaySplit h n cs
    may_split = record { out = record { job = e.job; stands = there_out }; children = subst (λ r. AreChildren r e.job cs) (sym asked_out) are }
      where
        there_out : Contains h.entries out
        there_out = subst (λ es. Contains es out) (sym entries_out) (Contains-head out rest)

    module _ (g : Machine) (split : IsStep h (Split 1 e.number cs) g []) where
      entries_split : g.entries ≡ open_entries f.next cs ++ rest
      entries_split =
          ap (λ (m : Machine). m.entries) split.0 ∙ ap (split_entries n h.next cs) entries_out ∙ ap (λ k. split_entries n k cs (out ∷ rest)) next_out
          ∙ split_at n f.next cs (out ∷ rest) 0 out own_out.own refl ∙ ap (λ es. open_entries f.next cs ++ es) (drop_nothing rest)

      taken_some : (k : ℕ) → 1 ≤ k → taken_numbers k cs ≡ length cs
      taken_some zero low = absurd (omega (arith, low))
      taken_some (suc k) low = refl

      pub split_is : length cs ≤ 255 → (at : Position) → StandsAt f.from f.entries at → IsNoLonger at e.job → IsSplit q f g
      split_is few at stands short = record {
        first = e;
        rest = rest;
        parts = parts;
        waits = waits;
        children = cs;
        are = are;
        few = few;
        later = λ not. all_from_members (λ c. ¬ IsWhollyBefore f.from c) cs
            (λ c there. child_stays f.from at e rest c (subst (λ es. StandsAt f.from es at) parts stands) short not (child_extends e.job c (are.extensions.extend c there)));
        opens = λ opens. subst AreOpen (sym entries_split) (all-append (λ (d : Entry). d.state ≡ Open) (open_entries f.next cs) rest (opened_open f.next cs) opens);
        jobs = ap jobs_of entries_split ∙ map-append (λ (d : Entry). d.job) (open_entries f.next cs) rest ∙ ap (λ js. js ++ jobs_of rest) (jobs_opened f.next cs);
        numbered = subst (AreNumbered g.next) (sym entries_split)
            (subst (λ k. AreNumbered k (open_entries f.next cs ++ rest))
            (sym (ap (λ (m : Machine). m.next) split.0 ∙ ap (λ k. k + taken_numbers n cs) next_out ∙ ap (λ k. f.next + k) (taken_some n own.own.0)))
            (opened_in_place f.next [] rest e cs own));
        request = ap (λ (m : Machine). m.request) split.0 ∙ ap (λ (m : Machine). m.request) taken.0;
        from = ap (λ (m : Machine). m.from) split.0 ∙ ap (λ (m : Machine). m.from) taken.0;
        opened = ap (λ (m : Machine). m.opened) split.0 ∙ ap (λ (m : Machine). m.opened) taken.0;
        holds = λ jobs at ss held.
            let first : IsHeld q jobs at h (ss ++ []) = held_next q jobs at f h ss [] (Take 1 n) held (record { allowed = record { job = e.job; stands = there }; step = taken }) in
            let now : IsHeld q jobs at h ss = subst (IsHeld q jobs at h) (append-nil ss) first in
            subst (IsHeld q jobs at g) (append-nil ss)
            (held_next q jobs at h g ss [] (Split 1 n cs) now (record { allowed = inr may_split; step = split }));
      }
        where
          there : Contains f.entries (entry_of n e.job Open)
          there = subst (λ es. Contains es (entry_of n e.job Open)) (sym parts) (subst (λ st. Contains (e ∷ rest) (entry_of n e.job st)) waits (Contains-head e rest))

-- ## What a split keeps

pub split_jobs : (q : Request) (f g : Machine) → IsSplit q f g → AreJobsOf q (jobs_of f.entries) → AreJobsOf q (jobs_of g.entries)
split_jobs q f g split all =
    subst (AreJobsOf q) (sym split.jobs) (children_jobs q split.first.job split.children (jobs_of split.rest) split.are (subst (λ es. AreJobsOf q (jobs_of es)) split.parts all))

pub split_opens : (q : Request) (f g : Machine) → IsSplit q f g → AreOpen f.entries → AreOpen g.entries
split_opens q f g split opens = split.opens (subst AreOpen split.parts opens).1

pub split_pairs : (q : Request) (f g : Machine) → IsSplit q f g → ArePairs IsPartBelow (jobs_of f.entries) → ArePairs IsPartBelow (jobs_of g.entries)
split_pairs q f g split pairs =
    subst (ArePairs IsPartBelow) (sym split.jobs)
    (children_pairs q [] (jobs_of split.rest) split.children split.first.job (subst (λ es. ArePairs IsPartBelow (jobs_of es)) split.parts pairs) split.are)

pub ready_split : (q : Request) (f g : Machine) → IsSplit q f g → IsReady q f → IsReady q g
ready_split q f g split ready =
    let pairs = split_pairs q f g split (part_pairs (jobs_of f.entries) ready.ascending ready.apart) in
    record {
      valid = ready.valid;
      request = split.request ∙ ready.request;
      jobs = split_jobs q f g split ready.jobs;
      ascending = pairs_ascending_jobs (jobs_of g.entries) pairs;
      apart = pairs_apart (jobs_of g.entries) pairs;
      opens = split_opens q f g split ready.opens;
      numbered = split.numbered;
    }

-- what each split keeps, some splits keep
pub splits_keep : (P : Machine → Type 0) (q : Request) (n : ℕ) (f g : Machine) → ((a b : Machine) → IsSplit q a b → P a → P b) → AreSplits q n f g → P f → P g
splits_keep P q zero f g keeps splits here = subst P (sym splits) here
splits_keep P q (suc n) f g keeps splits here = keeps splits.0 g splits.2 (splits_keep P q n f splits.0 keeps splits.1 here)

pub refined_keeps : (P : Machine → Type 0) (q : Request) (f g : Machine) → ((a b : Machine) → IsSplit q a b → P a → P b) → IsRefined q f g → P f → P g
refined_keeps P q f g keeps refined here = splits_keep P q refined.count f g keeps refined.splits here

pub refined_none : (q : Request) (f g : Machine) → g ≡ f → IsRefined q f g
refined_none q f g same = record { count = 0; splits = same }

pub refined_more : (q : Request) (f h g : Machine) → IsRefined q f h → IsSplit q h g → IsRefined q f g
refined_more q f h g refined split = record { count = suc refined.count; splits = (h, refined.splits, split) }
