-- How the entries of a round are joined: one after the other, each to its job.
use Rattle.std.proofs.Common.{◌≡◌, ◌≢◌, ℕ, suc, ◌+◌, ◌<◌, List, [], ◌∷◌, ◌++◌, length, get_or, take, refl, sym, ap, ◌∙◌, subst, append-nil, arith}
use Rattle.std.proofs.lemmas.List.{append_assoc, length_push, length-append, length-take, length-map, get_or-map, get_or-take}
use Rattle.std.specs.List.{AllByRecursion}
use Rattle.dd_model.specs.Symbol.{Symbol}
use Rattle.dd_model.specs.Lists.{Begins}
use Rattle.dd_model.specs.declared.jobs.Job.{Job}
use Rattle.dd_model.proofs.Ascending.{all-append}
use Rattle.dd_model.proofs.Lists.{cons_head, cons_tail}
use Rattle.dd_front.specs.declared.entry.Entry.{Entry}
use Rattle.dd_front.specs.declared.entry.State.TheVariants.{Done}
use Rattle.dd_front.specs.Machine.{jobs_of, entry_of}
use Rattle.dd_front.specs.Places.{with_state_at}
use Rattle.dd_front.specs.Absorbed.{Extends, found_by, list_of}
use Rattle.dd_front.specs.Joining.{AreBlocks, AreJoined, done_with}
use Rattle.dd_front.proofs.Entries.{found_by-append}

-- Some jobs have their lists, one is at hand, and the others are to come.
pub record AreJoining (jobs : List Job) (whole rest : List Entry) (lists : List (List Symbol)) (joined : List Symbol) : Type 0 where
  pub before : List Job
  pub job : Job
  pub after : List Job
  pub jobs_are : jobs ≡ before ++ job ∷ after
  pub count : length before ≡ length lists
  pub done : List Entry
  pub part : List Entry
  pub own : List Entry
  pub later : List Entry
  pub whole_is : whole ≡ done ++ (part ++ rest)
  pub earlier : AreJoined before done lists
  pub part_comes : AllByRecursion (λ e. Extends e.job job) part
  pub joined_is : joined ≡ found_by part
  pub rest_is : rest ≡ own ++ later
  pub own_comes : AllByRecursion (λ e. Extends e.job job) own
  pub others : AllByRecursion (λ e. ¬ Extends e.job job) later
  pub blocks : AreBlocks after later

not_empty : {A : Type 0} (x : A) (xs : List A) → x ∷ xs ≡ [] → ⊥
not_empty x xs e = cc

-- before the first
pub joining_first : (jobs : List Job) (whole : List Entry) → whole ≢ [] → AreBlocks jobs whole → AreJoining jobs whole whole [] []
joining_first [] whole some blocks = absurd (some blocks)
joining_first (job ∷ jobs) whole some blocks = record {
  before = [];
  job = job;
  after = jobs;
  jobs_are = refl;
  count = refl;
  done = [];
  part = [];
  own = blocks.0;
  later = blocks.1;
  whole_is = refl;
  earlier = refl;
  part_comes = tt;
  joined_is = refl;
  rest_is = blocks.2.parts;
  own_comes = blocks.2.come;
  others = blocks.2.others;
  blocks = blocks.3;
}

found_one : (xs : List Entry) (e : Entry) → found_by (xs ++ e ∷ []) ≡ found_by xs ++ list_of e.state
found_one xs e = found_by-append xs (e ∷ []) ∙ ap (λ ss. found_by xs ++ ss) (append-nil (list_of e.state))

-- the next entry comes from the job at hand
pub joining_same : (jobs : List Job) (whole rest tail : List Entry) (e : Entry) (lists : List (List Symbol)) (joined now : List Symbol) (s : AreJoining jobs whole rest lists joined) → rest ≡ e ∷ tail
    → Extends e.job s.job → now ≡ joined ++ list_of e.state → AreJoining jobs whole tail lists now
joining_same jobs whole rest tail e lists joined now s is comes longer = go s.own s.rest_is s.own_comes
  where
    go : (own : List Entry) → rest ≡ own ++ s.later → AllByRecursion (λ d. Extends d.job s.job) own → AreJoining jobs whole tail lists now
    go [] parts own_comes = absurd ((subst (AllByRecursion (λ d. ¬ Extends d.job s.job)) (sym parts ∙ is) s.others).0 comes)
    go (d ∷ own) parts own_comes = record {
      before = s.before;
      job = s.job;
      after = s.after;
      jobs_are = s.jobs_are;
      count = s.count;
      done = s.done;
      part = s.part ++ e ∷ [];
      own = own;
      later = s.later;
      whole_is = s.whole_is ∙ ap (λ es. s.done ++ (s.part ++ es)) is ∙ ap (λ es. s.done ++ es) (sym (append_assoc s.part (e ∷ []) tail));
      earlier = s.earlier;
      part_comes = all-append (λ x. Extends x.job s.job) s.part (e ∷ []) s.part_comes (comes, tt);
      joined_is = longer ∙ ap (λ ss. ss ++ list_of e.state) s.joined_is ∙ sym (found_one s.part e);
      rest_is = cons_tail e d tail (own ++ s.later) (sym is ∙ parts);
      own_comes = own_comes.1;
      others = s.others;
      blocks = s.blocks;
    }

-- one list more
joined_push : (jobs : List Job) (job : Job) (es own : List Entry) (lists : List (List Symbol)) (list : List Symbol) → AreJoined jobs es lists → AllByRecursion (λ e. Extends e.job job) own → list ≡ found_by own
    → AreJoined (jobs ++ job ∷ []) (es ++ own) (lists ++ list ∷ [])
joined_push [] job es own [] list earlier comes is = (own, [], ap (λ ds. ds ++ own) earlier ∙ sym (append-nil own), comes, is, refl)
joined_push [] job es own (l ∷ lists) list earlier comes is = absurd earlier
joined_push (j ∷ jobs) job es own [] list earlier comes is = absurd earlier
joined_push (j ∷ jobs) job es own (l ∷ lists) list earlier comes is =
    (earlier.0, earlier.1 ++ own, ap (λ ds. ds ++ own) earlier.2 ∙ append_assoc earlier.0 earlier.1 own, earlier.3, earlier.4, joined_push jobs job earlier.1 own lists list earlier.5 comes is)

-- the next entry comes from the next job
pub joining_next : (jobs : List Job) (whole rest tail : List Entry) (e : Entry) (lists : List (List Symbol)) (joined now : List Symbol) (s : AreJoining jobs whole rest lists joined) → rest ≡ e ∷ tail
    → ¬ Extends e.job s.job → now ≡ list_of e.state → AreJoining jobs whole tail (lists ++ joined ∷ []) now
joining_next jobs whole rest tail e lists joined now s is not only = go s.own s.rest_is s.own_comes
  where
    next : s.later ≡ e ∷ tail → (after : List Job) → s.after ≡ after → AreBlocks after s.later → AreJoining jobs whole tail (lists ++ joined ∷ []) now
    next here [] same blocks = absurd (not_empty e tail (sym here ∙ blocks))
    next here (job ∷ after) same blocks = block blocks.0 refl
      where
        block : (own : List Entry) → blocks.0 ≡ own → AreJoining jobs whole tail (lists ++ joined ∷ []) now
        block [] none = absurd (blocks.2.some none)
        block (d ∷ own) own_is =
            let come : AllByRecursion (λ x. Extends x.job job) (d ∷ own) = subst (AllByRecursion (λ x. Extends x.job job)) own_is blocks.2.come in
            let parts : e ∷ tail ≡ d ∷ own ++ blocks.1 = sym here ∙ blocks.2.parts ∙ ap (λ ds. ds ++ blocks.1) own_is in
            record {
              before = s.before ++ s.job ∷ [];
              job = job;
              after = after;
              jobs_are = s.jobs_are ∙ ap (λ js. s.before ++ s.job ∷ js) same ∙ sym (append_assoc s.before (s.job ∷ []) (job ∷ after));
              count = length_push s.before s.job ∙ ap (λ n. n + 1) s.count ∙ sym (length_push lists joined);
              done = s.done ++ s.part;
              part = e ∷ [];
              own = own;
              later = blocks.1;
              whole_is = s.whole_is ∙ ap (λ es. s.done ++ (s.part ++ es)) is ∙ sym (append_assoc s.done s.part (e ∷ tail));
              earlier = joined_push s.before s.job s.done s.part lists joined s.earlier s.part_comes s.joined_is;
              part_comes = (subst (λ x. Extends x.job job) (sym (cons_head e d tail (own ++ blocks.1) parts)) come.0, tt);
              joined_is = only ∙ sym (append-nil (list_of e.state));
              rest_is = cons_tail e d tail (own ++ blocks.1) parts;
              own_comes = come.1;
              others = blocks.2.others;
              blocks = blocks.3;
            }

    go : (own : List Entry) → rest ≡ own ++ s.later → AllByRecursion (λ d. Extends d.job s.job) own → AreJoining jobs whole tail (lists ++ joined ∷ []) now
    go (d ∷ own) parts own_comes = absurd (not (subst (λ x. Extends x.job s.job) (sym (cons_head e d tail (own ++ s.later) (sym is ∙ parts))) own_comes.0))
    go [] parts own_comes = next (sym parts ∙ is) s.after refl s.blocks

none_after : (jobs : List Job) → AreBlocks jobs [] → jobs ≡ []
none_after [] blocks = refl
none_after (job ∷ jobs) blocks = absurd (go blocks.0 refl)
  where
    go : (own : List Entry) → blocks.0 ≡ own → ⊥
    go [] none = blocks.2.some none
    go (d ∷ own) is = not_empty d (own ++ blocks.1) (sym (blocks.2.parts ∙ ap (λ ds. ds ++ blocks.1) is))

-- after the last
pub joining_last : (jobs : List Job) (whole : List Entry) (lists all : List (List Symbol)) (joined : List Symbol) → AreJoining jobs whole [] lists joined → all ≡ lists ++ joined ∷ [] → AreJoined jobs whole all
joining_last jobs whole lists all joined s is = go s.own s.rest_is
  where
    go : (own : List Entry) → [] ≡ own ++ s.later → AreJoined jobs whole all
    go (d ∷ own) parts = absurd (not_empty d (own ++ s.later) (sym parts))
    go [] parts =
        let none : s.after ≡ [] = none_after s.after (subst (AreBlocks s.after) (sym parts) s.blocks) in
        let jobs_are : jobs ≡ s.before ++ s.job ∷ [] = s.jobs_are ∙ ap (λ js. s.before ++ s.job ∷ js) none in
        let whole_is : whole ≡ s.done ++ s.part = s.whole_is ∙ ap (λ es. s.done ++ es) (append-nil s.part) in
        let joined_all = joined_push s.before s.job s.done s.part lists joined s.earlier s.part_comes s.joined_is in
        subst (AreJoined jobs whole) (sym is)
        (subst (λ js. AreJoined js whole (lists ++ joined ∷ [])) (sym jobs_are)
        (subst (λ es. AreJoined (s.before ++ s.job ∷ []) es (lists ++ joined ∷ [])) (sym whole_is) joined_all))

-- the job at hand is that of the old entry whose place is the number of lists
pub at_hand : (olds whole rest : List Entry) (k : ℕ) (lists : List (List Symbol)) (joined : List Symbol) → (s : AreJoining (jobs_of (take k olds)) whole rest lists joined) → (d : Entry)
    → (length lists < length olds) × ((get_or olds (length lists) d).job ≡ s.job)
at_hand olds whole rest k lists joined s d =
    let n = length lists in
    let long : length (jobs_of (take k olds)) ≡ length s.before + length (s.job ∷ s.after) = ap length s.jobs_are ∙ length-append s.before (s.job ∷ s.after) in
    let count = s.count in
    let short : length (jobs_of (take k olds)) ≡ length (take k olds) = length-map (take k olds) (λ e. e.job) in
    let taken = length-take k olds in
    let low : n < length (take k olds) = omega arith in
    let under : n < k = omega arith in
    let read : get_or (jobs_of (take k olds)) n d.job ≡ (get_or (take k olds) n d).job = get_or-map (λ e. e.job) (take k olds) n d d.job low in
    let there : get_or (jobs_of (take k olds)) n d.job ≡ s.job = ap (λ js. get_or js n d.job) s.jobs_are ∙ ap (λ i. get_or (s.before ++ s.job ∷ s.after) i d.job) (sym count) ∙ in_front s.before s.job s.after d.job in
    (omega arith, ap (λ x. x.job) (sym (get_or-take k olds n d under)) ∙ sym read ∙ there)
  where
    in_front : (js : List Job) (j : Job) (ks : List Job) (d' : Job) → get_or (js ++ j ∷ ks) (length js) d' ≡ j
    in_front [] j ks d' = refl
    in_front (x ∷ js) j ks d' = in_front js j ks d'

pub joining_start : (jobs : List Job) (whole rest : List Entry) (lists : List (List Symbol)) (joined : List Symbol) → whole ≢ [] → AreBlocks jobs whole → rest ≡ whole → lists ≡ [] → joined ≡ []
    → AreJoining jobs whole rest lists joined
joining_start jobs whole rest lists joined some blocks all none nothing =
    subst (λ es. AreJoining jobs whole es lists joined) (sym all)
    (subst (λ ls. AreJoining jobs whole whole ls joined) (sym none) (subst (AreJoining jobs whole whole []) (sym nothing) (joining_first jobs whole some blocks)))

-- what tells whether a job extends another
abbrev pub Tells : Job → Job → Type 0
Tells child job = (child.size ≡ job.size) × Begins job.prefix child.prefix

to_extends : (child old job : Job) → old ≡ job → Tells child old → Extends child job
to_extends child old job e h = subst (Extends child) e (record { size = h.0; begins = h.1 })

from_extends : (child old job : Job) → old ≡ job → Extends child job → Tells child old
from_extends child old job e h = let back : Extends child old = subst (Extends child) (sym e) h in (back.size, back.begins)

-- a turn whose entry comes from the job at hand
pub step_same : (olds whole rest tail : List Entry) (k n : ℕ) (e d : Entry) (lists lists' : List (List Symbol)) (joined joined' now list : List Symbol)
    → AreJoining (jobs_of (take k olds)) whole rest lists joined → rest ≡ e ∷ tail → n ≡ length lists → Tells e.job (get_or olds n d).job → e.state ≡ Done list → lists' ≡ lists → joined' ≡ joined → now ≡ joined' ++ list
    → AreJoining (jobs_of (take k olds)) whole tail lists' now
step_same olds whole rest tail k n e d lists lists' joined joined' now list s is len tells done same kept longer =
    let old : (get_or olds n d).job ≡ s.job = ap (λ i. (get_or olds i d).job) len ∙ (at_hand olds whole rest k lists joined s d).1 in
    let now_is : now ≡ joined ++ list_of e.state = longer ∙ ap (λ ss. ss ++ list) kept ∙ ap (λ st. joined ++ list_of st) (sym done) in
    subst (λ ls. AreJoining (jobs_of (take k olds)) whole tail ls now) (sym same)
    (joining_same (jobs_of (take k olds)) whole rest tail e lists joined now s is (to_extends e.job (get_or olds n d).job s.job old tells) now_is)

-- a turn whose entry comes from the next job
pub step_next : (olds whole rest tail : List Entry) (k n : ℕ) (e d : Entry) (lists lists' : List (List Symbol)) (joined joined' now list : List Symbol)
    → AreJoining (jobs_of (take k olds)) whole rest lists joined → rest ≡ e ∷ tail → n ≡ length lists → ¬ Tells e.job (get_or olds n d).job → e.state ≡ Done list → lists' ≡ lists ++ joined ∷ [] → joined' ≡ [] → now ≡ joined' ++ list
    → AreJoining (jobs_of (take k olds)) whole tail lists' now
step_next olds whole rest tail k n e d lists lists' joined joined' now list s is len not done more none longer =
    let old : (get_or olds n d).job ≡ s.job = ap (λ i. (get_or olds i d).job) len ∙ (at_hand olds whole rest k lists joined s d).1 in
    let now_is : now ≡ list_of e.state = longer ∙ ap (λ ss. ss ++ list) none ∙ ap list_of (sym done) in
    subst (λ ls. AreJoining (jobs_of (take k olds)) whole tail ls now) (sym more)
    (joining_next (jobs_of (take k olds)) whole rest tail e lists joined now s is (λ extends. not (from_extends e.job (get_or olds n d).job s.job old extends)) now_is)

pub none_left : {A : Type 0} (xs : List A) (n : ℕ) → n ≡ length xs → n ≡ 0 → xs ≡ []
none_left [] n long zero' = refl
none_left (x ∷ xs) n long zero' = absurd (omega arith)

-- ## Lists put into entries

pub length-done_with : (lists : List (List Symbol)) (es : List Entry) → length (done_with lists es) ≡ length es
length-done_with [] es = refl
length-done_with (l ∷ lists) [] = refl
length-done_with (l ∷ lists) (e ∷ es) = ap suc (length-done_with lists es)

pub done_push : (lists : List (List Symbol)) (list : List Symbol) (es : List Entry) → length lists < length es → with_state_at (length lists) (Done list) (done_with lists es) ≡ done_with (lists ++ list ∷ []) es
done_push [] list [] low = absurd (omega arith)
done_push [] list (e ∷ es) low = refl
done_push (l ∷ lists) list [] low = refl
done_push (l ∷ lists) list (e ∷ es) low = ap (λ ds. entry_of e.number e.job (Done l) ∷ ds) (done_push lists list es (omega arith))
