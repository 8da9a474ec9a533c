-- Entries that come back from a round: each of the round's entries is done with what is under its job.
use Rattle.std.proofs.Common.{◌≡◌, ℕ, ◌<◌, ◌≤◌, List, [], ◌∷◌, ◌++◌, take, drop, refl, sym, ap, ◌∙◌, subst, ⊎_elim, take-append-drop}
use Rattle.std.proofs.lemmas.List.{map-append}
use Rattle.std.proofs.lemmas.List.Elements.{Contains-append_right, Contains-append_left, Contains-append_cases}
use Rattle.std.specs.List.{AllByRecursion, Contains}
use Rattle.dd_model.specs.Symbol.{Symbol}
use Rattle.dd_model.specs.Code.{IsBelow}
use Rattle.dd_model.specs.Jobs.{IsMemberUnder, AreMembersUnder}
use Rattle.dd_model.specs.Joined.{IsUnderOne, IsPartBelow}
use Rattle.dd_model.specs.declared.requests.Request.{Request}
use Rattle.dd_model.specs.declared.jobs.Job.{Job}
use Rattle.dd_model.specs.declared.jobs.Position.{Position}
use Rattle.dd_model.proofs.Lists.{Contains-none, Contains-head, Contains-later, Contains-cases, each_of, all_from_members}
use Rattle.dd_model.proofs.Orders.{not_below_itself}
use Rattle.dd_model.proofs.Pairs.{ArePairs, pairs_append, pairs_front, pairs_back, pairs_across, ascending_pairs, pairs_ascending, part_pairs}
use Rattle.dd_model.proofs.Positions.{under_below}
use Rattle.dd_front.specs.declared.entry.Entry.{Entry}
use Rattle.dd_front.specs.declared.entry.State.TheVariants.{Done}
use Rattle.dd_front.specs.Machine.{Machine, entry_of, jobs_of}
use Rattle.dd_front.specs.Absorbed.{Extends, IsFound, list_of, found_by, ComeFrom, MayAbsorb, AreAbsorbed, Absorbs}
use Rattle.dd_front.specs.Numbers.{AreNumbered}
use Rattle.dd_front.specs.Held.{AreFound, GoOn, IsHeld}
use Rattle.dd_front.proofs.Standing.{under_extended}
use Rattle.dd_front.proofs.Entries.{Differ, done_once, own_pairs, numbered_from, range_of, found_by-append}
use Rattle.dd_front.proofs.Events.{held_with}

-- the entry in whose list a symbol stands
pub record IsFoundIn (es : List Entry) (s : Symbol) : Type 0 where
  pub entry : Entry
  pub listed : Contains es entry
  pub there : Contains (list_of entry.state) s

found_in : (es : List Entry) (s : Symbol) → Contains (found_by es) s → IsFoundIn es s
found_in [] s there = absurd (Contains-none s there)
found_in (e ∷ es) s there =
    ⊎_elim
    (λ early. record { entry = e; listed = Contains-head e es; there = early })
    (λ late. let r = found_in es s late in record { entry = r.entry; listed = Contains-later e r.entry es r.listed; there = r.there })
    (Contains-append_cases (list_of e.state) (found_by es) s there)

-- what an entry has found is under its job
found_under : (q : Request) (e : Entry) (s : Symbol) → IsFound q e → Contains (list_of e.state) s → IsMemberUnder q e.job s
found_under q e s found there = (found.under.members s).0 (subst (λ state. Contains (list_of state) s) found.done there)

-- what entries have found is under a job that they extend
own_under : (q : Request) (job : Job) (es : List Entry) (s : Symbol) → AllByRecursion (IsFound q) es → AllByRecursion (λ e. Extends e.job job) es → Contains (found_by es) s → IsMemberUnder q job s
own_under q job es s found extend there =
    let r = found_in es s there in
    under_extended q r.entry.job job s (each_of (λ e. Extends e.job job) es r.entry extend r.listed) (found_under q r.entry s (each_of (IsFound q) es r.entry found r.listed) r.there)

pub all_front : {A : Type 0} (P : A → Type 0) (xs ys : List A) → AllByRecursion P (xs ++ ys) → AllByRecursion P xs
all_front P xs ys all = all_from_members P xs (λ x there. each_of P (xs ++ ys) x all (Contains-append_left xs ys x there))

pub all_back : {A : Type 0} (P : A → Type 0) (xs ys : List A) → AllByRecursion P (xs ++ ys) → AllByRecursion P ys
all_back P xs ys all = all_from_members P ys (λ x there. each_of P (xs ++ ys) x all (Contains-append_right xs ys x there))

-- what the entries handed in have found is under a job of the round
others_under : (q : Request) (olds es done : List Entry) (s : Symbol) → AllByRecursion (IsFound q) es → AreAbsorbed olds es done → Contains (found_by es) s → IsUnderOne q (jobs_of olds) s
others_under q [] es [] s found are there = absurd (Contains-none s (subst (λ xs. Contains (found_by xs) s) are there))
others_under q [] es (b ∷ bs) s found are there = absurd are
others_under q (a ∷ olds) es [] s found are there = absurd are
others_under q (a ∷ olds) es (b ∷ bs) s found are there =
    let own = are.0 in
    let rest = are.1 in
    let parts : AllByRecursion (IsFound q) (own ++ rest) = subst (AllByRecursion (IsFound q)) are.2 found in
    let listed : Contains (found_by own ++ found_by rest) s = subst (λ ss. Contains ss s) (ap found_by are.2 ∙ found_by-append own rest) there in
    ⊎_elim
    (λ early. record { job = a.job; listed = Contains-head a.job (jobs_of olds); under = own_under q a.job own s (all_front (IsFound q) own rest parts) are.3 early })
    (λ late.
    let r = others_under q olds rest bs s (all_back (IsFound q) own rest parts) are.5 late in
    record { job = r.job; listed = Contains-later a.job r.job (jobs_of olds) r.listed; under = r.under })
    (Contains-append_cases (found_by own) (found_by rest) s listed)

-- nothing is under two of the round's jobs
not_under_both : (q : Request) (job : Job) (jobs : List Job) (s : Symbol) → ArePairs IsPartBelow (job ∷ jobs) → IsMemberUnder q job s → IsUnderOne q jobs s → ⊥
not_under_both q job jobs s pairs under other =
    not_below_itself s (under_below q job other.job s s (each_of (IsPartBelow job) jobs other.job pairs.0 other.listed) under other.under)

-- each of the round's entries is done with what is under its job
absorbed_found : (q : Request) (olds es done : List Entry) → AllByRecursion (IsFound q) es → ArePairs IsBelow (found_by es) → ArePairs IsPartBelow (jobs_of olds)
    → ((s : Symbol) → IsUnderOne q (jobs_of olds) s → Contains (found_by es) s) → AreAbsorbed olds es done → AreFound q done
absorbed_found q [] es [] found order parts complete are e there list is = absurd (Contains-none e there)
absorbed_found q [] es (b ∷ bs) found order parts complete are e there list is = absurd are
absorbed_found q (a ∷ olds) es [] found order parts complete are e there list is = absurd are
absorbed_found q (a ∷ olds) es (b ∷ bs) found order parts complete are e there list is =
    let own = are.0 in
    let rest = are.1 in
    let both : AllByRecursion (IsFound q) (own ++ rest) = subst (AllByRecursion (IsFound q)) are.2 found in
    let own_found = all_front (IsFound q) own rest both in
    let rest_found = all_back (IsFound q) own rest both in
    let whole : found_by es ≡ found_by own ++ found_by rest = ap found_by are.2 ∙ found_by-append own rest in
    let orders : ArePairs IsBelow (found_by own ++ found_by rest) = subst (ArePairs IsBelow) whole order in
    let where_it = λ (s : Symbol) (under : IsUnderOne q (a.job ∷ jobs_of olds) s). Contains-append_cases (found_by own) (found_by rest) s (subst (λ ss. Contains ss s) whole (complete s under)) in
    let mine : AreMembersUnder q a.job (found_by own) =
    record {
      ascending = pairs_ascending (found_by own) (pairs_front IsBelow (found_by own) (found_by rest) orders);
      members = λ s. (
        (λ early. own_under q a.job own s own_found are.3 early),
        (λ under. ⊎_elim
            (λ early. early)
            (λ late. absurd (not_under_both q a.job (jobs_of olds) s parts under (others_under q olds rest bs s rest_found are.5 late)))
            (where_it s (record { job = a.job; listed = Contains-head a.job (jobs_of olds); under = under }))),
      );
    } in
    ⊎_elim
    (λ first.
    let entry : entry_of a.number a.job (Done (found_by own)) ≡ e = sym are.4 ∙ first in
    let lists : found_by own ≡ list = done_once (found_by own) list (ap (λ (x : Entry). x.state) entry ∙ is) in
    subst (λ (x : Entry). AreMembersUnder q x.job list) entry (subst (AreMembersUnder q a.job) lists mine))
    (λ later. absorbed_found q olds rest bs rest_found (pairs_back IsBelow (found_by own) (found_by rest) orders) parts.1
    (λ s under. ⊎_elim
    (λ early. absurd (not_under_both q a.job (jobs_of olds) s parts (own_under q a.job own s own_found are.3 early) under))
    (λ late. late)
    (where_it s (record { job = under.job; listed = Contains-later a.job under.job (jobs_of olds) under.listed; under = under.under })))
    are.5 e later list is)
    (Contains-cases b e bs there)

pub absorbed_jobs : (olds es done : List Entry) → AreAbsorbed olds es done → jobs_of done ≡ jobs_of olds
absorbed_jobs [] es [] are = refl
absorbed_jobs [] es (b ∷ bs) are = absurd are
absorbed_jobs (a ∷ olds) es [] are = absurd are
absorbed_jobs (a ∷ olds) es (b ∷ bs) are = ap (λ (x : Entry). x.job ∷ jobs_of bs) are.4 ∙ ap (λ js. a.job ∷ js) (absorbed_jobs olds are.1 bs are.5)

-- each keeps its number
absorbed_numbers : (olds es done : List Entry) → AreAbsorbed olds es done → (b : Entry) → Contains done b → (a : Entry) × Contains olds a × (b.number ≡ a.number)
absorbed_numbers [] es [] are b there = absurd (Contains-none b there)
absorbed_numbers [] es (c ∷ bs) are b there = absurd are
absorbed_numbers (a ∷ olds) es [] are b there = absurd are
absorbed_numbers (a ∷ olds) es (c ∷ bs) are b there =
    ⊎_elim
    (λ first. (a, Contains-head a olds, ap (λ (x : Entry). x.number) (sym first ∙ are.4)))
    (λ later. let r = absorbed_numbers olds are.1 bs are.5 b later in (r.0, Contains-later a r.0 olds r.1, r.2))
    (Contains-cases c b bs there)

absorbed_differ : (olds es done : List Entry) → AreAbsorbed olds es done → ArePairs Differ olds → ArePairs Differ done
absorbed_differ [] es [] are pairs = tt
absorbed_differ [] es (b ∷ bs) are pairs = absurd are
absorbed_differ (a ∷ olds) es [] are pairs = absurd are
absorbed_differ (a ∷ olds) es (b ∷ bs) are pairs = (
  all_from_members (Differ b) bs (λ c there same.
      let r = absorbed_numbers olds are.1 bs are.5 c there in
      each_of (Differ a) olds r.0 pairs.0 r.1 (ap (λ (x : Entry). x.number) (sym are.4) ∙ same ∙ r.2)),
  absorbed_differ olds are.1 bs are.5 pairs.1,
)

absorbed_numbered : (next : ℕ) (olds es done back : List Entry) → AreAbsorbed olds es done → AreNumbered next (olds ++ back) → AreNumbered next (done ++ back)
absorbed_numbered next olds es done back are numbered =
    let pairs = own_pairs (olds ++ back) numbered.own in
    let range = range_of next (olds ++ back) numbered in
    numbered_from next (done ++ back)
    (λ e there. ⊎_elim
    (λ early.
    let r = absorbed_numbers olds es done are e early in
    subst (λ n. (1 ≤ n) × (n < next)) (sym r.2) (range r.0 (Contains-append_left olds back r.0 r.1)))
    (λ late. range e (Contains-append_right olds back e late))
    (Contains-append_cases done back e there))
    (pairs_append Differ done back
    (absorbed_differ olds es done are (pairs_front Differ olds back pairs))
    (pairs_back Differ olds back pairs)
    (λ b c hb hc same.
    let r = absorbed_numbers olds es done are b hb in
    pairs_across Differ olds back pairs r.0 c r.1 hc (sym r.2 ∙ same)))

pub held_absorbed : (q : Request) (jobs : List Job) (at : Position) (f g : Machine) (out : List Symbol) (k : ℕ) (es : List Entry) → IsHeld q jobs at f out → MayAbsorb f k es → Absorbs f k es g → IsHeld q jobs at g out
held_absorbed q jobs at f g out k es held may absorbs =
    let olds = take k f.entries in
    let back = drop k f.entries in
    let done = absorbs.done in
    let whole : f.entries ≡ olds ++ back = sym (take-append-drop k f.entries) in
    let from : ComeFrom q (jobs_of olds) es = subst (λ r. ComeFrom r (jobs_of olds) es) held.request may.come_from in
    let same : jobs_of f.entries ≡ jobs_of (done ++ back) =
    ap jobs_of whole ∙ map-append (λ (e : Entry). e.job) olds back ∙ ap (λ js. js ++ jobs_of back) (sym (absorbed_jobs olds es done absorbs.absorbed)) ∙ sym (map-append (λ (e : Entry). e.job) done back) in
    let parts : ArePairs IsPartBelow (jobs_of olds ++ jobs_of back) =
    subst (ArePairs IsPartBelow) (ap jobs_of whole ∙ map-append (λ (e : Entry). e.job) olds back) (part_pairs (jobs_of f.entries) held.go_on.ascending_jobs held.go_on.apart) in
    let found_here : AreFound q done =
    absorbed_found q olds es done from.found (ascending_pairs (found_by es) from.all.ascending) (pairs_front IsPartBelow (jobs_of olds) (jobs_of back) parts) (λ s under. (from.all.members s).1 under) absorbs.absorbed in
    let found : AreFound q (done ++ back) = λ e there. ⊎_elim
    (λ early. found_here e early)
    (λ late. held.found e (subst (λ xs. Contains xs e) (sym whole) (Contains-append_right olds back e late)))
    (Contains-append_cases done back e there) in
    let numbered = absorbed_numbered f.next olds es done back absorbs.absorbed (subst (AreNumbered f.next) whole held.numbered) in
    subst (λ m. IsHeld q jobs at m out) (sym absorbs.after)
    (held_with q jobs at f out (done ++ back) f.next held numbered found (subst (λ js. GoOn q jobs at js f.from out) same held.go_on))
