-- Each event that is allowed keeps what is held.
use Rattle.std.proofs.Common.{◌≡◌, ◌⊎◌, ℕ, zero, suc, ◌+◌, ◌-◌, List, [], ◌∷◌, ◌++◌, length, length-append, length-take-le, take, drop, refl, sym, ap, ◌∙◌, subst, inl, inr, ⊎_elim, arith, take-append-drop}
use Rattle.std.proofs.lemmas.List.{append-nil, take_all}
use Rattle.std.specs.List.{Contains}
use Rattle.dd_model.specs.Symbol.{Symbol}
use Rattle.dd_model.specs.Code.{IsBelow}
use Rattle.dd_model.specs.Lists.{IsWithout}
use Rattle.dd_model.specs.Position.{IsWhollyBefore}
use Rattle.dd_model.specs.Wanted.{IsAscending}
use Rattle.dd_model.specs.Jobs.{AreMembersUnder, AreChildren}
use Rattle.dd_model.specs.declared.requests.Request.{Request}
use Rattle.dd_model.specs.declared.jobs.Job.{Job}
use Rattle.dd_model.specs.declared.jobs.Position.{Position}
use Rattle.dd_model.proofs.Lists.{Contains-head, Contains-later, Contains-one}
use Rattle.dd_model.proofs.Pairs.{ArePairs, pairs_front, ascending_pairs, pairs_ascending}
use Rattle.dd_front.specs.declared.entry.Entry.{Entry}
use Rattle.dd_front.specs.declared.entry.State.{State}
use Rattle.dd_front.specs.declared.entry.State.TheVariants.{Open, Out, Done}
use Rattle.dd_front.specs.declared.event.Event.{Event}
use Rattle.dd_front.specs.declared.event.Event.TheVariants.{Take, Look, Split, Finish, Back, Emit, Part, Save, Resume}
use Rattle.dd_front.specs.Machine.{Machine, entry_of, open_entries, jobs_of}
use Rattle.dd_front.specs.Allowed.{HasState, HasFirst, MaySplit, MayFinish}
use Rattle.dd_front.specs.Step.{with_state, split_entries, taken_numbers, at_symbol, Emits, EmitsPart, Saves, Resumes, IsNext, out_after}
use Rattle.dd_front.specs.Numbers.{AreNumbered}
use Rattle.dd_front.specs.Held.{AreFound, GoOn, IsSaved, IsHeld}
use Rattle.dd_front.proofs.GoingOn.{go_on_split, go_on_emit, go_on_part, go_on_again}
use Rattle.dd_front.proofs.Entries.{own_pairs, open_not_done, out_not_done, done_once, in_place, jobs_opened, opened_numbered, opened_found, opened_in_place, one_numbered, middle_found, jobs_middle}
use Rattle.dd_front.proofs.Holding.{saved_where_it_stands, saved_stays}

-- ## Events that emit nothing

none_more : (q : Request) (jobs : List Job) (at : Position) (f : Machine) (out emitted : List Symbol) → emitted ≡ [] → IsHeld q jobs at f out → IsHeld q jobs at f (out ++ emitted)
none_more q jobs at f out emitted none held = subst (IsHeld q jobs at f) (sym (append-nil out) ∙ ap (λ es. out ++ es) (sym none)) held

-- other entries that go on with the same members
pub held_with : (q : Request) (jobs : List Job) (at : Position) (f : Machine) (out : List Symbol) (entries : List Entry) (next : ℕ) → IsHeld q jobs at f out → AreNumbered next entries → AreFound q entries
    → GoOn q jobs at (jobs_of entries) f.from out → IsHeld q jobs at (record f { entries = entries; next = next }) out
held_with q jobs at f out entries next held numbered found go =
    let g : Machine = record f { entries = entries; next = next } in
    record {
      request = held.request;
      opening = held.opening;
      ascending = held.ascending;
      apart = held.apart;
      numbered = numbered;
      found = found;
      go_on = go;
      lines = held.lines;
      saved = subst (IsSaved q jobs at g) (append-nil out) (saved_stays q jobs at f g out [] refl refl held.saved);
    }

-- one entry in another state
held_in_state : (q : Request) (jobs : List Job) (at : Position) (f : Machine) (out : List Symbol) (k : ℕ) (old new : State) (has : HasState f (suc k) old) → IsHeld q jobs at f out
    → ((list : List Symbol) → new ≡ Done list → AreMembersUnder q has.job list) → IsHeld q jobs at (record f { entries = with_state (suc k) new f.entries }) out
held_in_state q jobs at f out k old new has held under =
    let entry = entry_of (suc k) has.job old in
    let changed = entry_of (suc k) has.job new in
    let place = in_place (suc k) (λ e. entry_of e.number e.job new ∷ []) f.entries entry (own_pairs f.entries held.numbered.own) has.stands refl in
    let after : List Entry = place.front ++ (changed ∷ [] ++ place.back) in
    let same : jobs_of f.entries ≡ jobs_of after = ap jobs_of place.before ∙ jobs_middle place.front place.back (entry ∷ []) ∙ sym (jobs_middle place.front place.back (changed ∷ [])) in
    let numbered : AreNumbered f.next after = one_numbered f.next place.front place.back entry changed refl (subst (AreNumbered f.next) place.before held.numbered) in
    let found : AreFound q after = middle_found q place.front place.back (changed ∷ []) entry (subst (AreFound q) place.before held.found)
    (λ e there list done.
    let is : changed ≡ e = Contains-one changed e there in
    subst (λ (x : Entry). AreMembersUnder q x.job list) is (under list (ap (λ (x : Entry). x.state) is ∙ done))) in
    subst (λ es. IsHeld q jobs at (record f { entries = es }) out) (sym place.after)
    (held_with q jobs at f out after f.next held numbered found (subst (λ js. GoOn q jobs at js f.from out) same held.go_on))

held_taken : (q : Request) (jobs : List Job) (at : Position) (f : Machine) (out : List Symbol) (k : ℕ) → HasState f k Open → IsHeld q jobs at f out → IsHeld q jobs at (record f { entries = with_state k Out f.entries }) out
held_taken q jobs at f out zero has held = held
held_taken q jobs at f out (suc k) has held = held_in_state q jobs at f out k Open Out has held (λ list done. absurd (out_not_done list done))

held_back : (q : Request) (jobs : List Job) (at : Position) (f : Machine) (out : List Symbol) (k : ℕ) → (k ≡ 0) ⊎ HasState f k Out → IsHeld q jobs at f out → IsHeld q jobs at (record f { entries = with_state k Open f.entries }) out
held_back q jobs at f out zero may held = held
held_back q jobs at f out (suc k) may held =
    ⊎_elim
    (λ none. absurd (omega arith))
    (λ has. held_in_state q jobs at f out k Out Open has held (λ list done. absurd (open_not_done list done)))
    may

held_finished : (q : Request) (jobs : List Job) (at : Position) (f : Machine) (out : List Symbol) (k : ℕ) (list : List Symbol) → (k ≡ 0) ⊎ MayFinish f k list → IsHeld q jobs at f out
    → IsHeld q jobs at (record f { entries = with_state k (Done list) f.entries }) out
held_finished q jobs at f out zero list may held = held
held_finished q jobs at f out (suc k) list may held =
    ⊎_elim
    (λ none. absurd (omega arith))
    (λ finish. held_in_state q jobs at f out k Out (Done list) finish.out held (λ other done.
    subst (AreMembersUnder q finish.out.job) (done_once list other done) (subst (λ r. AreMembersUnder r finish.out.job list) held.request finish.under)))
    may

-- ## A split

held_split : (q : Request) (jobs : List Job) (at : Position) (f : Machine) (out : List Symbol) (k : ℕ) (cs : List Job) → (k ≡ 0) ⊎ MaySplit f k cs → IsHeld q jobs at f out
    → IsHeld q jobs at (record f { entries = split_entries k f.next cs f.entries; next = f.next + taken_numbers k cs }) out
held_split q jobs at f out zero cs may held =
    let next : f.next ≡ f.next + 0 = omega arith in
    subst (λ n. IsHeld q jobs at (record f { next = n }) out) next held
held_split q jobs at f out (suc k) cs (inl none) held = absurd (omega arith)
held_split q jobs at f out (suc k) cs (inr split) held =
    let job = split.out.job in
    let entry = entry_of (suc k) job Out in
    let news = open_entries f.next cs in
    let place = in_place (suc k) (λ e. open_entries f.next cs) f.entries entry (own_pairs f.entries held.numbered.own) split.out.stands refl in
    let after : List Entry = place.front ++ (news ++ place.back) in
    let children : AreChildren q job cs = subst (λ r. AreChildren r job cs) held.request split.children in
    let before : jobs_of f.entries ≡ jobs_of place.front ++ job ∷ jobs_of place.back = ap jobs_of place.before ∙ jobs_middle place.front place.back (entry ∷ []) in
    let behind : jobs_of place.front ++ (cs ++ jobs_of place.back) ≡ jobs_of after
    = ap (λ js. jobs_of place.front ++ (js ++ jobs_of place.back)) (sym (jobs_opened f.next cs)) ∙ sym (jobs_middle place.front place.back news) in
    let numbered : AreNumbered (f.next + length cs) after = opened_in_place f.next place.front place.back entry cs (subst (AreNumbered f.next) place.before held.numbered) in
    let found : AreFound q after = middle_found q place.front place.back news entry (subst (AreFound q) place.before held.found) (opened_found q f.next cs) in
    let go = go_on_split q jobs at f.from out (jobs_of place.front) (jobs_of place.back) cs job (subst (λ js. GoOn q jobs at js f.from out) before held.go_on) children in
    subst (λ es. IsHeld q jobs at (record f { entries = es; next = f.next + length cs }) out) (sym place.after)
    (held_with q jobs at f out after (f.next + length cs) held numbered found (subst (λ js. GoOn q jobs at js f.from out) behind go))

-- ## Members that are emitted

-- what is under the job of the first entry
first_under : (q : Request) (jobs : List Job) (at : Position) (f : Machine) (out list : List Symbol) (first : HasFirst f list) → IsHeld q jobs at f out → AreMembersUnder q first.job list
first_under q jobs at f out list first held =
    let entry = entry_of first.number first.job (Done list) in
    held.found entry (subst (λ es. Contains es entry) (sym first.entries) (Contains-head entry first.rest)) list refl

first_goes_on : (q : Request) (jobs : List Job) (at : Position) (f : Machine) (out list : List Symbol) (first : HasFirst f list) → IsHeld q jobs at f out → GoOn q jobs at (first.job ∷ jobs_of first.rest) f.from out
first_goes_on q jobs at f out list first held = subst (λ js. GoOn q jobs at js f.from out) (ap jobs_of first.entries) held.go_on

held_emitted : (q : Request) (jobs : List Job) (at : Position) (f g : Machine) (out emitted : List Symbol) → Emits f g emitted → IsHeld q jobs at f out → IsHeld q jobs at g (out ++ emitted)
held_emitted q jobs at f g out emitted emits held =
    let first = emits.first in
    let entry = entry_of first.number first.job (Done emits.list) in
    let h : Machine = record f { entries = first.rest; lines = f.lines + length emitted } in
    let numbered : AreNumbered f.next (entry ∷ first.rest) = subst (AreNumbered f.next) first.entries held.numbered in
    let found : AreFound q (entry ∷ first.rest) = subst (AreFound q) first.entries held.found in
    let lines = held.lines in
    let longer = length-append out emitted in
    let after : IsHeld q jobs at h (out ++ emitted) =
    record {
      request = held.request;
      opening = held.opening;
      ascending = held.ascending;
      apart = held.apart;
      numbered = record { own = numbered.own.2; below = numbered.below.1 };
      found = λ e there. found e (Contains-later entry e first.rest there);
      go_on = go_on_emit q jobs at f.from out first.job (jobs_of first.rest) (first_goes_on q jobs at f out emits.list first held) emits.list emitted (first_under q jobs at f out emits.list first held) emits.not_before;
      lines = omega arith;
      saved = saved_stays q jobs at f h out emitted refl refl held.saved;
    } in
    subst (λ m. IsHeld q jobs at m (out ++ emitted)) (sym emits.after) after

held_parted : (q : Request) (jobs : List Job) (at : Position) (f g : Machine) (out emitted : List Symbol) (k : ℕ) → EmitsPart f k g emitted → IsHeld q jobs at f out → IsHeld q jobs at g (out ++ emitted)
held_parted q jobs at f g out emitted k emits held =
    let first = emits.first in
    let h : Machine = record f { from = at_symbol emits.next; lines = f.lines + k } in
    let lines = held.lines in
    let longer = length-append out emitted in
    let count = emits.count in
    let go = go_on_part q jobs at f.from out first.job (jobs_of first.rest) (first_goes_on q jobs at f out emits.list first held) emits.list emitted emits.rest emits.next
    (first_under q jobs at f out emits.list first held) emits.not_before in
    let after : IsHeld q jobs at h (out ++ emitted) =
    record {
      request = held.request;
      opening = held.opening;
      ascending = held.ascending;
      apart = held.apart;
      numbered = held.numbered;
      found = held.found;
      go_on = subst (λ js. GoOn q jobs at js (at_symbol emits.next) (out ++ emitted)) (sym (ap jobs_of first.entries)) go;
      lines = omega arith;
      saved = saved_stays q jobs at f h out emitted refl refl held.saved;
    } in
    subst (λ m. IsHeld q jobs at m (out ++ emitted)) (sym emits.after) after

-- ## What is saved

held_saved : (q : Request) (jobs : List Job) (at : Position) (f g : Machine) (out : List Symbol) → Saves f g → IsHeld q jobs at f out → IsHeld q jobs at g out
held_saved q jobs at f g out saves held =
    let h : Machine = record f { saved = record { lines = f.lines; position = saves.position } } in
    let after : IsHeld q jobs at h out =
    record {
      request = held.request;
      opening = held.opening;
      ascending = held.ascending;
      apart = held.apart;
      numbered = held.numbered;
      found = held.found;
      go_on = held.go_on;
      lines = held.lines;
      saved = saved_where_it_stands q jobs at f h out held.go_on saves.stands held.lines;
    } in
    subst (λ m. IsHeld q jobs at m out) (sym saves.after) after

held_again : (q : Request) (jobs : List Job) (at : Position) (f g : Machine) (out : List Symbol) → Resumes f g → IsHeld q jobs at f out → IsHeld q jobs at g (take (f.saved.lines - f.opened) out)
held_again q jobs at f g out resumes held =
    let old = held.saved in
    let enough = old.enough in
    let told = old.lines in
    let count : old.count ≡ f.saved.lines - f.opened = omega arith in
    let kept : List Symbol = take old.count out in
    let size : length kept ≡ old.count = length-take-le old.count out enough in
    let whole : take old.count kept ≡ kept = take_all old.count kept (omega arith) in
    let order : IsAscending kept = pairs_ascending kept (pairs_front IsBelow kept (drop old.count out) (subst (λ ss. ArePairs IsBelow ss) (sym (take-append-drop old.count out)) (ascending_pairs out held.go_on.ascending))) in
    let remaining : IsWithout (IsWhollyBefore f.saved.position) jobs resumes.jobs = subst (λ js. IsWithout (IsWhollyBefore f.saved.position) js resumes.jobs) held.opening resumes.remaining in
    let h : Machine = record f { from = f.saved.position; entries = open_entries 1 resumes.jobs; next = length resumes.jobs + 1; lines = f.saved.lines } in
    let after : IsHeld q jobs at h kept =
    record {
      request = held.request;
      opening = held.opening;
      ascending = held.ascending;
      apart = held.apart;
      numbered = opened_numbered resumes.jobs;
      found = opened_found q 1 resumes.jobs;
      go_on = subst (λ js. GoOn q jobs at js f.saved.position kept) (sym (jobs_opened 1 resumes.jobs)) (go_on_again q jobs resumes.jobs at f.saved.position kept held.ascending held.apart remaining old.further order old.emitted old.complete);
      lines = omega arith;
      saved = record {
        count = old.count;
        enough = omega arith;
        lines = old.lines;
        further = old.further;
        emitted = λ s there. old.emitted s (subst (λ ss. Contains ss s) whole there);
        complete = λ s between. subst (λ ss. Contains ss s) (sym whole) (old.complete s between);
      };
    } in
    subst (λ n. IsHeld q jobs at g (take n out)) count (subst (λ m. IsHeld q jobs at m kept) (sym resumes.after) after)

-- ## Each event

pub held_next : (q : Request) (jobs : List Job) (at : Position) (f g : Machine) (out emitted : List Symbol) (e : Event) → IsHeld q jobs at f out → IsNext f e g emitted → IsHeld q jobs at g (out_after f e out emitted)
held_next q jobs at f g out emitted (Take worker k) held next =
    none_more q jobs at g out emitted next.step.1 (subst (λ m. IsHeld q jobs at m out) (sym next.step.0) (held_taken q jobs at f out k next.allowed held))
held_next q jobs at f g out emitted (Look worker) held next = none_more q jobs at g out emitted next.step.1 (subst (λ m. IsHeld q jobs at m out) (sym next.step.0) held)
held_next q jobs at f g out emitted (Split worker k cs) held next =
    none_more q jobs at g out emitted next.step.1 (subst (λ m. IsHeld q jobs at m out) (sym next.step.0) (held_split q jobs at f out k cs next.allowed held))
held_next q jobs at f g out emitted (Finish worker k list) held next =
    none_more q jobs at g out emitted next.step.1 (subst (λ m. IsHeld q jobs at m out) (sym next.step.0) (held_finished q jobs at f out k list next.allowed held))
held_next q jobs at f g out emitted (Back worker k) held next =
    none_more q jobs at g out emitted next.step.1 (subst (λ m. IsHeld q jobs at m out) (sym next.step.0) (held_back q jobs at f out k next.allowed held))
held_next q jobs at f g out emitted Emit held next = held_emitted q jobs at f g out emitted next.step held
held_next q jobs at f g out emitted (Part count) held next = held_parted q jobs at f g out emitted count next.step held
held_next q jobs at f g out emitted Save held next = none_more q jobs at g out emitted next.step.1 (held_saved q jobs at f g out next.step.0 held)
held_next q jobs at f g out emitted Resume held next = held_again q jobs at f g out next.step.0 held
