-- What tests of the entries tell of a machine.
use Rattle.std.proofs.Common.{◌≡◌, ◌↔◌, ℕ, ◌-◌, ◌<◌, ◌≤◌, Bool, true, false, not, ◌≢◌, nat_lt, Option, Some, None, MatchOption, is_some, IsTrue, List, ◌∷◌, length, drop, refl, sym, ap, ◌∙◌, subst, arith}
use Rattle.std.proofs.lemmas.Bool.Decides.{Decides-ltb}
use Rattle.std.proofs.lemmas.List.{length-drop}
use Rattle.std.specs.List.{Contains}
use Rattle.dd_model.specs.Symbol.{Symbol}
use Rattle.dd_model.specs.Lists.{IsWithout}
use Rattle.dd_model.specs.Position.{IsBefore}
use Rattle.dd_model.specs.declared.jobs.Job.{Job}
use Rattle.std.proofs.lemmas.List.Elements.{Contains-append_right}
use Rattle.dd_model.proofs.Lists.{Contains-head, each_of}
use Rattle.dd_model.proofs.Without.{without_unique}
use Rattle.dd_front.specs.Rounds.{IsFirstOpen}
use Rattle.dd_front.specs.Shut.{AreShut}
use Rattle.dd_front.specs.declared.entry.Entry.{Entry}
use Rattle.dd_front.specs.declared.entry.State.{State}
use Rattle.dd_front.specs.declared.entry.State.TheVariants.{Open, Done}
use Rattle.dd_front.specs.Machine.{Machine, entry_of}
use Rattle.dd_front.specs.Allowed.{HasState, HasFirst, MayPart}
use Rattle.dd_front.specs.Taken.{BeginsDone, BeginsNotDone}

pub state_told : (f : Machine) (k : ℕ) (state : State) (es : List Entry) (r : Bool) → es ≡ f.entries → IsTrue r ↔ ((job : Job) × Contains es (entry_of k job state)) → IsTrue r ↔ HasState f k state
state_told f k state es r e both = (
  (λ yes. let there = both.0 yes in record { job = there.0; stands = subst (λ ds. Contains ds (entry_of k there.0 state)) e there.1 }),
  (λ h. both.1 (h.job, subst (λ ds. Contains ds (entry_of k h.job state)) (sym e) h.stands)),
)

pub first_of : (f : Machine) (es : List Entry) (list : List Symbol) (rest : List Entry) → es ≡ f.entries → BeginsDone es list rest → HasFirst f list
first_of f es list rest e begins = record { number = begins.number; job = begins.job; rest = rest; entries = sym e ∙ begins.entries }

pub begins_of : (f : Machine) (es : List Entry) (list : List Symbol) → es ≡ f.entries → (h : HasFirst f list) → BeginsDone es list h.rest
begins_of f es list e h = record { number = h.number; job = h.job; entries = e ∙ h.entries }

-- the first entry has one list
pub one_first : (f : Machine) (xs ys : List Symbol) → HasFirst f xs → HasFirst f ys → xs ≡ ys
one_first f xs ys a b =
    let x = a.entries in
    let y = b.entries in
    let e : entry_of a.number a.job (Done xs) ∷ a.rest ≡ entry_of b.number b.job (Done ys) ∷ b.rest = sym x ∙ y in
    let heads : entry_of a.number a.job (Done xs) ≡ entry_of b.number b.job (Done ys) = cc in
    let states : Done xs ≡ Done ys = ap (λ d. d.state) heads in
    cc

pub part_told : (f : Machine) (es : List Entry) (list : List Symbol) (rest : List Entry) (before len count : ℕ) → es ≡ f.entries → BeginsDone es list rest
    → before ≤ length list → IsWithout (IsBefore f.from) list (drop before list) → len ≡ length list → IsTrue (nat_lt count (len - before)) ↔ MayPart f count
part_told f es list rest before len count e begins within without whole =
    let left : length (drop before list) ≡ len - before = simp length-drop (omega arith) in
    let test = Decides-ltb count (len - before) in (
      (λ yes. let less : count < len - before = test.0 yes in record { list = list; done = first_of f es list rest e begins; later = drop before list; not_before = without; more = omega arith }),
      (λ h.
          let same : h.list ≡ list = one_first f h.list list h.done (first_of f es list rest e begins) in
          let later : h.later ≡ drop before list = without_unique (IsBefore f.from) list h.later (drop before list) (subst (λ ss. IsWithout (IsBefore f.from) ss h.later) same h.not_before) without in
          let more = h.more in
          test.1 (omega (arith, ap length later))),
    )

pub look_told : {A : Type 0} (view : A → Entry) (f : Machine) (es : List Entry) (found : Option A) (r : Bool) → es ≡ f.entries → MatchOption found (AreShut es) (λ a. IsFirstOpen es (view a)) → is_some found ≡ not r
    → IsTrue r ↔ ((e : Entry) → Contains f.entries e → e.state ≢ Open)
look_told view f es None true e told is =
    ((λ yes d there waits. each_of (λ x. x.state ≢ Open) es d told (subst (λ ds. Contains ds d) (sym e) there) waits), (λ none. refl))
look_told view f es None false e told is = absurd cc
look_told view f es (Some a) true e told is = absurd cc
look_told view f es (Some a) false e told is = (
  (λ wrong. absurd cc),
  (λ none.
      let there : Contains es (view a) = subst (λ ds. Contains ds (view a)) (sym told.parts) (Contains-append_right told.before (view a ∷ told.after) (view a) (Contains-head (view a) told.after)) in
      absurd (none (view a) (subst (λ ds. Contains ds (view a)) e there) told.waits)),
)

pub emit_told : {A : Type 0} (view : A → List Symbol) (f : Machine) (es : List Entry) (found : Option A) → es ≡ f.entries
    → MatchOption found (BeginsNotDone es) (λ list. (rest : List Entry) × BeginsDone es (view list) rest) → IsTrue (is_some found) ↔ ((list : List Symbol) × HasFirst f list)
emit_told view f es None e told =
    ((λ wrong. absurd cc), (λ first. absurd (told first.0 first.1.rest (begins_of f es first.0 e first.1))))
emit_told view f es (Some a) e told =
    ((λ yes. (view a, first_of f es (view a) told.0 e told.1)), (λ first. refl))

pub no_part : (f : Machine) (es : List Entry) (count : ℕ) → es ≡ f.entries → BeginsNotDone es → MayPart f count → ⊥
no_part f es count e not h = not h.list h.done.rest (begins_of f es h.list e h.done)
