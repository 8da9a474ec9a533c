-- What an event does to a machine.
use Rattle.std.specs.Prelude.{◌≡◌, ℕ, zero, suc, ◌+◌, ◌-◌, cond, List, [], ◌∷◌, ◌++◌, length, take, nat_eq}
use Rattle.dd_model.specs.Symbol.{Symbol}
use Rattle.dd_model.specs.Code.{code}
use Rattle.dd_model.specs.Lists.{IsWithout}
use Rattle.dd_model.specs.Position.{IsBefore, IsWhollyBefore}
use Rattle.dd_model.specs.declared.jobs.Job.{Job}
use Rattle.dd_model.specs.declared.jobs.Position.{Position}
use Rattle.dd_model.specs.declared.jobs.Position.TheVariants.{At}
use Rattle.dd_front.specs.declared.entry.Entry.{Entry}
use Rattle.dd_front.specs.declared.entry.State.{State}
use Rattle.dd_front.specs.declared.entry.State.TheVariants.{Open, Out, Done}
use Rattle.dd_front.specs.declared.event.Event.{Event}
use Rattle.dd_front.specs.declared.event.Event.TheVariants.{Take, Look, Split, Finish, Back, Emit, Part, Save, Resume}
use Rattle.dd_front.specs.Machine.{Machine, entry_of, open_entries, StandsAt}
use Rattle.dd_front.specs.Allowed.{IsAllowed, HasFirst}

-- the entries with this list in the place of the one of number k
abbrev pub replaced : ℕ → (Entry → List Entry) → List Entry → List Entry
replaced k new [] = []
replaced k new (e ∷ es) = cond (nat_eq e.number k) (new e) (e ∷ []) ++ replaced k new es

-- the entries with the one of number k in this state; the number 0 changes nothing
abbrev pub with_state : ℕ → State → List Entry → List Entry
with_state zero state es = es
with_state (suc k) state es = replaced (suc k) (λ e. entry_of e.number e.job state ∷ []) es

-- the entries with open ones for these jobs in the place of the one of number k
abbrev pub split_entries : ℕ → ℕ → List Job → List Entry → List Entry
split_entries zero next jobs es = es
split_entries (suc k) next jobs es = replaced (suc k) (λ e. open_entries next jobs) es

-- how many numbers a split takes
abbrev pub taken_numbers : ℕ → List Job → ℕ
taken_numbers zero jobs = 0
taken_numbers (suc k) jobs = length jobs

-- the position at which a symbol is the next
abbrev pub at_symbol : Symbol → Position
at_symbol s = At (record { size = s.size; prefix = code s })

-- The first entry leaves. Its members that are not before `from` are emitted.
pub record Emits (f g : Machine) (emitted : List Symbol) : Type 0 where
  pub list : List Symbol
  pub first : HasFirst f list
  pub not_before : IsWithout (IsBefore f.from) list emitted
  pub after : g ≡ record f { entries = first.rest; lines = f.lines + length emitted }

-- The first k of these members are emitted, and the machine goes on at the next one.
pub record EmitsPart (f : Machine) (k : ℕ) (g : Machine) (emitted : List Symbol) : Type 0 where
  pub list : List Symbol
  pub first : HasFirst f list
  pub next : Symbol
  pub rest : List Symbol
  pub not_before : IsWithout (IsBefore f.from) list (emitted ++ next ∷ rest)
  pub count : length emitted ≡ k
  pub after : g ≡ record f { from = at_symbol next; lines = f.lines + k }

-- the lines and the position of the machine are what is saved
pub record Saves (f g : Machine) : Type 0 where
  pub position : Position
  pub stands : StandsAt f.from f.entries position
  pub after : g ≡ record f { saved = record { lines = f.lines; position = position } }

-- the machine goes back to what is saved
pub record Resumes (f g : Machine) : Type 0 where
  pub jobs : List Job
  pub remaining : IsWithout (IsWhollyBefore f.saved.position) f.opening jobs
  pub after : g ≡ record f { from = f.saved.position; entries = open_entries 1 jobs; next = length jobs + 1; lines = f.saved.lines }

-- the machine after an event, and the symbols that the event emits
abbrev pub IsStep : Machine → Event → Machine → List Symbol → Type 0
IsStep f (Take worker k) g emitted = (g ≡ record f { entries = with_state k Out f.entries }) × (emitted ≡ [])
IsStep f (Look worker) g emitted = (g ≡ f) × (emitted ≡ [])
IsStep f (Split worker k jobs) g emitted =
    (g ≡ record f { entries = split_entries k f.next jobs f.entries; next = f.next + taken_numbers k jobs }) × (emitted ≡ [])
IsStep f (Finish worker k list) g emitted = (g ≡ record f { entries = with_state k (Done list) f.entries }) × (emitted ≡ [])
IsStep f (Back worker k) g emitted = (g ≡ record f { entries = with_state k Open f.entries }) × (emitted ≡ [])
IsStep f Emit g emitted = Emits f g emitted
IsStep f (Part count) g emitted = EmitsPart f count g emitted
IsStep f Save g emitted = Saves f g × (emitted ≡ [])
IsStep f Resume g emitted = Resumes f g × (emitted ≡ [])

-- all symbols emitted so far: a resumption cuts them to the lines saved since the opening
abbrev pub out_after : Machine → Event → List Symbol → List Symbol → List Symbol
out_after f Resume out emitted = take (f.saved.lines - f.opened) out
out_after f e out emitted = out ++ emitted

-- one event of a run
pub record IsNext (f : Machine) (e : Event) (g : Machine) (emitted : List Symbol) : Type 0 where
  pub allowed : IsAllowed f e
  pub step : IsStep f e g emitted

-- a list of allowed events leads from one machine to another, and from one list of symbols emitted to another
abbrev pub IsRun : Machine → List Symbol → List Event → Machine → List Symbol → Type 0
IsRun f out [] g out' = (g ≡ f) × (out' ≡ out)
IsRun f out (e ∷ es) g out' = (h : Machine) × (emitted : List Symbol) × IsNext f e h emitted × IsRun h (out_after f e out emitted) es g out'
