-- The store and the sink of a command, as far as they tell, before it and after it.
use Rattle.std.specs.Prelude.{◌≡◌, ℕ, List, [], Option, Bool, true}
use Rattle.std.specs.Io.KnownBytes.{Appends}
use Rattle.dd_ports.specs.Texts.{SameTexts}
use Rattle.dd_ports.specs.declared.store.Store.{Ghosts as Stores}
use Rattle.dd_ports.specs.declared.sink.Sink.{Ghosts as Sinks}
use Rattle.dd_suite_tasks.specs.declared.ending.Ending.{Ending}
use Rattle.dd_suite_tasks.specs.declared.ending.Ending.TheVariants.{SinkFault}

-- before: whether the store tells, what its names hold, what the sink holds, and how often each has failed
pub record Before : Type 0 where
  pub tells : Bool
  pub held : List ℕ → Option (List ℕ)
  pub store_faults : ℕ
  pub written : Option (List ℕ)
  pub sink_faults : ℕ

-- after: what the names hold, what the sink holds, and how often each has failed
pub record After : Type 0 where
  pub held : List ℕ → Option (List ℕ)
  pub store_faults : ℕ
  pub written : Option (List ℕ)
  pub sink_faults : ℕ

-- what a store and a sink tell before a command
abbrev pub before_of : {S O : Type 0} → Stores S → Sinks O → S → O → Before
before_of s o store out =
    record { tells = s.tells store; held = s.held store; store_faults = s.faults store; written = o.held out; sink_faults = o.faults out }

-- what they tell after it
abbrev pub after_of : {S O : Type 0} → Stores S → Sinks O → S → O → After
after_of s o store out = record { held = s.held store; store_faults = s.faults store; written = o.held out; sink_faults = o.faults out }

-- a store that tells goes on telling, and every name holds what it held
abbrev pub KeepsTexts : {S : Type 0} → Stores S → S → S → Type 0
KeepsTexts s old new = s.tells old ≡ true → (s.tells new ≡ true) × SameTexts (s.held old) (s.held new)

-- a sink that is sure has no more faults than before, and none is answered
abbrev pub KeepsSure : {O : Type 0} → Sinks O → O → O → Ending → Type 0
KeepsSure o old new ending = o.sure old ≡ true → (o.faults new ≡ o.faults old) × (ending ≡ SinkFault → ⊥)

-- nothing was written
abbrev pub WritesNothing : Before → After → Type 0
WritesNothing before after = Appends before.written after.written []

-- every name holds what it held, as far as the store tells
abbrev pub KeepsNames : Before → After → Type 0
KeepsNames before after = before.tells ≡ true → SameTexts before.held after.held
