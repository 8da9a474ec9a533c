-- What a call keeps of a store and of a sink.
use Rattle.std.specs.Prelude.{◌≡◌, List, ℕ, true, Result}
use Rattle.dd_ports.specs.Causes.{StaysSure}
use Rattle.dd_ports.specs.Texts.{SameOthers}
use Rattle.dd_ports.specs.declared.store.Store.{Ghosts as Stores}
use Rattle.dd_ports.specs.declared.sink.Sink.{Ghosts as Sinks}

-- a store that is sure stays sure, its count stays, and this fault is not answered
abbrev pub StoreStaysSure : {S T E : Type 0} → Stores S → E → S → S → Result T E → Type 0
StoreStaysSure s fault old new result = s.sure old ≡ true → StaysSure fault (s.faults old) (s.faults new) (s.sure new) result

-- a sink that is sure stays sure, its count stays, and this fault is not answered
abbrev pub SinkStaysSure : {O T E : Type 0} → Sinks O → E → O → O → Result T E → Type 0
SinkStaysSure o fault old new result = o.sure old ≡ true → StaysSure fault (o.faults old) (o.faults new) (o.sure new) result

-- a store that tells goes on telling, and every other name holds what it held
abbrev pub KeepsOthers : {S : Type 0} → Stores S → List ℕ → S → S → Type 0
KeepsOthers s name old new = s.tells old ≡ true → (s.tells new ≡ true) × SameOthers name (s.held old) (s.held new)
