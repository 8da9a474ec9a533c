-- The first entry of a machine, which is done, is emitted.
use Rattle.std.proofs.Common.{◌≡◌, ℕ, true, ◌<◌, ◌≤◌, ◌^◌, List, Option, Some, None, MatchOption, length, ap, arith}
use Rattle.std.specs.Option.{is_some}
use Rattle.dd_model.specs.Symbol.{Symbol}
use Rattle.dd_front.specs.declared.entry.Entry.{Entry}
use Rattle.dd_front.specs.Allowed.{HasFirst}
use Rattle.dd_front.specs.Machine.{Machine}
use Rattle.dd_front.specs.Room.{HasRoomToEmit}
use Rattle.dd_front.specs.Step.{Emits}
use Rattle.dd_front.proofs.Telling.{one_first}

-- a first list that is not too long
pub record HasShortFirst (f : Machine) : Type 0 where
  pub list : List Symbol
  pub first : HasFirst f list
  pub small : length list < 2 ^ 127

-- where the first entry has so many members, it is done
pub first_there : (f : Machine) (count : Option ℕ) → is_some count ≡ true
    → MatchOption count ((list : List Symbol) → ¬ HasFirst f list) (λ n. (n < 2 ^ 127) × ((list : List Symbol) × HasFirst f list × (length list ≡ n))) → HasShortFirst f
first_there f None some first = cc
first_there f (Some n) some (low, first) =
    let size = first.2 in
    record { list = first.0; first = first.1; small = omega (arith, low, size) }

-- its lines can be counted
pub room_for_first : (f : Machine) → HasShortFirst f → f.lines ≤ 2000000000000000000 → HasRoomToEmit f
room_for_first f short few list first =
    let same = ap (λ (ss : List Symbol). length ss) (one_first f list short.list first short.first) in
    let small = short.small in
    omega (arith, same, small, few)

pub fewer_emitted : (f g : Machine) (emitted : List Symbol) → Emits f g emitted → length g.entries < length f.entries
fewer_emitted f g emitted emits =
    let rest = ap (λ (m : Machine). length m.entries) emits.after in
    let whole = ap (λ (es : List Entry). length es) emits.first.entries in
    omega (arith, rest, whole)
