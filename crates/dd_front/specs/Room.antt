-- Room for what an event adds.
use Rattle.std.specs.Prelude.{◌+◌, ◌<◌, ◌^◌, List, length}
use Rattle.dd_model.specs.Symbol.{Symbol}
use Rattle.dd_front.specs.declared.event.Event.{Event}
use Rattle.dd_front.specs.declared.event.Event.TheVariants.{Split, Emit, Part}
use Rattle.dd_front.specs.Machine.{Machine}
use Rattle.dd_front.specs.Allowed.{HasFirst}
use Rattle.dd_front.specs.Step.{taken_numbers}

-- the lines and the members of the first entry add up within 128 bits
abbrev pub HasRoomToEmit : Machine → Type 0
HasRoomToEmit f = (list : List Symbol) → HasFirst f list → f.lines + length list < 2 ^ 128

-- Lines are counted with 128 bits, and entries with 64.
abbrev pub HasRoom : Machine → Event → Type 0
HasRoom f (Split worker k jobs) = f.next + taken_numbers k jobs < 2 ^ 64
HasRoom f Emit = HasRoomToEmit f
HasRoom f (Part count) = f.lines + count < 2 ^ 128
HasRoom f e = Unit {0}
