-- What stands where no name was given yet.
use Rattle.std.specs.Prelude.{false, refl, replicate}
use Rattle.dd_model.specs.declared.allowed.Allowed.{Allowed}
use Rattle.dd_model.specs.declared.requests.Request.{Request}

-- the set of no numbers
abbrev pub no_numbers : Allowed
no_numbers = record { table = replicate 217 false; whole = refl; no_zero = refl }

-- the request that asks for nothing
abbrev pub no_request : Request
no_request = record { chambers = 0; tiles = 0; vertices = 0; faces = no_numbers; degrees = no_numbers; minimal = false }
