-- Texts that follow each other.
use Rattle.std.specs.Prelude.{ℕ, List, Vec}
use Rattle.std.specs.Global.{Global}
use Rattle.std.specs.List.{flat_map}

-- the bytes of a text
abbrev pub bytes_of : Vec ℕ Global → List ℕ
bytes_of text = text.items

-- what texts make that follow each other
abbrev pub joined : List (Vec ℕ Global) → List ℕ
joined texts = flat_map bytes_of texts
