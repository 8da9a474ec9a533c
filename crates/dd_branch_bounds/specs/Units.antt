-- The unit of the shares of chambers.
use Rattle.std.specs.Prelude.{ℕ}

-- the number of which shares are parts: `SHARE_UNIT`
abbrev pub share_unit : ℕ
share_unit = 144403552893600
