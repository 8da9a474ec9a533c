-- The places of a code. Place t has the image of chamber 1 + t / 3 under the involution of number t % 3.
use Rattle.std.specs.Prelude.{ℕ, zero, suc, ◌+◌, ◌-◌, ◌*◌, ◌%◌, ◌^◌, bit_or}
use Rattle.dd_model.specs.declared.index.Index.{Index}
use Rattle.dd_model.specs.declared.index.Index.TheVariants.{Zero, One, Two}

-- the place of the image of a chamber, places being counted from 0
abbrev pub place : Index → ℕ → ℕ
place Zero d = 3 * (d - 1)
place One d = 3 * (d - 1) + 1
place Two d = 3 * (d - 1) + 2

-- the place at which the image of a place leads back; the place itself where no image is known
abbrev pub back_of : ℕ → ℕ → ℕ
back_of t zero = t
back_of t (suc e) = 3 * e + t % 3

-- a chamber and its image as bits
abbrev pub bits_of : ℕ → ℕ → ℕ
bits_of d e = bit_or (2 ^ d) (2 ^ e)
