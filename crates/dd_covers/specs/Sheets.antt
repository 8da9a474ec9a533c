-- Several sheets above a symbol: as many copies of each chamber, which the involutions join anew.
use Rattle.std.specs.Prelude.{ℕ, ◌+◌, ◌*◌, ◌%◌, List, map}
use Rattle.std.specs.List.{flat_map}
use Rattle.dd_model.specs.Symbol.{Symbol, op, degree}
use Rattle.dd_model.specs.Code.{chambers, count_from}
use Rattle.dd_model.specs.declared.pair.Pair.{Pair}
use Rattle.dd_model.specs.declared.index.Index.{Index}
use Rattle.dd_model.specs.declared.index.Index.TheVariants.{Zero, One, Two}

-- what a function gives for each of k sheets, which are counted from 0
abbrev pub all_sheets : ℕ → (ℕ → List ℕ) → List ℕ
all_sheets k f = flat_map f (count_from 0 k)

-- the same in each sheet
abbrev pub alike : List ℕ → ℕ → List ℕ
alike xs a = xs

-- Chamber d of sheet a is d + a n. Its image lies x d sheets further on, where the first sheet follows the last.
abbrev pub image_in : Symbol → ℕ → (ℕ → ℕ) → Index → ℕ → ℕ → ℕ
image_in s k x i a d = op s i d + (a + x d) % k * s.size

-- the degrees of a pair at all chambers
abbrev pub degrees_of : Symbol → Pair → List ℕ
degrees_of s p = map (degree s p) (chambers s)

-- the images of the chambers of a sheet
abbrev pub sheet_images : Symbol → ℕ → (ℕ → ℕ) → Index → ℕ → List ℕ
sheet_images s k x i a = map (image_in s k x i a) (chambers s)

-- the images of the chambers of all sheets
abbrev pub all_images_in : Symbol → ℕ → (ℕ → ℕ) → Index → List ℕ
all_images_in s k x i = all_sheets k (sheet_images s k x i)

-- k sheets above a symbol: by involution i, chamber d of each sheet goes x i d sheets further on
abbrev pub sheets_of : Symbol → ℕ → (Index → ℕ → ℕ) → Symbol
sheets_of s k x = record {
  size = k * s.size;
  s0 = all_images_in s k (x Zero) Zero;
  s1 = all_images_in s k (x One) One;
  s2 = all_images_in s k (x Two) Two;
  m01 = all_sheets k (alike s.m01);
  m12 = all_sheets k (alike s.m12);
}

-- the chamber below each chamber of the sheets
abbrev pub below_sheets : Symbol → ℕ → List ℕ
below_sheets s k = all_sheets k (alike (chambers s))

-- where each chamber goes that goes j sheets further on
abbrev pub turned_in : Symbol → ℕ → ℕ → ℕ → ℕ → ℕ
turned_in s k j a d = d + (a + j) % k * s.size

-- the same of the chambers of a sheet
abbrev pub turned_sheet : Symbol → ℕ → ℕ → ℕ → List ℕ
turned_sheet s k j a = map (turned_in s k j a) (chambers s)

-- and of all sheets
abbrev pub turned : Symbol → ℕ → ℕ → List ℕ
turned s k j = all_sheets k (turned_sheet s k j)
