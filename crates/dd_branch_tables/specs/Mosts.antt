-- How large the first numbers of a list come.
use Rattle.std.specs.Prelude.{◌≡◌, ℕ, ◌≤◌, List, length, take, slice_index}
use Rattle.dd_front_jobs.specs.FirstVisit.{greatest}

-- For each length up to so much, the greatest of 1 and so many numbers.
pub record AreMosts (count : ℕ) (numbers mosts : List ℕ) : Type 0 where
  pub short : count ≤ 108
  pub room : length numbers ≡ 108
  pub mosts_room : length mosts ≡ 109
  pub most : (k : ℕ) → k ≤ count → slice_index mosts k ≡ greatest (take k numbers)
