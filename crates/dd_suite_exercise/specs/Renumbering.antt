-- How chambers are renumbered by draws.
use Rattle.std.specs.Prelude.{ℕ, zero, suc, ◌+◌, ◌-◌, List}
use Rattle.std.specs.List.{swap}
use Rattle.dd_model.specs.Code.{count_from}
use Rattle.dd_suite_exercise.specs.Draws.{next, answer}

-- A list of which item number k + 1 is exchanged with one of the items 1 to k + 1, picked by a draw, and so on with k less by one,
-- down to the second item. (The list counts its items from 0.)
abbrev pub exchanged : ℕ → ℕ → List ℕ → List ℕ
exchanged zero z xs = xs
exchanged (suc k) z xs = exchanged k (next z) (swap xs (suc k) (answer z (suc k + 1)))

-- the new numbers of n chambers: 1 to n, exchanged from the last item down
abbrev pub renumbering : ℕ → ℕ → List ℕ
renumbering n z = exchanged (n - 1) z (count_from 1 n)
