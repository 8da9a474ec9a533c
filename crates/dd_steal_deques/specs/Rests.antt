-- What is left in the deques of a rack.
use Rattle.std.specs.Prelude.{ℕ, All, sum_by}
use Rattle.dd_front.specs.declared.naming.Naming.{Ghosts}
use Rattle.dd_steal_deques.specs.declared.rest.Rest.{Rest}
use Rattle.dd_steal_deques.specs.Hands.{hand_pushed, hand_popped, HasPoppedAll}

module _ {N : Type 0} {names : Ghosts N} where
  -- how many tickets were pushed
  abbrev pub rest_pushed : Rest N names → ℕ
  rest_pushed r = sum_by hand_pushed r.hands.items

  -- how many tickets were popped, stolen and given by the rest
  abbrev pub rest_taken : Rest N names → ℕ
  rest_taken r = sum_by hand_popped r.hands.items

  -- all that was pushed was taken again, from each deque
  abbrev pub IsEmpty : Rest N names → Type 0
  IsEmpty r = All HasPoppedAll r.hands.items
