-- Which calls are listed to fail.
use Rattle.std.specs.Prelude.{ℕ, List, Bool, nat_lt, ◌==◌}
use Rattle.std.specs.List.{list_all, list_any}
use Rattle.dd_ports.specs.declared.schedule.Schedule.{Schedule}

-- the numbers of the calls that fail
abbrev pub fails_of : Schedule → List ℕ
fails_of s = s.fails.items

-- the number of the next call
abbrev pub next_of : Schedule → ℕ
next_of s = s.next

-- the next call is listed to fail
abbrev pub is_due : Schedule → Bool
is_due s = list_any (λ f. f == s.next) s.fails.items

-- no listed call is still to come
abbrev pub is_over : Schedule → Bool
is_over s = list_all (λ f. nat_lt f s.next) s.fails.items
