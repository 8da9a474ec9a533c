-- Seats are numbered in order, and have counted nothing at first.
use Rattle.std.proofs.Common.{◌≡◌, ℕ, ◌+◌, ◌<◌, length, get_or, List, [], ◌∷◌, ◌++◌, map, sum_by, sym, ◌∙◌, ap, arith}
use Rattle.std.proofs.lemmas.List.{map_push}
use Rattle.std.proofs.lemmas.List.Sums.{sum_by_push, sum_by-remove}
use Rattle.std.specs.List.{remove}
use Rattle.dd_model.specs.Code.{count_from}
use Rattle.dd_model.proofs.CountFrom.{count_from-more}
use Rattle.dd_board.specs.declared.seat.Seat.{Seat}
use Rattle.dd_board.specs.Shares.{HaveAmounts}
use Rattle.dd_board.specs.Seats.{HaveSums}

-- one more seat has the next number
pub workers_more : {K L S D B : Type 0} (seats : List (Seat K L S D B)) (seat : Seat K L S D B) (n : ℕ) → map (λ s. s.worker) seats ≡ count_from 1 n → seat.worker ≡ n + 1
    → map (λ s. s.worker) (seats ++ seat ∷ []) ≡ count_from 1 (n + 1)
workers_more {K} {L} {S} {D} {B} seats seat n before is =
    let worker : Seat K L S D B → ℕ = λ s. s.worker in
    let next : n + 1 ≡ 1 + n = omega arith in
    map_push worker seats seat ∙ (ap (λ ws. ws ++ worker seat ∷ []) before ∙ (ap (λ w. count_from 1 n ++ w ∷ []) (is ∙ next) ∙ sym (count_from-more 1 n)))

none_more : {A : Type 0} (amount : A → ℕ) (seats : List A) (seat : A) → sum_by amount seats ≡ 0 → amount seat ≡ 0 → sum_by amount (seats ++ seat ∷ []) ≡ 0
none_more amount seats seat before is = let e = sum_by_push amount seats seat in omega (arith, e, before, is)

pub sums_more : {K L S D B : Type 0} (seats : List (Seat K L S D B)) (seat : Seat K L S D B) → HaveSums seats 0 0 0 0 0 → HaveAmounts seat.shares 0 0 0 0 0
    → HaveSums (seats ++ seat ∷ []) 0 0 0 0 0
sums_more {K} {L} {S} {D} {B} seats seat (a, b, c, d, e) (v, w, x, y, z) = (
  none_more (λ (s : Seat K L S D B). s.shares.take.amount) seats seat a v,
  none_more (λ (s : Seat K L S D B). s.shares.look.amount) seats seat b w,
  none_more (λ (s : Seat K L S D B). s.shares.split.amount) seats seat c x,
  none_more (λ (s : Seat K L S D B). s.shares.finish.amount) seats seat d y,
  none_more (λ (s : Seat K L S D B). s.shares.back.amount) seats seat e z,
)

one_less : {A : Type 0} (amount : A → ℕ) (xs ys : List A) (x : A) → 0 < length xs → x ≡ get_or xs 0 x → ys ≡ remove xs 0 → sum_by amount ys + amount x ≡ sum_by amount xs
one_less amount xs ys x some first rest =
    ap (λ zs. sum_by amount zs + amount x) rest ∙ ap (λ y. sum_by amount (remove xs 0) + amount y) first ∙ sum_by-remove amount xs 0 x some

-- the sums of seats without the first, and what that one has counted, are those of all
pub without_first : {K L S D B : Type 0} (seats rest : List (Seat K L S D B)) (seat : Seat K L S D B) → 0 < length seats → seat ≡ get_or seats 0 seat → rest ≡ remove seats 0
    → (sum_by (λ (s : Seat K L S D B). s.shares.take.amount) rest + seat.shares.take.amount ≡ sum_by (λ (s : Seat K L S D B). s.shares.take.amount) seats)
    × (sum_by (λ (s : Seat K L S D B). s.shares.look.amount) rest + seat.shares.look.amount ≡ sum_by (λ (s : Seat K L S D B). s.shares.look.amount) seats)
    × (sum_by (λ (s : Seat K L S D B). s.shares.split.amount) rest + seat.shares.split.amount ≡ sum_by (λ (s : Seat K L S D B). s.shares.split.amount) seats)
    × (sum_by (λ (s : Seat K L S D B). s.shares.finish.amount) rest + seat.shares.finish.amount ≡ sum_by (λ (s : Seat K L S D B). s.shares.finish.amount) seats)
    × (sum_by (λ (s : Seat K L S D B). s.shares.back.amount) rest + seat.shares.back.amount ≡ sum_by (λ (s : Seat K L S D B). s.shares.back.amount) seats)
without_first {K} {L} {S} {D} {B} seats rest seat some first less = (
  one_less (λ (s : Seat K L S D B). s.shares.take.amount) seats rest seat some first less,
  one_less (λ (s : Seat K L S D B). s.shares.look.amount) seats rest seat some first less,
  one_less (λ (s : Seat K L S D B). s.shares.split.amount) seats rest seat some first less,
  one_less (λ (s : Seat K L S D B). s.shares.finish.amount) seats rest seat some first less,
  one_less (λ (s : Seat K L S D B). s.shares.back.amount) seats rest seat some first less,
)
