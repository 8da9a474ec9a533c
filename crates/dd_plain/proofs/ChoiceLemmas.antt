-- Each list of items of a table is one of its numbered lists.
use Rattle.std.proofs.Common.{◌≡◌, ℕ, zero, suc, ◌+◌, ◌-◌, ◌*◌, ◌/◌, ◌%◌, ◌^◌, ◌<◌, ◌≤◌, List, [], ◌∷◌, ◌++◌, length, get_or, slice_index, refl, sym, ap, ◌∙◌, subst, arith}
use Rattle.std.proofs.lemmas.List.{append_assoc, get_or_default}
use Rattle.std.proofs.Math.Nat.{mul-le-mul_left, pow-succ', pow-zero}
use Rattle.std.specs.List.{AllByRecursion, Contains}
use Rattle.dd_model.specs.Symbol.{item}
use Rattle.dd_plain.specs.Choices.{choices, chamber_table}

pub rem_step : (a b e : ℕ) → a < b → (a + b * e) % b ≡ a
rem_step a b e h = grind arith

pub div_step : (a b e : ℕ) → a < b → (a + b * e) / b ≡ e
div_step a b e h = grind arith

pub below_step : (a b e p : ℕ) → a < b → e < p → a + b * e < b * p
below_step a b e p h k = omega (arith, mul-le-mul_left b k)

pub length-choices : (table : List ℕ) (n k : ℕ) → length (choices table n k) ≡ n
length-choices table zero k = refl
length-choices table (suc n) k = ap suc (length-choices table n (k / length table))

-- a list is numbered list of a table
pub record IsNumbered (table xs : List ℕ) : Type 0 where
  pub number : ℕ
  pub below : number < length table ^ length xs
  pub items : choices table (length xs) number ≡ xs

pub numbered : (table xs : List ℕ) → AllByRecursion (Contains table) xs → IsNumbered table xs
numbered table [] h = record { number = 0; below = let e : length table ^ 0 ≡ 1 = pow-zero (length table) in omega arith; items = refl }
numbered table (x ∷ xs) h =
    let rest = numbered table xs h.1 in
    let base = length table in
    let place = h.0.0 in
    let small : place < base = h.0.1 in
    let e : base ^ suc (length xs) ≡ base * base ^ length xs = pow-succ' base (length xs) in
    let first : slice_index table ((place + base * rest.number) % base) ≡ x =
    ap (slice_index table) (rem_step place base rest.number small) ∙ get_or_default table place 0 x small ∙ h.0.2 in
    let others : choices table (length xs) ((place + base * rest.number) / base) ≡ xs =
    ap (choices table (length xs)) (div_step place base rest.number small) ∙ rest.items in
    record {
      number = place + base * rest.number;
      below = subst (λ n. place + base * rest.number < n) (sym e) (below_step place base rest.number (base ^ length xs) small rest.below);
      items = λ i. first i ∷ others i;
    }

-- there are 27 lists of three chambers, and fewer of less
pub three_powers : (n : ℕ) → n ≤ 3 → 3 ^ n ≤ 27
three_powers zero h = omega arith
three_powers (suc zero) h = omega arith
three_powers (suc (suc zero)) h = omega arith
three_powers (suc (suc (suc zero))) h = omega arith
three_powers (suc (suc (suc (suc n)))) h = absurd (omega arith)

pub number_below : (xs : List ℕ) (n : IsNumbered chamber_table xs) → length xs ≤ 3 → n.number < 27
number_below xs n few =
    let below : n.number < 3 ^ length xs = n.below in
    let most = three_powers (length xs) few in
    omega arith

-- a fact of all items, by chamber
pub all_items : (P : ℕ → Type 0) (xs : List ℕ) → ((d : ℕ) → 1 ≤ d → d ≤ length xs → P (item xs d)) → AllByRecursion P xs
all_items P [] h = tt
all_items P (x ∷ xs) h = (
  h 1 (omega arith) (omega arith),
  all_items P xs (λ d low high.
      let place : suc d - 1 ≡ suc (d - 1) = omega arith in
      subst (λ k. P (get_or (x ∷ xs) k 0)) place (h (suc d) (omega arith) (omega arith))),
)

-- one item more
pub choices-more : (table list : List ℕ) (n k rest : ℕ) → k < n
    → (list ++ slice_index table (rest % length table) ∷ []) ++ choices table (n - (k + 1)) (rest / length table) ≡ list ++ choices table (n - k) rest
choices-more table list n k rest h =
    let e : n - k ≡ suc (n - (k + 1)) = omega arith in
    append_assoc list (slice_index table (rest % length table) ∷ []) (choices table (n - (k + 1)) (rest / length table)) ∙ ap (λ m. list ++ choices table m rest) (sym e)

-- a chamber of three
pub is_one_of_three : (x : ℕ) → 1 ≤ x → x ≤ 3 → Contains chamber_table x
is_one_of_three zero low high = absurd (omega arith)
is_one_of_three (suc zero) low high = (0, omega arith, refl)
is_one_of_three (suc (suc zero)) low high = (1, omega arith, refl)
is_one_of_three (suc (suc (suc zero))) low high = (2, omega arith, refl)
is_one_of_three (suc (suc (suc (suc x)))) low high = absurd (omega arith)
