-- The first number of a list, and those after it as a pattern takes them.
use Rattle.std.proofs.Common.{◌≡◌, ℕ, suc, ◌-◌, ◌+◌, ◌≤◌, List, [], ◌∷◌, All, length, get_or, take, drop, take_all, sym, ap, subst, arith}
use Rattle.dd_text.specs.Images.{IsWithin}

abbrev pub rest_of : List ℕ → List ℕ
rest_of xs = take (length xs - 1) (drop 1 xs)

pub first_and_rest : (xs : List ℕ) → 1 ≤ length xs → xs ≡ get_or xs 0 0 ∷ rest_of xs
first_and_rest [] some = absurd (omega arith)
first_and_rest (x ∷ xs) some =
    ap (λ ys. x ∷ ys) (sym (take_all (length (x ∷ xs) - 1) xs (omega arith)))

pub length-rest : (xs : List ℕ) → 1 ≤ length xs → length (rest_of xs) + 1 ≡ length xs
length-rest xs some = let whole = ap length (first_and_rest xs some) in omega arith

pub within_rest : (n : ℕ) (xs : List ℕ) → 1 ≤ length xs → All (IsWithin n) xs → All (IsWithin n) (rest_of xs)
within_rest n xs some within k d h =
    subst (All (IsWithin n)) (first_and_rest xs some) within (suc k) d (omega arith)
