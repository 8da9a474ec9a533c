-- Lists of words.
use Rattle.std.proofs.Common.{◌≡◌, ◌≤◌, ◌-◌, take, drop, get_or, List, [], ◌∷◌, map, length, sym, ap, ◌∙◌, arith, Global}
use Rattle.std.proofs.lemmas.List.{take_all}
use Rattle.std.specs.Rc.{rc_str_bytes}
use Rattle.std.specs.declared.rc.RcStr.{RcStr}

-- the first word and the others
pub first_and_rest : (ws : List (RcStr Global)) (w : RcStr Global) → 1 ≤ length ws → w ≡ get_or ws 0 w
    → map rc_str_bytes ws ≡ rc_str_bytes w ∷ map rc_str_bytes (take (length ws - 1) (drop 1 ws))
first_and_rest [] w low e = absurd (omega arith)
first_and_rest (x ∷ xs) w low e =
    let all : take (length (x ∷ xs) - 1) xs ≡ xs = take_all (length (x ∷ xs) - 1) xs (omega arith) in
    ap (λ y. rc_str_bytes y ∷ map rc_str_bytes xs) (sym e) ∙ ap (λ ys. rc_str_bytes w ∷ map rc_str_bytes ys) (sym all)
