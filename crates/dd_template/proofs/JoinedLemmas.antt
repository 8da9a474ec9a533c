-- The parts that are met from part 0.
use Rattle.std.proofs.Common.{◌≡◌, ℕ, zero, suc, ◌+◌, ◌<◌, Bool, true, false, List, [], ◌∷◌, ◌++◌, length, replicate, get_or, set, refl, sym, ap, ◌∙◌, subst, ⊎_elim, arith}
use Rattle.std.proofs.lemmas.Bool.{cases_eq}
use Rattle.std.proofs.lemmas.List.{get_or-set_same, get_or-set_other}
use Rattle.std.proofs.lemmas.List.Sums.{sum_by-set, sum_by-cons}
use Rattle.std.specs.List.{sum_by}
use Rattle.dd_model.specs.Symbol.{Word}
use Rattle.dd_template.specs.Table.{Table, IsPart, move, part_after}
use Rattle.dd_template.specs.Moves.{AreUndone}
use Rattle.dd_template.specs.Connecting.{IsSilent, IsJoined}
use Rattle.dd_template.specs.Joined.{IsMet, unmet, IsClosed, IsNext}

-- the moves of a word and then of another
pub part_after-append : (t : Table) (u w : Word) (x : ℕ) → part_after t (u ++ w) x ≡ part_after t w (part_after t u x)
part_after-append t [] w x = refl
part_after-append t (i ∷ u) w x = part_after-append t u w (move t i x).to

pub silent-append : (t : Table) (u w : Word) (x : ℕ) → IsSilent t u x → IsSilent t w (part_after t u x) → IsSilent t (u ++ w) x
silent-append t [] w x a b = b
silent-append t (i ∷ u) w x a b = (a.0, silent-append t u w (move t i x).to a.1 b)

-- part 0 is joined
pub first_joined : (t : Table) → IsJoined t 0
first_joined t = record { word = []; leads = refl; silent = tt }

-- a part to which a move leads that stays in the chamber is joined
pub next_joined : (t : Table) (met : List Bool) (y : ℕ) → ((x : ℕ) → IsMet met x → IsJoined t x) → IsNext t met y → IsJoined t y
next_joined t met y joined n =
    let from = joined n.from n.is_met in
    let at : part_after t from.word 0 ≡ n.from = from.leads in
    record {
      word = from.word ++ n.index ∷ [];
      leads = part_after-append t from.word (n.index ∷ []) 0 ∙ (ap (λ x. (move t n.index x).to) at ∙ n.leads);
      silent = silent-append t from.word (n.index ∷ []) 0 from.silent (ap (λ x. (move t n.index x).by) at ∙ n.silent, tt);
    }

-- no part is met at the beginning
pub none_met : (k x : ℕ) → IsMet (replicate k false) x → ⊥
none_met zero x m = absurd (cc)
none_met (suc k) zero m = absurd (cc)
none_met (suc k) (suc x) m = none_met k x m

-- one part more is met
pub more_joined : (t : Table) (met : List Bool) (y : ℕ) → y < length met → ((x : ℕ) → IsMet met x → IsJoined t x) → IsJoined t y
    → (x : ℕ) → IsMet (set met y true) x → IsJoined t x
more_joined t met y inside joined here x m =
    ⊎_elim
    (λ same. subst (IsJoined t) (sym same) here)
    (λ other. joined x (sym (get_or-set_other met y x true false other) ∙ m))
    (cases_eq x y)

pub one_less : (met : List Bool) (y : ℕ) → y < length met → get_or met y false ≡ false → sum_by unmet (set met y true) + 1 ≡ sum_by unmet met
one_less met y inside new =
    let sums = sum_by-set unmet met y true false inside in
    let was : unmet (get_or met y false) ≡ 1 = ap unmet new in
    omega arith

pub still_met : (met : List Bool) (y x : ℕ) → y < length met → IsMet met x → IsMet (set met y true) x
still_met met y x inside m =
    ⊎_elim
    (λ same. subst (λ z. get_or (set met y true) z false ≡ true) (sym same) (get_or-set_same met y true false inside))
    (λ other. get_or-set_other met y x true false other ∙ m)
    (cases_eq x y)

-- no part is met beyond those that are closed
pub closed_met : (t : Table) (met : List Bool) → AreUndone t → IsClosed t met → (w : Word) (x : ℕ) → IsPart t x → IsMet met x → IsSilent t w x → IsMet met (part_after t w x)
closed_met t met undone closed [] x h m s = m
closed_met t met undone closed (i ∷ w) x h m s =
    closed_met t met undone closed w (move t i x).to (undone i x h).part (closed i x h m s.0) s.1

-- where all are met, none is left
pub none_left : (met : List Bool) → ((x : ℕ) → x < length met → IsMet met x) → sum_by unmet met ≡ 0
none_left [] h = refl
none_left (b ∷ met) h =
    let here : b ≡ true = h 0 (omega arith) in
    let rest = none_left met (λ x l. h (suc x) (omega arith)) in
    let e : unmet b ≡ 0 = ap unmet here in
    omega (arith, sum_by-cons unmet b met)
