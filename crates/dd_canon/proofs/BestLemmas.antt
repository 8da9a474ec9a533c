-- The best numbering, start by start.
use Rattle.std.proofs.Common.{◌≡◌, ◌≢◌, ℕ, true, false, ◌+◌, ◌*◌, ◌<◌, ◌≤◌, List, length, refl, sym, ap, ◌∙◌, subst, mul-le-mul_left, arith}
use Rattle.std.proofs.lemmas.Cmp.{tied_itself}
use Rattle.std.specs.Ordering.{is_lt, is_ne}
use Rattle.std.specs.declared.cmp.Ordering.{Ordering}
use Rattle.std.specs.declared.cmp.Ordering.TheVariants.{Less, Equal, Greater}
use Rattle.dd_model.specs.Symbol.{Symbol, IsTable, IsSymbol, IsChamber, item}
use Rattle.dd_model.specs.Connected.{Connected}
use Rattle.dd_model.specs.Isomorphic.{IsIsomorphism, Isomorphic}
use Rattle.dd_model.specs.Code.{code_cmp, count_from, Least, IsLeastForm}
use Rattle.dd_union_find.specs.Parts.{IsLevel}
use Rattle.dd_model.proofs.Bijections.{after}
use Rattle.dd_model.proofs.Codes.{code_cmp_total, same_from_code_cmp}
use Rattle.dd_model.proofs.CountFrom.{item-count_from}
use Rattle.dd_model.proofs.Isomorphisms.{identity_isomorphism}
use Rattle.dd_model.proofs.LeastForms.{below_back, copy_is_symbol, first_best, not_above_trans, numbered_wins, same_least_forms}
use Rattle.dd_model.proofs.Numberings.{numbered_from}
use Rattle.dd_canon.specs.declared.best_numbering.BestNumbering.{BestNumbering}
use Rattle.dd_canon.specs.Standing.{IsBestTo, IsStanding, IsWhole}
use Rattle.dd_canon.specs.Best.{AreOrbits, IsBestNumbering}
use Rattle.dd_canon.proofs.OrderLemmas.{less_of}
use Rattle.dd_canon.proofs.FormLemmas.{best_is_least, reached_back, through_form, within_form}

-- ## Start 1

pub first_start : (s t : Symbol) (order number : List ℕ) → IsTable s → Connected s → IsWhole s 1 order number → IsTable t → IsIsomorphism s t number → IsBestTo s 1 t
first_start s t order number is con whole it iso =
    let some = is.chambers in
    record { best = first_best s t is con (omega arith, some) (whole.numbered t it iso) }

pub no_orbits : (s : Symbol) (above : List ℕ) → length above ≡ s.size + 1 → ((h : ℕ → ℕ) → IsLevel above h) → AreOrbits s above
no_orbits s above nodes level = record { nodes = nodes; level = λ h kept. level h }

-- ## One start

-- the symbol in the numbers of a traversal that is below
pub standing_less : (s t u : Symbol) (start : ℕ) (order number : List ℕ) (o : Ordering) → IsStanding s t start o → is_lt o ≡ true → IsWhole s start order number → IsTable u → IsIsomorphism s u number → code_cmp u t ≡ Less
standing_less s t u start order number o standing less whole iu iso = standing.stands u (whole.numbered u iu iso) ∙ less_of o less

-- ## All starts

pub least_numbering : (s : Symbol) (n : ℕ) (x : BestNumbering) → IsSymbol s → Connected s → n ≡ s.size → IsBestNumbering s n x → IsLeastForm s x.form
least_numbering s n x is con e best = best_is_least s x.form n is con best.table (x.home.number.items, best.form) e best.best

-- k starts of n chambers are tried, in 5 n comparisons each
pub all_counted : (n k from steps : ℕ) → k ≤ n → steps ≤ from + 5 * n * k → steps ≤ from + 5 * n * n
all_counted n k from steps high count =
    let more = mul-le-mul_left (5 * n) high in
    omega arith

pub one_more_counted : (n k from before steps : ℕ) → k < n → before ≤ from + 5 * n * k → steps ≤ before + 5 * n → steps ≤ from + 5 * n * n
one_more_counted n k from before steps low count more = all_counted n (k + 1) from steps (omega arith) (omega arith)

-- ## Whether a symbol is least

pub not_least : (s t : Symbol) → IsSymbol s → IsTable t → Isomorphic s t → code_cmp t s ≡ Less → Least s → ⊥
not_least s t is it iso less least = least t (copy_is_symbol s t is it iso) iso (below_back t s less)

less_left : (o : Ordering) → o ≢ Greater → is_ne o ≡ true → o ≡ Less
less_left Less other differ = refl
less_left Equal other differ = cc
less_left Greater other differ = absurd (other refl)

-- what differs from its numbering from chamber 1 is larger
pub differs_from_first : (s : Symbol) (x : BestNumbering) → IsSymbol s → Connected s → IsBestNumbering s 1 x → is_ne (code_cmp x.form s) ≡ true → Least s → ⊥
differs_from_first s x is con best differ =
    let some = is.table.chambers in
    let one : IsChamber s 1 = (omega arith, some) in
    let u = numbered_from s 1 is.table con one in
    let lower = numbered_wins s u.0 s 1 (count_from 1 s.size) is.table con one u.1 is.table (identity_isomorphism s is.table) (item-count_from s.size 1 (omega arith) some) in
    let not_above = not_above_trans x.form u.0 s (best.best.best 1 u.0 (omega arith) (omega arith) u.1) lower in
    not_least s x.form is best.table (x.home.number.items, best.form) (less_left (code_cmp x.form s) not_above differ)

pub least_itself : (s : Symbol) (n : ℕ) (x : BestNumbering) → IsSymbol s → Connected s → n ≡ s.size → IsBestNumbering s n x → x.form ≡ s → Least s
least_itself s n x is con e best same = subst Least same (least_numbering s n x is con e best).least

-- ## Two symbols

module _ (a b : Symbol) (x y : BestNumbering) (ia : IsSymbol a) (ib : IsSymbol b) (ca : Connected a) (cb : Connected b) (one : IsBestNumbering a a.size x) (other : IsBestNumbering b b.size y) where
  pub not_isomorphic : is_ne (code_cmp x.form y.form) ≡ true → Isomorphic a b → ⊥
  not_isomorphic differ iso =
      let same = (same_least_forms a b x.form y.form ia ib (least_numbering a a.size x ia ca refl one) (least_numbering b b.size y ib cb refl other)).1 iso in
      let e : is_ne (code_cmp x.form y.form) ≡ false = ap (λ t. is_ne (code_cmp x.form t)) (sym same) ∙ ap is_ne (tied_itself code_cmp_total x.form) in
      cc

  module _ (equal : code_cmp x.form y.form ≡ Equal) where
    back : IsIsomorphism x.form b y.home.order.items
    back = subst (λ t. IsIsomorphism t b y.home.order.items) (sym (same_from_code_cmp x.form y.form one.table other.table equal))
        (reached_back b y.form other.start y.home.order.items y.home.number.items ib.table other.whole other.form)

    pub joins : (d : ℕ) → 1 ≤ d → d ≤ length x.home.number.items → (1 ≤ item x.home.number.items d) × (item x.home.number.items d ≤ length y.home.order.items)
    joins = within_form a b x.form x.home.number.items y.home.order.items one.form back

    pub maps : IsIsomorphism a b (after y.home.order.items x.home.number.items)
    maps = through_form a b x.form x.home.number.items y.home.order.items ia.table one.form back
