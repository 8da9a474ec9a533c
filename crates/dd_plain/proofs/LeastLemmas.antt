-- A symbol of at most three chambers is least where no numbered renumbering beats it.
use Rattle.std.proofs.Common.{◌≡◌, ◌≢◌, ℕ, Bool, true, false, ◌<◌, ◌≤◌, List, refl, sym, ap, ◌∙◌, subst, arith}
use Rattle.std.specs.Bool.{OnTrue, OnFalse}
use Rattle.std.specs.Ordering.{is_gt}
use Rattle.std.specs.declared.cmp.Ordering.{Ordering}
use Rattle.std.specs.declared.cmp.Ordering.TheVariants.{Less, Equal, Greater}
use Rattle.dd_model.specs.Symbol.{Symbol, IsSymbol, item}
use Rattle.dd_model.specs.Isomorphic.{IsIsomorphism}
use Rattle.dd_model.specs.Code.{code_cmp, Least}
use Rattle.dd_model.proofs.Transport.{HaveLengths, same_by_map}
use Rattle.dd_plain.specs.Choices.{choices, chamber_table}
use Rattle.dd_plain.proofs.ChoiceLemmas.{numbered, all_items, is_one_of_three, number_below}
use Rattle.std.specs.List.{AllByRecursion, Contains}

have_lengths : (t : Symbol) → IsSymbol t → HaveLengths t
have_lengths t it = record { lengths = it.table.lengths; m01_length = it.table.m01_length; m12_length = it.table.m12_length }

pub beaten : (s t : Symbol) (f : List ℕ) → IsSymbol t → IsIsomorphism s t f → (b : Bool) → is_gt (code_cmp s t) ≡ b → OnTrue b (Least s → ⊥)
beaten s t f it iso true e = λ least. least t it (f, iso) (greater (code_cmp s t) e)
  where
    greater : (o : Ordering) → is_gt o ≡ true → o ≡ Greater
    greater Less e = cc
    greater Equal e = cc
    greater Greater e = refl
beaten s t f it iso false e = tt

pub unbeaten : (s t : Symbol) (f g : List ℕ) → IsSymbol t → IsIsomorphism s t f → g ≡ f → (b : Bool) → is_gt (code_cmp s t) ≡ b
    → OnFalse b ((u : Symbol) → IsSymbol u → IsIsomorphism s u g → code_cmp s u ≢ Greater)
unbeaten s t f g it iso same true e = tt
unbeaten s t f g it iso same false e = λ u iu other greater.
    let one : t ≡ u = same_by_map s t u f iso (subst (IsIsomorphism s u) same other) (have_lengths t it) (have_lengths u iu) in
    let there : is_gt (code_cmp s u) ≡ false = subst (λ x. is_gt (code_cmp s x) ≡ false) one e in
    let yes : is_gt (code_cmp s u) ≡ true = ap is_gt greater in
    cc

pub least_from_numbers : (s : Symbol) → s.size ≤ 3
    → ((k : ℕ) → k < 27 → (t : Symbol) → IsSymbol t → IsIsomorphism s t (choices chamber_table s.size k) → code_cmp s t ≢ Greater) → Least s
least_from_numbers s few all t it (f, iso) =
    let b = iso.bijection in
    let items : AllByRecursion (Contains chamber_table) f = all_items (Contains chamber_table) f (λ d low high.
    let within = b.left.within d low (omega (arith, b.images)) in
    is_one_of_three (item f d) within.0 (omega (arith, within.1))) in
    let n = numbered chamber_table f items in
    let list : choices chamber_table s.size n.number ≡ f = ap (λ k. choices chamber_table k n.number) (sym b.images) ∙ n.items in
    all n.number (number_below f n (omega (arith, b.images))) t it (subst (IsIsomorphism s t) (sym list) iso)
