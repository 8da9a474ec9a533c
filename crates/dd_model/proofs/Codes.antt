-- The order by size and code is total, and equal codes are those of equal symbols.
use Rattle.std.proofs.Common.{◌≡◌, ◌≢◌, ℕ, zero, suc, ◌+◌, ◌-◌, ◌*◌, ◌<◌, ◌≤◌, List, ◌++◌, map, length, length-append, get_or, take, drop, refl, sym, ap, ◌∙◌, subst, ⊎_elim, arith}
use Rattle.std.proofs.lemmas.Bool.{cases_eq}
use Rattle.std.proofs.lemmas.List.{take_at, drop_at, ext_get_or, append_assoc, length-map}
use Rattle.std.specs.List.{flat_map}
use Rattle.std.specs.Cmp.{IsTotalOrder, nat_cmp_total, on_total, then_total}
use Rattle.std.specs.Cmp.Lexicographic.{slice_cmp, nat_list_cmp_total}
use Rattle.std.specs.FinMap.{nat_cmp-IsAntisymmetric, slice_cmp-IsAntisymmetric}
use Rattle.std.specs.Ordering.{nat_cmp, ordering_then, ordering_reverse}
use Rattle.std.specs.declared.cmp.Ordering.{Ordering}
use Rattle.std.specs.declared.cmp.Ordering.TheVariants.{Less, Equal, Greater}
use Rattle.dd_model.specs.declared.index.Index.{Index}
use Rattle.dd_model.specs.declared.index.Index.TheVariants.{Zero, One, Two}
use Rattle.dd_model.specs.Symbol.{Symbol, IsTable, IsSymbol, item, op, operation}
use Rattle.dd_model.specs.Isomorphic.{Isomorphic}
use Rattle.dd_model.proofs.CountFrom.{length-count_from, item-map-count_from}
use Rattle.dd_model.specs.Code.{count_from, chambers, images, all_images, code, code_cmp, Least}
use Rattle.dd_model.proofs.Isomorphisms.{Isomorphic-sym}
use Rattle.dd_model.proofs.Fields.{same_fields}

pub code_cmp_total : IsTotalOrder code_cmp
code_cmp_total = then_total (on_total (λ (s : Symbol). s.size) nat_cmp_total) (on_total code nat_list_cmp_total)

then_equal : (a b : Ordering) → ordering_then a b ≡ Equal → (a ≡ Equal) × (b ≡ Equal)
then_equal Less b e = cc
then_equal Equal b e = (refl, e)
then_equal Greater b e = cc

pub length-flat_images : (s : Symbol) (k n : ℕ) → length (flat_map (images s) (count_from k n)) ≡ 3 * n
length-flat_images s k zero = refl
length-flat_images s k (suc n) = let e = length-flat_images s (k + 1) n in omega arith

pub length-code : (s : Symbol) → IsTable s → length (code s) ≡ 5 * s.size
length-code s is =
    let a = length-append (all_images s ++ s.m01) s.m12 in
    let b = length-append (all_images s) s.m01 in
    let c = length-flat_images s 1 s.size in
    let d = is.m01_length in
    let e = is.m12_length in
    omega (arith, a, b, c, d, e)

same_images : (s t : Symbol) (k n : ℕ) → flat_map (images s) (count_from k n) ≡ flat_map (images t) (count_from k n)
    → (i : Index) (d : ℕ) → k ≤ d → d < k + n → op s i d ≡ op t i d
same_images s t k zero e i d low high = absurd (omega arith)
same_images s t k (suc n) e i d low high =
    ⊎_elim
    (λ here. subst (λ x. op s i x ≡ op t i x) (sym here) (elim i as (λ j. op s j k ≡ op t j k) [ Zero ↦ cc | One ↦ cc | Two ↦ cc ]))
    (λ not_here. same_images s t (k + 1) n (cc) i d (omega arith) (omega arith))
    (cases_eq d k)

pub same_items : (xs ys : List ℕ) (n : ℕ) → length xs ≡ n → length ys ≡ n → ((d : ℕ) → 1 ≤ d → d < 1 + n → item xs d ≡ item ys d) → xs ≡ ys
same_items xs ys n ex ey same =
    ext_get_or 0 xs ys (ex ∙ sym ey) (λ i h.
    let back : i + 1 - 1 ≡ i = omega arith in
    subst (λ j. get_or xs j 0 ≡ get_or ys j 0) back (same (i + 1) (omega arith) (omega arith)))

pub same_from_code : (s t : Symbol) → IsTable s → IsTable t → s.size ≡ t.size → code s ≡ code t → s ≡ t
same_from_code s t is it n e =
    let front_s = flat_map (images s) (chambers s) in
    let front_t = flat_map (images t) (chambers t) in
    let ls : length front_s ≡ 3 * s.size = length-flat_images s 1 s.size in
    let lt : length front_t ≡ 3 * s.size = length-flat_images t 1 t.size ∙ omega (arith, n) in
    let es : code s ≡ front_s ++ (s.m01 ++ s.m12) = append_assoc front_s s.m01 s.m12 in
    let et : code t ≡ front_t ++ (t.m01 ++ t.m12) = append_assoc front_t t.m01 t.m12 in
    let whole : front_s ++ (s.m01 ++ s.m12) ≡ front_t ++ (t.m01 ++ t.m12) = sym es ∙ e ∙ et in
    let fronts : front_s ≡ front_t =
    sym (take_at front_s (s.m01 ++ s.m12) (3 * s.size) ls) ∙ ap (take (3 * s.size)) whole ∙ take_at front_t (t.m01 ++ t.m12) (3 * s.size) lt in
    let backs : s.m01 ++ s.m12 ≡ t.m01 ++ t.m12 =
    sym (drop_at front_s (s.m01 ++ s.m12) (3 * s.size) ls) ∙ ap (drop (3 * s.size)) whole ∙ drop_at front_t (t.m01 ++ t.m12) (3 * s.size) lt in
    let lt01 : length t.m01 ≡ s.size = it.m01_length ∙ sym n in
    let m01 : s.m01 ≡ t.m01 =
    sym (take_at s.m01 s.m12 s.size is.m01_length) ∙ ap (take s.size) backs ∙ take_at t.m01 t.m12 s.size lt01 in
    let m12 : s.m12 ≡ t.m12 =
    sym (drop_at s.m01 s.m12 s.size is.m01_length) ∙ ap (drop s.size) backs ∙ drop_at t.m01 t.m12 s.size lt01 in
    let ops : (i : Index) (d : ℕ) → 1 ≤ d → d < 1 + s.size → op s i d ≡ op t i d =
    same_images s t 1 s.size (fronts ∙ ap (λ k. flat_map (images t) (count_from 1 k)) (sym n)) in
    let lists : (i : Index) → operation s i ≡ operation t i =
    λ i. same_items (operation s i) (operation t i) s.size (is.lengths i) (it.lengths i ∙ sym n) (ops i) in
    let s0 : s.s0 ≡ t.s0 = lists Zero in
    let s1 : s.s1 ≡ t.s1 = lists One in
    let s2 : s.s2 ≡ t.s2 = lists Two in
    same_fields s t n s0 s1 s2 m01 m12

pub same_from_code_cmp : (s t : Symbol) → IsTable s → IsTable t → code_cmp s t ≡ Equal → s ≡ t
same_from_code_cmp s t is it e =
    let parts = then_equal (nat_cmp s.size t.size) (slice_cmp nat_cmp (code s) (code t)) e in
    same_from_code s t is it
    (nat_cmp-IsAntisymmetric s.size t.size parts.0)
    (slice_cmp-IsAntisymmetric nat_cmp-IsAntisymmetric (code s) (code t) parts.1)

pub equal_from_both : (a b : Ordering) → a ≡ ordering_reverse b → a ≢ Greater → b ≢ Greater → a ≡ Equal
equal_from_both Less b e p q = elim b as (λ o. Less ≡ ordering_reverse o → o ≢ Greater → Less ≡ Equal) [ Less ↦ λ f h. cc | Equal ↦ λ f h. cc | Greater ↦ λ f h. absurd (h refl) ] e q
equal_from_both Equal b e p q = refl
equal_from_both Greater b e p q = absurd (p refl)

-- two least symbols that are isomorphic are equal
pub least_unique : (s t : Symbol) → IsSymbol s → IsSymbol t → Least s → Least t → Isomorphic s t → s ≡ t
least_unique s t is it ls lt iso =
    same_from_code_cmp s t is.table it.table
    (equal_from_both (code_cmp s t) (code_cmp t s) (code_cmp_total.antisymm s t) (ls t it iso) (lt s is (Isomorphic-sym s t is.table iso)))

-- the items of all chambers are the list
pub items_again : (xs : List ℕ) (n : ℕ) → length xs ≡ n → map (item xs) (count_from 1 n) ≡ xs
items_again xs n size =
    same_items (map (item xs) (count_from 1 n)) xs n (length-map (count_from 1 n) (item xs) ∙ length-count_from 1 n) size
    (λ d low high. item-map-count_from (item xs) n d low (omega arith))
