-- Members that are put in order part by part.
use Rattle.std.proofs.Common.{◌≡◌, ℕ, zero, suc, ◌+◌, ◌*◌, ◌<◌, ◌≤◌, List, [], ◌∷◌, ◌++◌, length, take, drop, take-append-drop, length-drop, refl, sym, ap, ap₂, ◌∙◌, subst, arith}
use Rattle.std.proofs.lemmas.List.{drop-drop}
use Rattle.std.proofs.lemmas.List.Elements.{filter-append}
use Rattle.std.proofs.lemmas.List.Sorted.{IsPermutation-refl, IsPermutation-append, IsPermutation-trans}
use Rattle.std.specs.List.Sorted.{ties}
use Rattle.dd_shard.specs.Members.{by_code, IsReordered}
use Rattle.dd_shard.specs.declared.member.Member.{Member}

pub same_order : (xs : List Member) → IsReordered xs xs
same_order xs = record { permutation = IsPermutation-refl xs; stable = λ m. refl }

pub both_orders : (xs ys zs : List Member) → IsReordered xs ys → IsReordered ys zs → IsReordered xs zs
both_orders xs ys zs a b = record {
  permutation = IsPermutation-trans xs ys zs a.permutation b.permutation;
  stable = λ m. b.stable m ∙ a.stable m;
}

joined_orders : (xs ys us vs : List Member) → IsReordered xs ys → IsReordered us vs → IsReordered (xs ++ us) (ys ++ vs)
joined_orders xs ys us vs a b = record {
  permutation = IsPermutation-append xs ys us vs a.permutation b.permutation;
  stable = λ m.
      let test = ties by_code m in
      filter-append test ys vs ∙ ap₂ (λ s t. s ++ t) (a.stable m) (b.stable m) ∙ sym (filter-append test xs us);
}

-- members each part of which is put in order
pub by_parts : (size count : ℕ) (xs ys : List Member) → 0 < size → length ys ≡ length xs → length xs ≤ count
    → ((n : ℕ) → n * size < length xs → IsReordered (take size (drop (n * size) xs)) (take size (drop (n * size) ys))) → IsReordered xs ys
by_parts size count [] [] some same few each = same_order []
by_parts size count [] (y ∷ ys) some same few each = absurd (omega arith)
by_parts size zero (x ∷ xs) ys some same few each = absurd (omega arith)
by_parts size (suc count) (x ∷ xs) ys some same few each =
    let all = x ∷ xs in
    let none : 0 * size ≡ 0 = omega arith in
    let first : IsReordered (take size all) (take size ys) = subst (λ k. IsReordered (take size (drop k all)) (take size (drop k ys))) none (each 0 (omega (arith, none))) in
    let left = length-drop size all in
    let others = length-drop size ys in
    let later = by_parts size count (drop size all) (drop size ys) some (omega (arith, left, others, same)) (omega (arith, left, few)) (λ n low.
    let place : suc n * size ≡ size + n * size = omega arith in
    let here : take size (drop (suc n * size) all) ≡ take size (drop (n * size) (drop size all)) = ap (λ k. take size (drop k all)) place ∙ ap (take size) (sym (drop-drop (n * size) size all)) in
    let there : take size (drop (suc n * size) ys) ≡ take size (drop (n * size) (drop size ys)) = ap (λ k. take size (drop k ys)) place ∙ ap (take size) (sym (drop-drop (n * size) size ys)) in
    subst (λ zs. IsReordered zs (take size (drop (n * size) (drop size ys)))) here
    (subst (IsReordered (take size (drop (suc n * size) all))) there (each (suc n) (omega (arith, place, low, left))))) in
    subst (λ zs. IsReordered zs ys) (take-append-drop size all)
    (subst (IsReordered (take size all ++ drop size all)) (take-append-drop size ys)
    (joined_orders (take size all) (take size ys) (drop size all) (drop size ys) first later))
