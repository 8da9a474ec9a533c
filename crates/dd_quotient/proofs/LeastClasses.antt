-- Each symbol has its classes of alike chambers, and it is decided whether it is minimal.
use Rattle.std.proofs.Common.{◌≡◌, ℕ, zero, suc, ◌+◌, ◌-◌, ◌*◌, ◌<◌, ◌≤◌, List, map, replicate, refl, sym, ap, ◌∙◌, subst, ⊎_elim, arith}
use Rattle.std.proofs.lemmas.List.{length-map, length-replicate}
use Rattle.std.proofs.lemmas.Bool.{cases_eq}
use Rattle.dd_model.specs.Symbol.{Symbol, IsChamber, AreInvolutions, item}
use Rattle.dd_model.specs.Code.{count_from}
use Rattle.dd_model.specs.Minimal.{Minimal}
use Rattle.dd_model.proofs.CellSearch.{Decided, least_where}
use Rattle.dd_model.proofs.CountFrom.{length-count_from, item-map-count_from}
use Rattle.dd_model.proofs.Lists.{ones_at}
use Rattle.dd_quotient.specs.Alike.{AreAlikeClasses, IsRefined, signature}
use Rattle.dd_quotient.proofs.ClassLemmas.{IsClasses, finer_classes, sum_grows, stable_classes, not_minimal, minimal_if}
use Rattle.dd_quotient.proofs.SumLemmas.{total}
use Rattle.dd_quotient.proofs.Deciding.{decide_lists, decide_each, decide_same}

-- ## One refinement

-- the number k stands for chamber k + 1, so that each number has the signature of some chamber
abbrev HasSignature : Symbol → List ℕ → ℕ → ℕ → Type 0
HasSignature s c d k = signature s c (k + 1) ≡ signature s c d

-- the least chamber with the signature of a chamber, with what makes it so
record IsFirst (s : Symbol) (c : List ℕ) (d e : ℕ) : Type 0 where
  pub low : 1 ≤ e
  pub below : e ≤ d
  pub signature_is : signature s c e ≡ signature s c d
  pub least : (k : ℕ) → 1 ≤ k → signature s c k ≡ signature s c d → e ≤ k

first_at : (s : Symbol) (c : List ℕ) (k : ℕ) → (m : ℕ) × IsFirst s c (k + 1) m
first_at s c k =
    let found = least_where (HasSignature s c (k + 1)) (λ j. decide_lists (signature s c (j + 1)) (signature s c (k + 1))) k refl in (
      found.0 + 1,
      record {
        low = omega arith;
        below = let least = found.2 k refl in omega arith;
        signature_is = found.1;
        least = λ j low same.
            let place : j ≡ j - 1 + 1 = omega arith in
            let least = found.2 (j - 1) (subst (λ x. signature s c x ≡ signature s c (k + 1)) place same) in
            omega arith;
      },
    )

abbrev first_like : Symbol → List ℕ → ℕ → ℕ
first_like s c d = (first_at s c (d - 1)).0

is_first : (s : Symbol) (c : List ℕ) (d : ℕ) → 1 ≤ d → IsFirst s c d (first_like s c d)
is_first s c d low =
    let place : d - 1 + 1 ≡ d = omega arith in
    subst (λ x. IsFirst s c x (first_like s c d)) place (first_at s c (d - 1)).1

refined : (s : Symbol) (c : List ℕ) → (finer : List ℕ) × IsRefined s c finer
refined s c = (map (first_like s c) (count_from 1 s.size), made)
  where
    finer : List ℕ
    finer = map (first_like s c) (count_from 1 s.size)

    at : (d : ℕ) → IsChamber s d → item finer d ≡ first_like s c d
    at d h = item-map-count_from (first_like s c) s.size d h.0 h.1

    is : (d : ℕ) → IsChamber s d → IsFirst s c d (item finer d)
    is d h = subst (IsFirst s c d) (sym (at d h)) (is_first s c d h.0)

    made : IsRefined s c finer
    made = record {
      images = length-map (count_from 1 s.size) (first_like s c) ∙ length-count_from 1 s.size;
      within = λ d h. let low = (is d h).low in let below = (is d h).below in let high = h.1 in (omega arith, omega arith);
      low = λ d h. (is d h).below;
      member = λ d h. (is d h).signature_is;
      same = λ d e h k equal.
          let a = (is d h).least (item finer e) (is e k).low ((is e k).signature_is ∙ sym equal) in
          let b = (is e k).least (item finer d) (is d h).low ((is d h).signature_is ∙ equal) in
          omega arith;
    }

-- ## Refined until nothing more is told

classes_from : (s : Symbol) → AreInvolutions s → (k : ℕ) (c : List ℕ) → s.size * s.size - total c < k → IsClasses s c → (d : List ℕ) × AreAlikeClasses s d
classes_from s inv zero c left is = absurd (omega arith)
classes_from s inv (suc k) c left is =
    let finer = refined s c in
    ⊎_elim
    (λ stable. (c, stable_classes s c finer.0 inv is finer.1 stable))
    (λ other.
    let less = sum_grows s c finer.0 is finer.1 other in
    classes_from s inv k finer.0 (omega (arith, less, left)) (finer_classes s c finer.0 inv is finer.1))
    (decide_lists finer.0 c)

one_class : (s : Symbol) → IsClasses s (replicate s.size 1)
one_class s = record {
  images = length-replicate s.size 1;
  within = λ d h. subst (IsChamber s) (sym (one d h)) (let low = h.0 in let high = h.1 in (omega arith, omega arith));
  own = λ d h. ap (item ones) (one d h) ∙ one 1 (let low = h.0 in let high = h.1 in (omega arith, omega arith)) ∙ sym (one d h);
  low = λ d h. let at = one d h in let low = h.0 in omega arith;
  alike = λ d e h k a. one d h ∙ sym (one e k);
}
  where
    ones : List ℕ
    ones = replicate s.size 1

    one : (d : ℕ) → IsChamber s d → item ones d ≡ 1
    one d h = ones_at s.size d h.0 h.1

-- Each symbol has its classes of alike chambers.
pub alike_classes_exist : (s : Symbol) → AreInvolutions s → (c : List ℕ) × AreAlikeClasses s c
alike_classes_exist s inv = classes_from s inv (s.size * s.size - total (replicate s.size 1) + 1) (replicate s.size 1) (omega arith) (one_class s)

pub decide_minimal : (s : Symbol) → AreInvolutions s → Decided (Minimal s)
decide_minimal s inv =
    let c = alike_classes_exist s inv in
    decide_same (decide_each (λ d. item c.0 d ≡ d) s.size (λ d h. cases_eq (item c.0 d) d))
    (minimal_if s c.0 c.1)
    (λ minimal d h. ⊎_elim (λ own. own) (λ other. absurd (not_minimal s c.0 d c.1 h other minimal)) (cases_eq (item c.0 d) d))
