-- Classes of chambers that are refined until nothing more is told.
use Rattle.std.proofs.Common.{◌≡◌, ℕ, ◌+◌, ◌-◌, ◌*◌, ◌<◌, ◌≤◌, List, [], ◌∷◌, length, get_or, sym, ap, ◌∙◌, subst, arith}
use Rattle.dd_model.specs.declared.index.Index.{Index}
use Rattle.dd_model.specs.declared.index.Index.TheVariants.{Zero, One, Two}
use Rattle.dd_model.specs.Symbol.{Symbol, IsChamber, AreInvolutions, Word, item, op, act}
use Rattle.dd_model.specs.Minimal.{Alike, Minimal}
use Rattle.dd_quotient.specs.Alike.{AreAlikeClasses, IsRefined, signature}
use Rattle.dd_quotient.proofs.SumLemmas.{total, total-lt, total-bound}

-- each chamber has the least of its class, and alike chambers are in ones_at class
pub record IsClasses (s : Symbol) (c : List ℕ) : Type 0 where
  pub images : length c ≡ s.size
  pub within : (d : ℕ) → IsChamber s d → IsChamber s (item c d)
  pub own : (d : ℕ) → IsChamber s d → item c (item c d) ≡ item c d
  pub low : (d : ℕ) → IsChamber s d → item c d ≤ d
  pub alike : (d e : ℕ) → IsChamber s d → IsChamber s e → Alike s d e → item c d ≡ item c e

six : (a b c d e f a' b' c' d' e' f' : ℕ) → a ≡ a' → b ≡ b' → c ≡ c' → d ≡ d' → e ≡ e' → f ≡ f'
    → a ∷ b ∷ c ∷ d ∷ e ∷ f ∷ [] ≡ a' ∷ b' ∷ c' ∷ d' ∷ e' ∷ f' ∷ []
six a b c d e f a' b' c' d' e' f' p q r t u v = cc

signature-alike : (s : Symbol) (c : List ℕ) → AreInvolutions s → IsClasses s c → (d e : ℕ) → IsChamber s d → IsChamber s e → Alike s d e → signature s c d ≡ signature s c e
signature-alike s c inv i d e h k a =
    let image : (j : Index) → item c (op s j d) ≡ item c (op s j e) = λ j.
    i.alike (op s j d) (op s j e) ((inv j).within d h) ((inv j).within e k) (λ w. a (j ∷ w)) in
    six _ _ _ _ _ _ _ _ _ _ _ _ (a []).0 (a []).1 (i.alike d e h k a) (image Zero) (image One) (image Two)

-- refined classes are classes
pub finer_classes : (s : Symbol) (c f : List ℕ) → AreInvolutions s → IsClasses s c → IsRefined s c f → IsClasses s f
finer_classes s c f inv i r = record {
  images = r.images;
  within = r.within;
  own = λ d h. r.same (item f d) d (r.within d h) h (r.member d h);
  low = r.low;
  alike = λ d e h k a. r.same d e h k (signature-alike s c inv i d e h k a);
}

grows : (s : Symbol) (c f : List ℕ) → IsClasses s c → IsRefined s c f → (d : ℕ) → IsChamber s d → item c d ≤ item f d
grows s c f i r d h =
    let same : item c (item f d) ≡ item c d = ap (λ xs. get_or xs 2 0) (r.member d h) in
    let low : item c (item f d) ≤ item f d = i.low (item f d) (r.within d h) in
    omega (arith, same, low)

-- classes that change have a larger sum, which is at most the square of the size
pub sum_grows : (s : Symbol) (c f : List ℕ) → IsClasses s c → IsRefined s c f → (f ≡ c → ⊥) → s.size * s.size - total f < s.size * s.size - total c
sum_grows s c f i r other =
    let place : (j : ℕ) → j + 1 - 1 ≡ j = λ j. omega arith in
    let fi = r.images in
    let ci = i.images in
    let more : total c < total f = total-lt c f (ci ∙ sym fi)
    (λ j below. subst (λ x. get_or c x 0 ≤ get_or f x 0) (place j) (grows s c f i r (j + 1) (omega arith, omega (arith, ci)))) other in
    let bound : total f ≤ length f * s.size = total-bound f s.size
    (λ j below. subst (λ x. get_or f x 0 ≤ s.size) (place j) (r.within (j + 1) (omega arith, omega (arith, fi))).1) in
    let square : length f * s.size ≡ s.size * s.size = ap (λ n. n * s.size) fi in
    omega (arith, more, bound, square)

-- where nothing more is told, no word tells chambers of ones_at class apart
signature-same : (s : Symbol) (c : List ℕ) → IsRefined s c c → (d e : ℕ) → IsChamber s d → IsChamber s e → item c d ≡ item c e → signature s c d ≡ signature s c e
signature-same s c r d e h k same = sym (r.member d h) ∙ ap (signature s c) same ∙ r.member e k

image-same : (s : Symbol) (c : List ℕ) → IsRefined s c c → (j : Index) (d e : ℕ) → IsChamber s d → IsChamber s e → item c d ≡ item c e → item c (op s j d) ≡ item c (op s j e)
image-same s c r Zero d e h k same = ap (λ xs. get_or xs 3 0) (signature-same s c r d e h k same)
image-same s c r One d e h k same = ap (λ xs. get_or xs 4 0) (signature-same s c r d e h k same)
image-same s c r Two d e h k same = ap (λ xs. get_or xs 5 0) (signature-same s c r d e h k same)

told_nowhere : (s : Symbol) (c : List ℕ) → AreInvolutions s → IsRefined s c c → (w : Word) (d e : ℕ) → IsChamber s d → IsChamber s e → item c d ≡ item c e
    → (item s.m01 (act s w d) ≡ item s.m01 (act s w e)) × (item s.m12 (act s w d) ≡ item s.m12 (act s w e))
told_nowhere s c inv r [] d e h k same =
    let signatures = signature-same s c r d e h k same in
    (ap (λ xs. get_or xs 0 0) signatures, ap (λ xs. get_or xs 1 0) signatures)
told_nowhere s c inv r (j ∷ w) d e h k same =
    told_nowhere s c inv r w (op s j d) (op s j e) ((inv j).within d h) ((inv j).within e k) (image-same s c r j d e h k same)

pub stable_classes : (s : Symbol) (c f : List ℕ) → AreInvolutions s → IsClasses s c → IsRefined s c f → f ≡ c → AreAlikeClasses s c
stable_classes s c f inv i refined stable =
    let r : IsRefined s c c = subst (IsRefined s c) stable refined in
    record {
      images = i.images;
      within = i.within;
      member = λ d h w. told_nowhere s c inv r w (item c d) d (i.within d h) h (i.own d h);
      least = λ d e h k a. let same = i.alike d e h k a in let low = i.low e k in omega (arith, same, low);
      alike = λ d e h k. (λ same w. told_nowhere s c inv r w d e h k same, i.alike d e h k);
    }

-- a chamber that is not the least of its class is alike with another
pub not_minimal : (s : Symbol) (c : List ℕ) (d : ℕ) → AreAlikeClasses s c → IsChamber s d → (item c d ≡ d → ⊥) → Minimal s → ⊥
not_minimal s c d i h other minimal =
    other (minimal (item c d) d (i.within d h) h (i.member d h))

pub minimal_if : (s : Symbol) (c : List ℕ) → AreAlikeClasses s c → ((d : ℕ) → IsChamber s d → item c d ≡ d) → Minimal s
minimal_if s c i own d e h k a = sym (own d h) ∙ (i.alike d e h k).1 a ∙ own e k
