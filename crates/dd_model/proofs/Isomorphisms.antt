-- Isomorphic is an equivalence.
use Rattle.std.proofs.Common.{◌≡◌, ℕ, List, refl, sym, ap, ◌∙◌, arith}
use Rattle.std.proofs.lemmas.List.{length-map}
use Rattle.dd_model.specs.Symbol.{Symbol, IsTable, AreInvolutions, IsChamber, item, op}
use Rattle.dd_model.specs.Isomorphic.{IsBijection, IsMorphism, IsIsomorphism, Isomorphic}
use Rattle.dd_model.specs.Code.{count_from}
use Rattle.dd_model.proofs.Bijections.{identity, inverse, composite, after, item-after}
use Rattle.dd_model.proofs.CountFrom.{item-count_from, length-count_from}

-- no chamber moved
pub identity_isomorphism : (s : Symbol) → IsTable s → IsIsomorphism s s (count_from 1 s.size)
identity_isomorphism s is = record {
  size = refl;
  bijection = identity s.size;
  morphism = record {
    images = length-count_from 1 s.size;
    within = λ d h. rw (item-count_from s.size d h.0 h.1) h;
    op = λ i d h.
        let w = (is.involutions i).within d h in
        item-count_from s.size (op s i d) w.0 w.1 ∙ ap (op s i) (sym (item-count_from s.size d h.0 h.1));
    m01 = λ d h. ap (item s.m01) (item-count_from s.size d h.0 h.1);
    m12 = λ d h. ap (item s.m12) (item-count_from s.size d h.0 h.1);
  };
}

pub Isomorphic-refl : (s : Symbol) → IsTable s → Isomorphic s s
Isomorphic-refl s is = (count_from 1 s.size, identity_isomorphism s is)

-- the inverse of an isomorphism
pub IsIsomorphism-inverse : (s t : Symbol) (f : List ℕ) → AreInvolutions s → (iso : IsIsomorphism s t f) → IsIsomorphism t s iso.bijection.inverse
IsIsomorphism-inverse s t f inv iso =
    let b = iso.bijection in
    let back : IsBijection t.size b.inverse = rw iso.size (inverse s.size f b) in
    let inside : (e : ℕ) → IsChamber t e → IsChamber s (item b.inverse e)
    = λ e h. b.right.within e h.0 (omega (arith, h, iso.size)) in
    let there : (e : ℕ) → IsChamber t e → item f (item b.inverse e) ≡ e
    = λ e h. b.right.undone e h.0 (omega (arith, h, iso.size)) in
    record {
      size = sym iso.size;
      bijection = back;
      morphism = record {
        images = b.inverse_images ∙ sym iso.size;
        within = inside;
        op = λ i e h.
            let d = item b.inverse e in
            let w = (inv i).within d (inside e h) in
            ap (λ x. item b.inverse (op t i x)) (sym (there e h))
            ∙ ap (item b.inverse) (sym (iso.morphism.op i d (inside e h)))
            ∙ b.left.undone (op s i d) w.0 w.1;
        m01 = λ e h. sym (iso.morphism.m01 (item b.inverse e) (inside e h)) ∙ ap (item t.m01) (there e h);
        m12 = λ e h. sym (iso.morphism.m12 (item b.inverse e) (inside e h)) ∙ ap (item t.m12) (there e h);
      };
    }

pub inverse_isomorphism : (s t : Symbol) (f : List ℕ) → IsTable s → (iso : IsIsomorphism s t f) → IsIsomorphism t s iso.bijection.inverse
inverse_isomorphism s t f is iso = IsIsomorphism-inverse s t f is.involutions iso

pub Isomorphic-sym : (s t : Symbol) → IsTable s → Isomorphic s t → Isomorphic t s
Isomorphic-sym s t is (f, iso) = (iso.bijection.inverse, inverse_isomorphism s t f is iso)

-- a morphism after another
pub IsMorphism-after : (s t u : Symbol) (f g : List ℕ) → IsTable s → IsMorphism s t f → IsMorphism t u g → IsMorphism s u (after g f)
IsMorphism-after s t u f g is a b =
    let there : (d : ℕ) → IsChamber s d → item (after g f) d ≡ item g (item f d)
    = λ d h. item-after g f s.size d a.images h.0 h.1 in
    record {
      images = length-map f (item g) ∙ a.images;
      within = λ d h. rw (there d h) (b.within (item f d) (a.within d h));
      op = λ i d h.
          there (op s i d) ((is.involutions i).within d h)
          ∙ ap (item g) (a.op i d h)
          ∙ b.op i (item f d) (a.within d h)
          ∙ ap (op u i) (sym (there d h));
      m01 = λ d h. ap (item u.m01) (there d h) ∙ b.m01 (item f d) (a.within d h) ∙ a.m01 d h;
      m12 = λ d h. ap (item u.m12) (there d h) ∙ b.m12 (item f d) (a.within d h) ∙ a.m12 d h;
    }

-- an isomorphism after another
pub IsIsomorphism-after : (s t u : Symbol) (f g : List ℕ) → IsTable s → IsIsomorphism s t f → IsIsomorphism t u g → IsIsomorphism s u (after g f)
IsIsomorphism-after s t u f g is a b = record {
  size = b.size ∙ a.size;
  bijection = composite s.size f g a.bijection (rw (← a.size) b.bijection);
  morphism = IsMorphism-after s t u f g is a.morphism b.morphism;
}

pub Isomorphic-trans : (s t u : Symbol) → IsTable s → Isomorphic s t → Isomorphic t u → Isomorphic s u
Isomorphic-trans s t u is (f, a) (g, b) = (after g f, IsIsomorphism-after s t u f g is a b)
