-- How the inverse of a map is written.
use Rattle.std.proofs.Common.{◌≡◌, ℕ, ◌+◌, ◌-◌, ◌<◌, ◌≤◌, List, get_or, set, sym, ap, ◌∙◌, subst, inl, inr, ⊎_elim, arith}
use Rattle.std.proofs.lemmas.Bool.{cases_eq, cases_lt}
use Rattle.std.proofs.lemmas.List.{get_or-set_same, get_or-set_other, length-set}
use Rattle.dd_model.specs.Symbol.{item}
use Rattle.dd_model.specs.Isomorphic.{IsBijection}
use Rattle.dd_symbol.specs.Maps.{AreInverse, IsWritten}

one_to_one : (n : ℕ) (f : List ℕ) → IsBijection n f → (d e : ℕ) → 1 ≤ d → d ≤ n → 1 ≤ e → e ≤ n → item f d ≡ item f e → d ≡ e
one_to_one n f b d e ld hd le he same = sym (b.left.undone d ld hd) ∙ ap (item b.inverse) same ∙ b.left.undone e le he

pub more_written : (n k : ℕ) (f g : List ℕ) → IsWritten n k f g → k < n → 1 ≤ item f (k + 1) → item f (k + 1) ≤ n
    → IsWritten n (k + 1) f (set g (item f (k + 1) - 1) (k + 1))
more_written n k f g w below low high = record {
  images = w.images;
  back_images = length-set g (item f (k + 1) - 1) (k + 1) ∙ w.back_images;
  within = λ d ld hd.
      ⊎_elim
      (λ before. w.within d ld (omega arith))
      (λ last. let here : k + 1 ≡ d = omega arith in subst (λ x. (1 ≤ item f x) × (item f x ≤ n)) here (low, high))
      (cases_lt d (k + 1));
  written = λ e le he.
      ⊎_elim
      (λ here.
      let same : get_or (set g (item f (k + 1) - 1) (k + 1)) (e - 1) 0 ≡ k + 1 =
      ap (λ x. get_or (set g (item f (k + 1) - 1) (k + 1)) (x - 1) 0) here ∙ get_or-set_same g (item f (k + 1) - 1) (k + 1) 0 (let l = w.back_images in omega arith) in
      inr (omega arith, omega arith, ap (item f) same ∙ sym here))
      (λ other.
      let same : get_or (set g (item f (k + 1) - 1) (k + 1)) (e - 1) 0 ≡ item g e =
      get_or-set_other g (item f (k + 1) - 1) (e - 1) (k + 1) 0 (λ x. other (omega arith)) in
      ⊎_elim
      (λ none. inl (same ∙ none))
      (λ old. inr (omega (arith, old.0), omega (arith, old.1), ap (item f) same ∙ old.2))
      (w.written e le he))
      (cases_eq e (item f (k + 1)));
  kept = λ b d ld hd.
      ⊎_elim
      (λ before.
      let inside = w.within d ld (omega arith) in
      let apart : item f d - 1 ≡ item f (k + 1) - 1 → ⊥ = λ x.
      let e = one_to_one n f b d (k + 1) ld (omega arith) (omega arith) (omega arith) (omega (arith, x, inside.0, low)) in omega arith in
      get_or-set_other g (item f (k + 1) - 1) (item f d - 1) (k + 1) 0 apart ∙ w.kept b d ld (omega arith))
      (λ last.
      let here : k + 1 ≡ d = omega arith in
      subst (λ x. get_or (set g (item f (k + 1) - 1) (k + 1)) (item f x - 1) 0 ≡ x) here
      (get_or-set_same g (item f (k + 1) - 1) (k + 1) 0 (let l = w.back_images in omega arith)))
      (cases_lt d (k + 1));
}

-- a bijection leaves no chamber out
pub none_left_out : (n : ℕ) (f g : List ℕ) → IsWritten n n f g → IsBijection n f → (e : ℕ) → 1 ≤ e → e ≤ n → item g e ≡ 0 → ⊥
none_left_out n f g w b e le he zero =
    let d = item b.inverse e in
    let inside = b.right.within e le he in
    let there = b.right.undone e le he in
    let back : item g e ≡ d = ap (item g) (sym there) ∙ w.kept b d inside.0 inside.1 in
    omega (arith, inside.0)

pub all_written : (n : ℕ) (f g : List ℕ) → IsWritten n n f g → ((d : ℕ) → 1 ≤ d → d ≤ n → item g (item f d) ≡ d) → ((e : ℕ) → 1 ≤ e → e ≤ n → item g e ≡ 0 → ⊥)
    → AreInverse n f g
all_written n f g w undone full = record {
  images = w.images;
  back_images = w.back_images;
  left = record { within = w.within; undone = undone };
  right = record {
    within = λ e le he. ⊎_elim (λ none. absurd (full e le he none)) (λ old. (old.0, old.1)) (w.written e le he);
    undone = λ e le he. ⊎_elim (λ none. absurd (full e le he none)) (λ old. old.2) (w.written e le he);
  };
}
