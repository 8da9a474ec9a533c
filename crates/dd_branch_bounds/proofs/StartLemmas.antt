-- Chambers of which nothing is known yet.
use Rattle.std.proofs.Common.{◌≡◌, ℕ, zero, suc, ◌+◌, ◌*◌, ◌/◌, ◌%◌, ◌<◌, ◌≤◌, List, Some, length, length-set, set, replicate, refl, sym, ap, ◌∙◌, subst, inl, inr, ⊎_elim, arith}
use Rattle.std.proofs.lemmas.Bool.{cases_eq}
use Rattle.dd_branch_bounds.specs.Changes.{IsAlone}
use Rattle.dd_branch_bounds.specs.Classes.{share_in}
use Rattle.dd_branch_bounds.specs.Ends.{IsInside}
use Rattle.dd_branch_bounds.specs.PathEnd.{PathEnd}
use Rattle.dd_branch_bounds.specs.Sides.{end_of, path_end}
use Rattle.dd_branch_bounds.specs.declared.class_shares.ClassShares.{ClassShares}
use Rattle.dd_branch_bounds.specs.declared.end.End.{End}
use Rattle.dd_branch_bounds.proofs.PutLemmas.{put_same, put_other}
use Rattle.dd_branch_bounds.proofs.WriteLemmas.{view, view_set}

-- a flag of one of k chambers, with the other flag of it
pub record IsOwn (t : ClassShares) (k : ℕ) (ends : ℕ → PathEnd) (x : ℕ) : Type 0 where
  pub mate : ℕ
  pub is : ends x ≡ path_end t mate 1
  pub inside : IsInside k (x / 2)
  pub beside : mate / 2 ≡ x / 2
  pub apart : mate ≡ x → ⊥

-- the flags of k chambers, and no others
abbrev pub AreOwn : ClassShares → ℕ → (ℕ → PathEnd) → Type 0
AreOwn t k ends = (x : ℕ) → 1 ≤ (ends x).chambers → IsOwn t k ends x

pub alone_of_own : (t : ClassShares) (k : ℕ) (ends : ℕ → PathEnd) (x : ℕ) → IsOwn t k ends x → IsAlone k (share_in t.weights 1) ends x
alone_of_own t k ends x own =
    let other : (ends x).other ≡ own.mate = ap (λ (e : PathEnd). e.other) own.is in record {
      inside = own.inside;
      chambers = ap (λ (e : PathEnd). e.chambers) own.is;
      share = ap (λ (e : PathEnd). e.share) own.is;
      not_capped = λ yes. let no = ap (λ (e : PathEnd). e.is_capped) own.is in absurd (cc);
      other = ap (λ n. n / 2) other ∙ own.beside;
      both = λ z same. ⊎_elim
          (λ at. inl at)
          (λ away. let beside = own.beside in let apart = own.apart in inr (the_other z own.mate same beside away apart ∙ sym other))
          (cases_eq z x);
    }
  where
    the_other : (z m : ℕ) → z / 2 ≡ x / 2 → m / 2 ≡ x / 2 → (z ≡ x → ⊥) → (m ≡ x → ⊥) → z ≡ m
    the_other z m same beside away apart = omega (arith, same, beside, away, apart)

-- no flag is the other flag of its chamber
pub others_of_own : (t : ClassShares) (k : ℕ) (ends : ℕ → PathEnd) (x : ℕ) → IsOwn t k ends x → (ends x).other ≡ x → ⊥
others_of_own t k ends x own same = own.apart (sym (ap (λ (e : PathEnd). e.other) own.is) ∙ same)

-- the flags of one more chamber
pub own_more : (t : ClassShares) (xs : List End) (k i j : ℕ) (e d : End) → length xs ≡ 74 → k < 36 → i ≡ 2 * (k + 1) → j ≡ 2 * (k + 1) + 1
    → e.other ≡ j → e.class.number ≡ 1 → d.other ≡ i → d.class.number ≡ 1 → AreOwn t k (view t xs) → AreOwn t (k + 1) (view t (set (set xs i e) j d))
own_more t xs k i j e d long low first second mate one back also own x live =
    let size = length-set xs i e in
    let new = view t (set (set xs i e) j d) in
    let last = λ (z : ℕ). ap (λ (f : ℕ → PathEnd). f z) (view_set t (set xs i e) j d (omega (arith, long, size, second, low))) in
    let before = λ (z : ℕ). ap (λ (f : ℕ → PathEnd). f z) (view_set t xs i e (omega (arith, long, first, low))) in
    ⊎_elim
    (λ at. record {
      mate = i;
      is = last x ∙ put_same (view t (set xs i e)) j (end_of t (Some d)) x at ∙ (λ n. path_end t (back n) (also n));
      inside = (omega (arith, at, second), omega (arith, at, second));
      beside = omega (arith, at, first, second);
      apart = λ same. absurd (omega (arith, same, at, first, second));
    })
    (λ not_last.
    let passed = last x ∙ put_other (view t (set xs i e)) j (end_of t (Some d)) x not_last ∙ before x in
    ⊎_elim
    (λ at. record {
      mate = j;
      is = passed ∙ put_same (view t xs) i (end_of t (Some e)) x at ∙ (λ n. path_end t (mate n) (one n));
      inside = (omega (arith, at, first), omega (arith, at, first));
      beside = omega (arith, at, first, second);
      apart = λ same. absurd (omega (arith, same, at, first, second));
    })
    (λ not_first.
    let same : new x ≡ view t xs x = passed ∙ put_other (view t xs) i (end_of t (Some e)) x not_first in
    let was = own x (subst (λ (p : PathEnd). 1 ≤ p.chambers) same live) in
    let high = was.inside.1 in
    record { mate = was.mate; is = same ∙ was.is; inside = (was.inside.0, omega (arith, high)); beside = was.beside; apart = was.apart })
    (cases_eq x i))
    (cases_eq x j)

-- no flags
pub own_none : (t : ClassShares) (e : End) (n : ℕ) → e.class.number ≡ 0 → AreOwn t 0 (view t (replicate n e))
own_none t e n none x live = absurd (let no = nothing n x in omega (arith, no, live))
  where
    nothing : (n x : ℕ) → (view t (replicate n e) x).chambers ≡ 0
    nothing zero x = refl
    nothing (suc n) zero = ap (λ k. k % 64) none
    nothing (suc n) (suc x) = nothing n x
