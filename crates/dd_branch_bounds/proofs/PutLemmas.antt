-- Ends of paths of which some are written.
use Rattle.std.proofs.Common.{◌≡◌, ℕ, ◌≤◌, ◌⊎◌, IsTrue, sym, ap, ◌∙◌, subst, inl, inr, ⊎_elim, arith}
use Rattle.std.proofs.lemmas.Bool.{cases_eq, eq-eqb, ne_eqb}
use Rattle.std.specs.Prelude.{cond, nat_eq}
use Rattle.dd_branch_bounds.specs.Changes.{IsElsewhere, IsRenewed, AreFixed, AreClosed, IsJoined, AreJoined}
use Rattle.dd_branch_bounds.specs.PathEnd.{PathEnd}

-- another end at a flag
abbrev pub put : (ℕ → PathEnd) → ℕ → PathEnd → ℕ → PathEnd
put f i e z = cond (nat_eq z i) e (f z)

pub put_same : (f : ℕ → PathEnd) (i : ℕ) (e : PathEnd) (z : ℕ) → z ≡ i → put f i e z ≡ e
put_same f i e z same = ap (λ t. cond t e (f z)) (eq-eqb z i same)

pub put_other : (f : ℕ → PathEnd) (i : ℕ) (e : PathEnd) (z : ℕ) → (z ≡ i → ⊥) → put f i e z ≡ f z
put_other f i e z away = ap (λ t. cond t e (f z)) (ne_eqb z i away)

-- where no end stands there are no chambers
nothing : (e n : PathEnd) → e ≡ n → n.chambers ≡ 0 → 1 ≤ e.chambers → ⊥
nothing e n same none live = let no : e.chambers ≡ 0 = ap (λ (d : PathEnd). d.chambers) same ∙ none in absurd (omega (arith, no, live))

-- what stands where neither end of a path was written
put_elsewhere : (old : ℕ → PathEnd) (x m : ℕ) (n e : PathEnd) → m ≡ (old x).other → n.chambers ≡ 0 → (z : ℕ) → (z ≡ m → ⊥)
    → 1 ≤ (put (put old x n) m e z).chambers → IsElsewhere old (put (put old x n) m e) x z
put_elsewhere old x m n e mate none z away live =
    let once = put_other (put old x n) m e z away in
    ⊎_elim
    (λ here. absurd (nothing (put (put old x n) m e z) n (once ∙ put_same old x n z here) none live))
    (λ apart. record { same = once ∙ put_other old x n z apart; not_this = apart; not_other = λ at. away (at ∙ sym mate) })
    (cases_eq z x)

pub fixed_put : (old : ℕ → PathEnd) (x m v : ℕ) (n e : PathEnd) → m ≡ (old x).other → n.chambers ≡ 0 → (e.chambers ≡ 0) ⊎ IsRenewed old x v e
    → AreFixed old (put (put old x n) m e) x v
fixed_put old x m v n e mate none is z live = ⊎_elim
    (λ at. let here = put_same (put old x n) m e z at in
    ⊎_elim
    (λ gone. absurd (nothing (put (put old x n) m e z) e here gone live))
    (λ there. inl (at ∙ mate, subst (IsRenewed old x v) (sym here) there))
    is)
    (λ away. inr (put_elsewhere old x m n e mate none z away live))
    (cases_eq z m)

pub closed_put : (old : ℕ → PathEnd) (x m : ℕ) (n e : PathEnd) → m ≡ (old x).other → n.chambers ≡ 0 → e.chambers ≡ 0 → AreClosed old (put (put old x n) m e) x
closed_put old x m n e mate none also z live = ⊎_elim
    (λ at. absurd (nothing (put (put old x n) m e z) e (put_same (put old x n) m e z at) also live))
    (λ away. put_elsewhere old x m n e mate none z away live)
    (cases_eq z m)

-- the ends of two paths, of which one was joined to one of the other
abbrev pub connected : (ℕ → PathEnd) → (x y m l : ℕ) (n i e d : PathEnd) → ℕ → PathEnd
connected old x y m l n i e d = put (put (put (put old x n) y i) m e) l d

pub joined_put : (old : ℕ → PathEnd) (x y m l v : ℕ) (n i e d : PathEnd) → m ≡ (old x).other → l ≡ (old y).other → n.chambers ≡ 0 → i.chambers ≡ 0
    → (e.chambers ≡ 0) ⊎ ((IsTrue (old x).is_capped → ⊥) × IsJoined old x y v l e) → (d.chambers ≡ 0) ⊎ ((IsTrue (old y).is_capped → ⊥) × IsJoined old x y v m d)
    → AreJoined old (connected old x y m l n i e d) x y v
joined_put old x y m l v n i e d mate last none also is other z live =
    let new = connected old x y m l n i e d in
    let first = put old x n in
    let second = put first y i in
    ⊎_elim
    (λ at. let here = put_same (put second m e) l d z at in
    ⊎_elim
    (λ gone. absurd (nothing (new z) d here gone live))
    (λ there. inr (inl (at ∙ last, (there.0, subst (IsJoined old x y v (old x).other) (sym here) (subst (λ k. IsJoined old x y v k d) mate there.1)))))
    other)
    (λ not_last.
    let once = put_other (put second m e) l d z not_last in
    ⊎_elim
    (λ at. let here = once ∙ put_same second m e z at in
    ⊎_elim
    (λ gone. absurd (nothing (new z) e here gone live))
    (λ there. inl (at ∙ mate, (there.0, subst (IsJoined old x y v (old y).other) (sym here) (subst (λ k. IsJoined old x y v k e) last there.1))))
    is)
    (λ not_mate.
    let twice = once ∙ put_other second m e z not_mate in
    ⊎_elim
    (λ at. absurd (nothing (new z) i (twice ∙ put_same first y i z at) also live))
    (λ not_y.
    let thrice = twice ∙ put_other first y i z not_y in
    ⊎_elim
    (λ at. absurd (nothing (new z) n (thrice ∙ put_same old x n z at) none live))
    (λ not_x.
    let same : new z ≡ old z = thrice ∙ put_other old x n z not_x in
    inr (inr (
      record { same = same; not_this = not_x; not_other = λ at. not_mate (at ∙ sym mate) },
      record { same = same; not_this = not_y; not_other = λ at. not_last (at ∙ sym last) },
    )))
    (cases_eq z x))
    (cases_eq z y))
    (cases_eq z m))
    (cases_eq z l)
