-- A chamber that is alike with no other one.
use Rattle.std.proofs.Common.{◌≡◌, ℕ, ◌++◌, sym, ap, ◌∙◌, subst, arith}
use Rattle.dd_model.specs.Symbol.{Symbol, AreInvolutions, IsChamber, Word, item, act}
use Rattle.dd_model.specs.Connected.{Connected}
use Rattle.dd_model.specs.Minimal.{Alike, Minimal}
use Rattle.dd_model.proofs.Words.{act-append, act_within, act-backwards, backwards}

-- what no word tells apart, no word tells apart after another
alike_after : (s : Symbol) (v : Word) (d e : ℕ) → Alike s d e → Alike s (act s v d) (act s v e)
alike_after s v d e alike w = (
  ap (item s.m01) (sym (act-append s v w d)) ∙ (alike (v ++ w)).0 ∙ ap (item s.m01) (act-append s v w e),
  ap (item s.m12) (sym (act-append s v w d)) ∙ (alike (v ++ w)).1 ∙ ap (item s.m12) (act-append s v w e),
)

-- A word that leads from d to the chamber leads from each one that is alike with d to it.
pub like_no_other : (s : Symbol) → AreInvolutions s → Connected s → (x : ℕ) → IsChamber s x → ((e : ℕ) → IsChamber s e → Alike s x e → x ≡ e) → Minimal s
like_no_other s inv connected x hx alone d e hd he alike =
    let back = backwards (connected d hd).word in
    let on = (connected x hx).word in
    let w = back ++ on in
    let one = first_chamber hd in
    let home : act s back d ≡ 1 = ap (act s back) (sym (connected d hd).leads) ∙ act-backwards s inv (connected d hd).word 1 one in
    let there : act s w d ≡ x = act-append s back on d ∙ ap (act s on) home ∙ (connected x hx).leads in
    let same : x ≡ act s w e = alone (act s w e) (act_within s inv w e he) (subst (λ y. Alike s y (act s w e)) there (alike_after s w d e alike)) in
    sym (act-backwards s inv w d hd) ∙ ap (act s (backwards w)) (there ∙ same) ∙ act-backwards s inv w e he
  where
    first_chamber : IsChamber s d → IsChamber s 1
    first_chamber h = let low = h.0 in let high = h.1 in (omega arith, omega (arith, low, high))
