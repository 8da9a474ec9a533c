-- Isomorphic symbols have the same branching values, equally many cells, and are minimal together.
use Rattle.std.proofs.Common.{◌≡◌, ℕ, ◌≤◌, List, length, sym, ap, ◌∙◌, subst, inl, inr, ⊎_elim, arith}
use Rattle.dd_model.specs.declared.index.Index.{Index}
use Rattle.dd_model.specs.declared.pair.Pair.{Pair}
use Rattle.dd_model.specs.Symbol.{Symbol, AreInvolutions, IsChamber, first, second, item, op, act}
use Rattle.dd_model.specs.Isomorphic.{IsMorphism, IsIsomorphism}
use Rattle.dd_model.specs.Cell.{InCell, IsChain, IsBranching, AreCells}
use Rattle.dd_model.specs.Minimal.{Alike, Minimal}
use Rattle.dd_model.proofs.Words.{act_within}
use Rattle.dd_model.proofs.Isomorphisms.{IsIsomorphism-inverse}
use Rattle.dd_model.proofs.Transport.{act-along, degree-along, involution-along, in_cell-along, in_cell_within, least_turns-along}
use Rattle.dd_model.proofs.CellWalks.{in_cell-sym, in_cell-trans}
use Rattle.dd_model.proofs.CellSearch.{has_least, least_of_cell_unique}
use Rattle.dd_model.proofs.Counts.{length-le_from_partners}

-- a chamber and its image have the same branching values
pub branching-along : (s t : Symbol) (f : List ℕ) → AreInvolutions s → IsIsomorphism s t f → (p : Pair) (d v : ℕ) → IsChamber s d → IsBranching s p d v → IsBranching t p (item f d) v
branching-along s t f inv iso p d v h b =
    let back = IsIsomorphism-inverse s t f inv iso in
    record {
      r = b.r;
      least_turns = least_turns-along s t f iso.bijection.inverse inv (involution-along s t f inv iso) iso.morphism back.morphism
          (λ x hx. iso.bijection.left.undone x hx.0 hx.1) p d b.r h b.least_turns;
      quotient = b.quotient ∙ sym (degree-along s t f iso.morphism p d h);
    }

-- The image of a chain is a chain.
pub chain-along : (s t : Symbol) (f : List ℕ) → AreInvolutions s → IsMorphism s t f → (p : Pair) (d : ℕ) → IsChamber s d → IsChain s p d → IsChain t p (item f d)
chain-along s t f inv m p d h chain =
    let hx = in_cell_within s inv p d chain.chamber h chain.in_cell in
    let fixed : (i : Index) → op s i chain.chamber ≡ chain.chamber → op t i (item f chain.chamber) ≡ item f chain.chamber = λ i e.
    sym (m.op i chain.chamber hx) ∙ ap (item f) e in
    record {
      chamber = item f chain.chamber;
      in_cell = in_cell-along s t f inv m p d chain.chamber h chain.in_cell;
      fixed = ⊎_elim (λ e. inl (fixed (first p) e)) (λ e. inr (fixed (second p) e)) chain.fixed;
    }

-- chambers whose images lie in one cell lie in one cell
in_cell_from_images : (s t : Symbol) (f : List ℕ) → AreInvolutions s → IsIsomorphism s t f → (p : Pair) (d e : ℕ) → IsChamber s d → IsChamber s e → InCell t p (item f d) (item f e) → InCell s p d e
in_cell_from_images s t f inv iso p d e hd he there =
    let back = IsIsomorphism-inverse s t f inv iso in
    let g = iso.bijection.inverse in
    let carried = in_cell-along t s g (involution-along s t f inv iso) back.morphism p (item f d) (item f e) (iso.morphism.within d hd) there in
    subst (λ x. InCell s p x e) (iso.bijection.left.undone d hd.0 hd.1)
    (subst (InCell s p (item g (item f d))) (iso.bijection.left.undone e he.0 he.1) carried)

-- The image has no fewer cells.
pub cells-le : (s t : Symbol) (f : List ℕ) → AreInvolutions s → IsIsomorphism s t f → (p : Pair) (ds es : List ℕ) → AreCells s p ds → AreCells t p es → length ds ≤ length es
cells-le s t f inv iso p ds es a b =
    let inv_t = involution-along s t f inv iso in
    length-le_from_partners (λ d e. InCell t p (item f d) e) ds es a.ascending
    (λ d here.
    let h = ((a.members d).0 here).0 in
    let l = has_least t inv_t p (item f d) (iso.morphism.within d h) in
    (l.least, (b.members l.least).1 l.is_least, l.in_cell))
    (λ d d' e here here' there there'.
    let least = (a.members d).0 here in
    let least' = (a.members d').0 here' in
    let back = in_cell-sym t inv_t p (item f d') e (iso.morphism.within d' least'.0) there' in
    least_of_cell_unique s inv p d d' least least'
    (in_cell_from_images s t f inv iso p d d' least.0 least'.0 (in_cell-trans t p (item f d) e (item f d') there back)))

-- alike chambers have alike images
alike-along : (s t : Symbol) (f : List ℕ) → AreInvolutions s → IsMorphism s t f → (d e : ℕ) → IsChamber s d → IsChamber s e → Alike s d e → Alike t (item f d) (item f e)
alike-along s t f inv m d e hd he alike w =
    let same = alike w in
    let at : (x : ℕ) → IsChamber s x → (item t.m01 (act t w (item f x)) ≡ item s.m01 (act s w x)) × (item t.m12 (act t w (item f x)) ≡ item s.m12 (act s w x)) = λ x h.
    let there = act_within s inv w x h in
    let e = act-along s t f inv m w x h in
    (ap (item t.m01) (sym e) ∙ m.m01 (act s w x) there, ap (item t.m12) (sym e) ∙ m.m12 (act s w x) there) in
    let a = at d hd in
    let b = at e he in
    (a.0 ∙ same.0 ∙ sym b.0, a.1 ∙ same.1 ∙ sym b.1)

-- The image of a minimal symbol is minimal.
pub minimal-along : (s t : Symbol) (f : List ℕ) → AreInvolutions s → IsIsomorphism s t f → Minimal s → Minimal t
minimal-along s t f inv iso minimal d e hd he alike =
    let back = IsIsomorphism-inverse s t f inv iso in
    let g = iso.bijection.inverse in
    let it_inv = involution-along s t f inv iso in
    let same = minimal (item g d) (item g e) (back.morphism.within d hd) (back.morphism.within e he) (alike-along t s g it_inv back.morphism d e hd he alike) in
    let size = iso.size in
    sym (iso.bijection.right.undone d hd.0 (omega (arith, hd.1))) ∙ ap (item f) same ∙ iso.bijection.right.undone e he.0 (omega (arith, he.1))
