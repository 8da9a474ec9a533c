-- Free sides as they are listed.
use Rattle.std.proofs.Common.{◌≡◌, ◌≢◌, ℕ, ◌+◌, ◌<◌, ◌≤◌, List, [], ◌∷◌, ◌++◌, length, get_or, sym, ap, ◌∙◌, subst, ⊎_elim, arith}
use Rattle.std.proofs.lemmas.Bool.{cases_lt}
use Rattle.std.proofs.lemmas.List.{get_or_append_left, get_or_push, length_push}
use Rattle.std.proofs.lemmas.List.Elements.{Contains-push, Contains-push_cases, Contains-append_left}
use Rattle.std.specs.List.{Contains}
use Rattle.dd_model.specs.declared.index.Index.{Index}
use Rattle.dd_model.specs.Symbol.{Symbol, AreInvolutions, IsChamber, item, op}
use Rattle.dd_covers.specs.Visits.{rank, IsFirstStep, IsFree}
use Rattle.dd_covers.specs.Visiting.{AreVisitNumbers}
use Rattle.dd_covers.specs.SideLists.{IsFreeSide, AreFreeSidesTo}
use Rattle.dd_covers.specs.declared.side.Side.{Side}
use Rattle.dd_covers.proofs.FreeSides.{first_from, none_from, before_from_rank, rank_from_before, rank_cases}

-- numbers are small
pub number_small : (s : Symbol) (f : List ℕ) → AreVisitNumbers s f → (d : ℕ) → IsChamber s d → item f d ≤ 16384
number_small s f v d h =
    let w = v.order.is.isomorphism.morphism.within d h in
    let size = v.order.is.isomorphism.size in
    let small = v.small.size in
    let e = ap (λ g. item g d) v.order.map in
    omega (arith, w.1)

-- ## First steps, told by ranks

module _ (s : Symbol) (inv : AreInvolutions s) (f : List ℕ) (i : Index) (d there own : ℕ) (h : IsChamber s d) (at : there ≡ op s i d) (is_own : own ≡ rank i (item f d)) where
  pub first_told : there ≢ 1 → ((j : Index) → rank j (item f (op s j there)) < own → ⊥) → IsFirstStep s f i d
  first_told new none =
      first_from s inv f i d h (λ e. new (at ∙ e))
      (λ j before. none j (let less = rank_from_before i j (item f d) (item f (op s j (op s i d))) before in let e = ap (λ z. rank j (item f (op s j z))) at in omega arith))

  pub first_sooner : IsFirstStep s f i d → (j : Index) → rank j (item f (op s j there)) < own → ⊥
  first_sooner first j less =
      none_from s inv f i d h first j (before_from_rank i j (item f d) (item f (op s j (op s i d))) (let e = ap (λ z. rank j (item f (op s j z))) at in omega arith))

-- ## One side more

pub free_more : (s : Symbol) (f : List ℕ) (i : Index) (d : ℕ) (sides : List Side) (x : Side) → x.index ≡ i → x.chamber ≡ d → IsFreeSide s f x → AreFreeSidesTo s f (rank i d) sides
    → AreFreeSidesTo s f (rank i d + 1) (sides ++ x ∷ [])
free_more s f i d sides x ei ed free old =
    let own : rank x.index x.chamber ≡ rank i d = ap (λ j. rank j x.chamber) ei ∙ ap (rank i) ed in
    let longer = length_push sides x in
    record {
      each = λ y here. ⊎_elim
          (λ before. let e = old.each y before in (e.0, (let l = e.1 in omega arith)))
          (λ at. subst (λ (z : Side). IsFreeSide s f z × (rank z.index z.chamber < rank i d + 1)) at (free, omega arith))
          (Contains-push_cases sides x y here);
      all = λ j e is low. ⊎_elim
          (λ less. let y = old.all j e is less in record { side = y.side; listed = Contains-append_left sides (x ∷ []) y.side y.listed; index = y.index; chamber = y.chamber })
          (λ same. record { side = x; listed = Contains-push sides x; index = ei ∙ sym same.0; chamber = ed ∙ sym same.1 })
          (rank_cases i j d e low);
      ascending = λ q r y z less inside at_q at_r.
          let early : get_or sides q y ≡ y = sym (get_or_append_left sides (x ∷ []) y q (omega arith)) ∙ at_q in
          let listed : Contains sides y = (q, omega arith, early) in
          ⊎_elim
          (λ before. old.ascending q r y z less before early (sym (get_or_append_left sides (x ∷ []) z r before) ∙ at_r))
          (λ last.
          let e : x ≡ z = sym (get_or_push sides x z r (omega arith)) ∙ at_r in
          let top : rank z.index z.chamber ≡ rank i d = ap (λ (w : Side). rank w.index w.chamber) (sym e) ∙ own in
          let low = (old.each y listed).1 in
          omega arith)
          (cases_lt r (length sides));
    }

pub free_as_before : (s : Symbol) (f : List ℕ) (i : Index) (d : ℕ) (sides : List Side) → (IsFree s f i d → ⊥) → AreFreeSidesTo s f (rank i d) sides → AreFreeSidesTo s f (rank i d + 1) sides
free_as_before s f i d sides not_free old = record {
  each = λ y here. let e = old.each y here in (e.0, (let l = e.1 in omega arith));
  all = λ j e is low. ⊎_elim
      (λ less. old.all j e is less)
      (λ same. absurd (not_free (subst (λ z. IsFree s f z d) same.0 (subst (IsFree s f j) same.1 is))))
      (rank_cases i j d e low);
  ascending = old.ascending;
}
