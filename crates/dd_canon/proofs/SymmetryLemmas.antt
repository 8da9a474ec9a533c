-- The isomorphisms of a symbol onto itself, by where they take chamber 1.
use Rattle.std.proofs.Common.{◌≡◌, ◌≢◌, ℕ, ◌≤◌, List, length, sym, ap, ◌∙◌, arith}
use Rattle.std.proofs.lemmas.Cmp.{tied_itself}
use Rattle.std.specs.declared.cmp.Ordering.{Ordering}
use Rattle.std.specs.declared.cmp.Ordering.TheVariants.{Equal}
use Rattle.dd_model.specs.Symbol.{Symbol, IsTable, IsChamber, item}
use Rattle.dd_model.specs.Isomorphic.{IsIsomorphism}
use Rattle.dd_model.specs.FirstVisit.{IsNumberedFrom}
use Rattle.dd_model.proofs.Bijections.{after, item-after}
use Rattle.dd_model.proofs.Codes.{code_cmp_total}
use Rattle.dd_model.proofs.Isomorphisms.{inverse_isomorphism, IsIsomorphism-after}
use Rattle.dd_canon.specs.Standing.{IsStanding, IsWhole}
use Rattle.dd_canon.specs.Symmetries.{Carries}
use Rattle.dd_canon.proofs.FormLemmas.{reached, reached_back, through_form, within_form}

module _ (s form : Symbol) (is : IsTable s) (order1 number1 : List ℕ) (home : IsWhole s 1 order1 number1) (table : IsTable form) (iso : IsIsomorphism s form number1)
    (to : ℕ) (h : IsChamber s to) (o : Ordering) (standing : IsStanding s form to o) (order number : List ℕ) where
  numbered : IsNumberedFrom s 1 form
  numbered = home.numbered form table iso

  module _ (equal : o ≡ Equal) (whole : IsWhole s to order number) where
    back : IsIsomorphism form s order
    back = reached_back s form to order number is whole (reached s form to order number o is table standing equal whole)

    pub joins : (d : ℕ) → 1 ≤ d → d ≤ length number1 → (1 ≤ item number1 d) × (item number1 d ≤ length order)
    joins = within_form s s form number1 order iso back

    -- the numbers from chamber 1, and then the order from the other chamber
    pub carries : Carries s to (after order number1)
    carries =
        let some = is.chambers in
        record {
          isomorphism = through_form s s form number1 order is iso back;
          there =
              item-after order number1 s.size 1 home.inverse.images (omega arith) some ∙ ap (item order) (home.start_first ∙ sym whole.start_first)
              ∙ whole.inverse.left.undone to h.0 h.1;
        }

  -- An isomorphism would make the codes equal.
  pub carries_not : o ≢ Equal → (f : List ℕ) → Carries s to f → ⊥
  carries_not other f carried =
      let some = is.chambers in
      let there = carried.isomorphism in
      let inverse = there.bijection.inverse in
      let again = IsIsomorphism-after s s form inverse number1 is (inverse_isomorphism s s f is there) iso in
      let first : item inverse to ≡ 1 = ap (item inverse) (sym carried.there) ∙ there.bijection.left.undone 1 (omega arith) some in
      let from : IsNumberedFrom s to form = record {
        table = table;
        map = after number1 inverse;
        isomorphism = again;
        start_first = item-after number1 inverse s.size to there.bijection.inverse_images h.0 h.1 ∙ ap (item number1) first ∙ home.start_first;
        first_visit = numbered.first_visit;
      } in
      other (sym (standing.stands form from) ∙ tied_itself code_cmp_total form)
