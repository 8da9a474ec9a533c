-- The best of the starts.
use Rattle.std.proofs.Common.{◌≡◌, ℕ, true, false, ◌+◌, ◌-◌, ◌≤◌, List, length, sym, ap, ◌∙◌, subst, ⊎_elim, arith}
use Rattle.std.proofs.lemmas.Bool.{cases_lt}
use Rattle.std.specs.Ordering.{is_lt, ordering_reverse}
use Rattle.std.specs.declared.cmp.Ordering.{Ordering}
use Rattle.std.specs.declared.cmp.Ordering.TheVariants.{Less, Equal}
use Rattle.dd_model.specs.Symbol.{Symbol, IsTable, IsSymbol, IsChamber, item}
use Rattle.dd_model.specs.Connected.{Connected}
use Rattle.dd_model.specs.Isomorphic.{IsBijection, IsIsomorphism, Isomorphic}
use Rattle.dd_model.specs.Code.{code_cmp, Least, IsLeastForm}
use Rattle.dd_model.specs.FirstVisit.{IsNumberedFrom}
use Rattle.dd_canon.specs.Standing.{IsBestTo, IsStanding, IsWhole}
use Rattle.dd_model.proofs.Bijections.{after}
use Rattle.dd_model.proofs.Codes.{same_from_code_cmp, code_cmp_total}
use Rattle.dd_model.proofs.Isomorphisms.{inverse_isomorphism, IsIsomorphism-after}
use Rattle.dd_model.proofs.Exchanges.{renumbered, renumbered_table, renumbered_isomorphism}
use Rattle.dd_model.proofs.LeastForms.{new_best, below_back, least_of_best, form_as_symbol, copy_is_symbol}
use Rattle.dd_model.proofs.Numberings.{numbered_from}
use Rattle.dd_canon.proofs.OrderLemmas.{less_of}

-- a numbering that is not below leaves the best as it is
pub stays_best : (s t : Symbol) (start : ℕ) (o : Ordering) → IsBestTo s (start - 1) t → IsStanding s t start o → is_lt o ≡ false → IsBestTo s start t
stays_best s t start o best standing not_less = record {
  best = λ d u low high a. ⊎_elim
      (λ early. best.best d u low (omega arith) a)
      (λ late great.
      let e : d ≡ start = omega arith in
      let stands : code_cmp u t ≡ o = standing.stands u (subst (λ c. IsNumberedFrom s c u) e a) in
      let less : code_cmp u t ≡ Less = code_cmp_total.antisymm u t ∙ ap ordering_reverse great in
      let now : is_lt o ≡ true = ap is_lt (sym stands ∙ less) in
      cc)
      (cases_lt d start);
}

-- a numbering that is below is the best from then on
pub becomes_best : (s t u : Symbol) (start : ℕ) (order number : List ℕ) (o : Ordering) → IsTable s → Connected s → IsChamber s start → IsBestTo s (start - 1) t
    → IsStanding s t start o → is_lt o ≡ true → IsWhole s start order number → IsTable u → IsIsomorphism s u number → IsBestTo s start u
becomes_best s t u start order number o is con h best standing less whole iu iso =
    let pos = h.0 in
    let e : start - 1 + 1 ≡ start = omega arith in
    let a = whole.numbered u iu iso in
    let below : code_cmp u t ≡ Less = standing.stands u a ∙ less_of o less in
    let new = new_best s t u (start - 1) is con (subst (IsChamber s) (sym e) h) best.best (subst (λ c. IsNumberedFrom s c u) (sym e) a) (below_back u t below) in
    subst (λ n. IsBestTo s n u) e (record { best = new })

-- the best of all starts is the least form
pub best_is_least : (s t : Symbol) (n : ℕ) → IsSymbol s → Connected s → IsTable t → Isomorphic s t → n ≡ s.size → IsBestTo s n t → IsLeastForm s t
best_is_least s t n is con it iso e best = form_as_symbol s t is (least_of_best s t is.table con it iso (subst (λ k. IsBestTo s k t) e best).best)

-- a symbol that is below no numbering of its own is not least
pub beaten : (s : Symbol) (start : ℕ) (o : Ordering) → IsSymbol s → Connected s → IsChamber s start → IsStanding s s start o → is_lt o ≡ true → Least s → ⊥
beaten s start o is con h standing less least =
    let u = numbered_from s start is.table con h in
    let a = u.1 in
    let there : Isomorphic s u.0 = (a.map, a.isomorphism) in
    least u.0 (copy_is_symbol s u.0 is a.table there) there (below_back u.0 s (standing.stands u.0 a ∙ less_of o less))

-- the numbers as a bijection
pub whole_bijection : (s : Symbol) (start : ℕ) (order number : List ℕ) → IsWhole s start order number → IsBijection s.size number
whole_bijection s start order number whole = record {
  images = whole.inverse.images;
  inverse = order;
  inverse_images = whole.inverse.back_images;
  left = whole.inverse.left;
  right = whole.inverse.right;
}

-- where the codes are equal, the numbers lead to the form
pub reached : (s b : Symbol) (start : ℕ) (order number : List ℕ) (o : Ordering) → IsTable s → IsTable b → IsStanding s b start o → o ≡ Equal → IsWhole s start order number → IsIsomorphism s b number
reached s b start order number o is ib standing equal whole =
    let bij = whole_bijection s start order number whole in
    let t = renumbered s number bij.inverse in
    let it = renumbered_table s number is bij in
    let iso = renumbered_isomorphism s number bij in
    let same : t ≡ b = same_from_code_cmp t b it ib (standing.stands t (whole.numbered t it iso) ∙ equal) in
    subst (λ u. IsIsomorphism s u number) same iso

-- and the order leads back
pub reached_back : (s b : Symbol) (start : ℕ) (order number : List ℕ) → IsTable s → IsWhole s start order number → IsIsomorphism s b number → IsIsomorphism b s order
reached_back s b start order number is whole iso =
    let there : IsIsomorphism s b number = record {
      size = iso.size;
      bijection = record {
        images = whole.inverse.images;
        inverse = order;
        inverse_images = whole.inverse.back_images;
        left = whole.inverse.left;
        right = whole.inverse.right;
      };
      morphism = iso.morphism;
    } in
    inverse_isomorphism s b number is there

-- the maps through the form
pub through_form : (a b t : Symbol) (f g : List ℕ) → IsTable a → IsIsomorphism a t f → IsIsomorphism t b g → IsIsomorphism a b (after g f)
through_form a b t f g ia there back = IsIsomorphism-after a t b f g ia there back

pub within_form : (a b t : Symbol) (f g : List ℕ) → IsIsomorphism a t f → IsIsomorphism t b g → (d : ℕ) → 1 ≤ d → d ≤ length f → (1 ≤ item f d) × (item f d ≤ length g)
within_form a b t f g there back d low high =
    let nf = there.bijection.images in
    let ng = back.bijection.images in
    let size = there.size in
    let w = there.bijection.left.within d low (omega arith) in
    (w.0, omega (arith, w.1))
