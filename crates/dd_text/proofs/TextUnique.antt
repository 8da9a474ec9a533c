-- A text has one fault of form, size or dimension.
use Rattle.std.proofs.Common.{◌≡◌, ◌≢◌, ℕ, List, [], ◌∷◌, ◌++◌, length, refl, sym, ap, ◌∙◌, subst, ⊎_elim, arith, append_assoc}
use Rattle.std.specs.List.{AllByRecursion}
use Rattle.std.proofs.lemmas.List.{length-append}
use Rattle.dd_model.specs.declared.tokens.Part.TheVariants.{Overlong, End}
use Rattle.dd_model.specs.declared.tokens.Placed.{Placed}
use Rattle.dd_model.specs.declared.tokens.Numeral.{Numeral}
use Rattle.dd_model.specs.Parts.{Cursor, first_part, Spells}
use Rattle.dd_model.proofs.ReadingParts.{spells-end, same_number}
use Rattle.dd_text.specs.declared.faults.Why.{Why}
use Rattle.dd_text.specs.declared.faults.Why.TheVariants as whys
use Rattle.dd_text.specs.TextFaults.{MayStand, IsStray, IsTooLong, IsWrong, IsFormFault, IsSizeFault, IsDimensionFault, IsFirstFormFault, IsTextFault}
use Rattle.dd_text.proofs.SizeParts.{same_sized, split, number_is_no_dot}
use Rattle.dd_text.proofs.TextExclusion.{IsPlain, compare, GoesOn, plain_parts, plain_at, wrong_excluded}

-- the same cause at the same place
pub record SameFault (v w : Why) (a b : ℕ) : Type 0 where
  pub why : v ≡ w
  pub place : a ≡ b

-- what may be wrong with a part
data WrongKind (before : List Placed) (p : Placed) (w : Why) : Type 0 where
  stray : w ≡ whys.Stray → IsStray before p → WrongKind before p w
  ended : w ≡ whys.UnexpectedEnd → p.part ≡ End → WrongKind before p w
  long : w ≡ whys.NumberTooLong → IsTooLong before p → WrongKind before p w

wrong_kind : (before : List Placed) (p : Placed) (w : Why) → IsWrong before p w → WrongKind before p w
wrong_kind before p whys.Stray f = stray refl f
wrong_kind before p whys.UnexpectedEnd f = ended refl f
wrong_kind before p whys.NumberTooLong f = long refl f
wrong_kind before p whys.Dimension f = absurd f
wrong_kind before p whys.Size f = absurd f
wrong_kind before p whys.ListShort f = absurd f
wrong_kind before p whys.ListLong f = absurd f
wrong_kind before p whys.Image f = absurd f
wrong_kind before p (whys.Symbol r) f = absurd f
wrong_kind before p whys.TooManySymbols f = absurd f
wrong_kind before p whys.Long f = absurd f
wrong_kind before p whys.Memory f = absurd f

end_is_not_long : (p : Placed) → p.part ≡ End → p.part ≡ Overlong → ⊥
end_is_not_long p e f = let g : End ≡ Overlong = sym e ∙ f in cc

wrong_once : (before : List Placed) (p : Placed) (v w : Why) → WrongKind before p v → WrongKind before p w → v ≡ w
wrong_once before p v w (stray e f) (stray g h) = e ∙ sym g
wrong_once before p v w (stray e f) (ended g h) = absurd (f.some h)
wrong_once before p v w (stray e f) (long g h) = absurd (f.overlong h.overlong h.number h.may_stand)
wrong_once before p v w (ended e f) (stray g h) = absurd (h.some f)
wrong_once before p v w (ended e f) (ended g h) = e ∙ sym g
wrong_once before p v w (ended e f) (long g h) = absurd (end_is_not_long p f h.overlong)
wrong_once before p v w (long e f) (stray g h) = absurd (h.overlong f.overlong f.number f.may_stand)
wrong_once before p v w (long e f) (ended g h) = absurd (end_is_not_long p h f.overlong)
wrong_once before p v w (long e f) (long g h) = e ∙ sym g

-- the wrong part may not stand where it stands
goes_excluded : (c : Cursor) (v : Why) (a : ℕ) (f : IsFormFault c v a) (other : Placed) (before : List Placed) → MayStand before other → GoesOn f.before before f.here → ⊥
goes_excluded c v a f other before m g =
    let p = first_part f.here in
    let e = m.parts ∙ ap (λ z. z ++ other ∷ m.after) g.parts ∙ append_assoc f.before (p ∷ g.rest) (other ∷ m.after) in
    let may : MayStand f.before p = record { shape = m.shape; after = g.rest ++ other ∷ m.after; parts = e } in
    wrong_excluded f.before p v f.wrong may (plain_at f.before p (g.rest ++ other ∷ m.after) (subst (AllByRecursion IsPlain) e (plain_parts m.shape)))

append_nil : (xs : List Placed) → xs ++ [] ≡ xs
append_nil [] = refl
append_nil (x ∷ xs) = ap (λ zs. x ∷ zs) (append_nil xs)

both_end : (xs ys r q : List Placed) → xs ≡ ys ++ r → ys ≡ xs ++ q → xs ≡ ys
both_end xs ys [] q e f = e ∙ append_nil ys
both_end xs ys (z ∷ zs) q e f =
    absurd (omega (arith, ap length e, ap length f, length-append ys (z ∷ zs), length-append xs q))

same_before : (c : Cursor) (v w : Why) (a b : ℕ) (f : IsFormFault c v a) (g : IsFormFault c w b) → f.before ≡ g.before
same_before c v w a b f g =
    ⊎_elim
    (λ on. absurd (goes_excluded c v a f g.other g.before g.may_go_on on))
    (λ ends. ⊎_elim
    (λ on. absurd (goes_excluded c w b g f.other f.before f.may_go_on on))
    (λ back. both_end f.before g.before ends.rest back.rest ends.parts back.parts)
    (compare c g.here f.here g.before f.before g.spells f.spells))
    (compare c f.here g.here f.before g.before f.spells g.spells)

form_once : (c : Cursor) (v w : Why) (a b : ℕ) → IsFormFault c v a → IsFormFault c w b → SameFault v w a b
form_once c v w a b f g =
    let same = same_before c v w a b f g in
    let here : f.here ≡ g.here = spells-end c f.here g.here g.before (subst (λ z. Spells c z f.here) same f.spells) g.spells in
    let moved = subst (λ z. IsWrong z (first_part f.here) w) (sym same) (subst (λ z. IsWrong g.before (first_part z) w) (sym here) g.wrong) in
    record {
      why = wrong_once f.before (first_part f.here) v w (wrong_kind f.before (first_part f.here) v f.wrong) (wrong_kind f.before (first_part f.here) w moved);
      place = sym f.place ∙ ap (λ z. (first_part z).at) here ∙ g.place;
    }

size_once : (c : Cursor) (a b : ℕ) → IsSizeFault c a → IsSizeFault c b → a ≡ b
size_once c a b f g =
    let same = same_sized c f.here g.here f.head g.head f.size g.size f.spells g.spells f.no_prefix g.no_prefix in
    sym f.place ∙ ap (λ (x : Numeral). x.at) same.size ∙ g.place

size_or_dimension : (c : Cursor) (a b : ℕ) → IsSizeFault c a → IsDimensionFault c b → ⊥
size_or_dimension c a b f g =
    let s = split c g.here g.head g.size g.dimension g.spells in
    let same = same_sized c f.here s.mid f.head g.head f.size g.size f.spells s.spells f.no_prefix (λ e. number_is_no_dot (first_part s.mid) g.dimension s.next) in
    let value : f.size.value ≡ g.size.value = ap (λ (x : Numeral). x.value) same.size in
    let some = g.some in
    let few = g.few in
    ⊎_elim (λ e. absurd (omega arith)) (λ e. absurd (omega arith)) f.bad

dimension_once : (c : Cursor) (a b : ℕ) → IsDimensionFault c a → IsDimensionFault c b → a ≡ b
dimension_once c a b f g =
    let s = split c f.here f.head f.size f.dimension f.spells in
    let t = split c g.here g.head g.size g.dimension g.spells in
    let same = same_sized c s.mid t.mid f.head g.head f.size g.size s.spells t.spells
    (λ e. number_is_no_dot (first_part s.mid) f.dimension s.next) (λ e. number_is_no_dot (first_part t.mid) g.dimension t.next) in
    let number = same_number (first_part t.mid) f.dimension g.dimension (ap first_part (sym same.ends) ∙ s.next) t.next in
    sym f.place ∙ ap (λ (x : Numeral). x.at) number ∙ g.place

data TextKind (c : Cursor) (w : Why) (at : ℕ) : Type 0 where
  size : w ≡ whys.Size → IsSizeFault c at → TextKind c w at
  dimension : w ≡ whys.Dimension → IsDimensionFault c at → TextKind c w at
  form : IsFirstFormFault c w at → TextKind c w at

text_kind : (c : Cursor) (w : Why) (at : ℕ) → IsTextFault c w at → w ≢ whys.Memory → TextKind c w at
text_kind c whys.Stray at f some = form f
text_kind c whys.UnexpectedEnd at f some = form f
text_kind c whys.NumberTooLong at f some = form f
text_kind c whys.Dimension at f some = dimension refl f
text_kind c whys.Size at f some = size refl f
text_kind c whys.ListShort at f some = absurd f
text_kind c whys.ListLong at f some = absurd f
text_kind c whys.Image at f some = absurd f
text_kind c (whys.Symbol r) at f some = absurd f
text_kind c whys.TooManySymbols at f some = absurd f
text_kind c whys.Long at f some = absurd f
text_kind c whys.Memory at f some = absurd (some refl)

kinds_once : (c : Cursor) (v w : Why) (a b : ℕ) → TextKind c v a → TextKind c w b → SameFault v w a b
kinds_once c v w a b (size e f) (size g h) = record { why = e ∙ sym g; place = size_once c a b f h }
kinds_once c v w a b (size e f) (dimension g h) = absurd (size_or_dimension c a b f h)
kinds_once c v w a b (size e f) (form h) = absurd (h.size a f)
kinds_once c v w a b (dimension e f) (size g h) = absurd (size_or_dimension c b a h f)
kinds_once c v w a b (dimension e f) (dimension g h) = record { why = e ∙ sym g; place = dimension_once c a b f h }
kinds_once c v w a b (dimension e f) (form h) = absurd (h.dimension a f)
kinds_once c v w a b (form f) (size g h) = absurd (f.size b h)
kinds_once c v w a b (form f) (dimension g h) = absurd (f.dimension b h)
kinds_once c v w a b (form f) (form h) = form_once c v w a b f.form h.form

pub text_once : (c : Cursor) (v w : Why) (a b : ℕ) → IsTextFault c v a → IsTextFault c w b → v ≢ whys.Memory → w ≢ whys.Memory → SameFault v w a b
text_once c v w a b f g some other = kinds_once c v w a b (text_kind c v a f some) (text_kind c w b g other)
