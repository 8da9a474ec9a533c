-- The exits of the code that reads from the size to its colon.
use Rattle.std.proofs.Common.{◌≡◌, ◌≢◌, ◌⊎◌, ℕ, ◌<◌, ◌≤◌, [], ◌∷◌, Some, None, refl, sym, ap, ◌∙◌, subst}
use Rattle.dd_model.specs.declared.tokens.Placed.{Placed}
use Rattle.dd_model.specs.declared.tokens.Numeral.{Numeral}
use Rattle.dd_model.specs.Parts.{Cursor, first_part, after_part, Spells}
use Rattle.dd_model.specs.Spelling.{number_part, sign_part}
use Rattle.dd_text.specs.declared.faults.Fault.{Fault}
use Rattle.dd_text.specs.Reader.{IsNextPart}
use Rattle.dd_text.specs.TextFaults.{IsSizeFault, IsTextFault}
use Rattle.dd_text.specs.Texts.{IsNoNumber, IsNoSign, IsHeadTo, IsSizeTo}
use Rattle.dd_text.proofs.ShapeParts.{unlike, IsOther}
use Rattle.dd_text.proofs.SizeParts.{sized, measured, dimension_number, dimension_other, colon_sign, colon_other, undotted, no_size_fault, no_dimension_fault, head_then}
use Rattle.dd_text.proofs.FaultMakers.{form_by_number, form_by_sign, text_fault}

any : Numeral
any = record { at = 0; value = 0 }

pub not_sign : (p : Placed) (s : ℕ) → (p ≡ sign_part s p.at → ⊥) → (m : ℕ) → p ≢ sign_part s m
not_sign p s other m same = other (same ∙ ap (λ a. sign_part s a) (sym (ap (λ (q : Placed). q.at) same)))

pub size_fault : (c d : Cursor) (n : Numeral) (next : Placed) → IsHeadTo c n next d → (n.value ≡ 0) ⊎ (1024 < n.value) → IsSizeFault c n.at
size_fault c d n next a bad = record { head = a.head; size = n; here = a.mid; spells = a.spells; no_prefix = undotted c n next d a; bad = bad; place = refl }

-- the colon comes at once
pub size_only : (c d : Cursor) (n : Numeral) (next : Placed) → IsHeadTo c n next d → 1 ≤ n.value → n.value ≤ 1024 → next ≡ sign_part 58 next.at → IsSizeTo c n.value d
size_only c d n next a some few colon = record {
  head = a.head;
  size = n;
  dimension = None;
  colon = next.at;
  spells = head_then c a.mid d a.head n (sign_part 58 next.at ∷ []) a.spells (a.next_is ∙ colon, a.to);
  some = some;
  few = few;
  two = tt;
  value = refl;
}

-- neither a colon nor a number comes
pub no_dimension : (c d : Cursor) (n : Numeral) (next : Placed) (f : Fault) → IsHeadTo c n next d → 1 ≤ n.value → n.value ≤ 1024
    → (next ≡ sign_part 58 next.at → ⊥) → IsNoNumber next f → IsTextFault c f.why f.at
no_dimension c d n next f a some few colon bad =
    let here = subst (λ q. IsNoNumber q f) (sym a.next_is) bad in
    let other : IsOther (first_part a.mid) 58 = record { number = here.other; sign = λ m e. not_sign next 58 colon m (sym a.next_is ∙ e) } in
    text_fault c f.why f.at
    (form_by_number c a.mid (sized a.head n) f a.spells here any (dimension_number a.head n any) (dimension_other a.head n (first_part a.mid) other (undotted c n next d a)))
    (no_size_fault c n next d a some few)
    (no_dimension_fault c n next d a (λ x e. absurd (bad.other x.value (ap (λ (q : Placed). q.part) e))))

measured_to : (c d : Cursor) (n : Numeral) (next : Placed) (x : Numeral) (a : IsHeadTo c n next d) → next ≡ number_part x → Spells c (measured a.head n x) d
measured_to c d n next x a e = head_then c a.mid d a.head n (number_part x ∷ []) a.spells (a.next_is ∙ e, a.to)

pub same_value : (next : Placed) (x y : Numeral) → next ≡ number_part x → next ≡ number_part y → x.value ≡ y.value
same_value next x y e f = let g = ap (λ (q : Placed). q.part) (sym e ∙ f) in cc

-- after the dimension no colon comes
pub no_colon : (c d u : Cursor) (n : Numeral) (next p : Placed) (x : Numeral) (f : Fault) → IsHeadTo c n next d → 1 ≤ n.value → n.value ≤ 1024
    → next ≡ number_part x → x.value ≡ 2 → IsNextPart d p u → IsNoSign p 58 f → IsTextFault c f.why f.at
no_colon c d u n next p x f a some few e two m bad =
    let here = subst (λ q. IsNoSign q 58 f) m.part bad in
    text_fault c f.why f.at
    (form_by_sign c d (measured a.head n x) 58 f (measured_to c d n next x a e) here (colon_sign a.head n x)
    (colon_other a.head n x (first_part d) here.other) (λ z. colon_other a.head n x (number_part z) (λ j g. unlike 58 j z (sym g))))
    (no_size_fault c n next d a some few)
    (no_dimension_fault c n next d a (λ y g. same_value next y x g e ∙ two))

pub size_and_dimension : (c d u : Cursor) (n : Numeral) (next p : Placed) (x : Numeral) → IsHeadTo c n next d → 1 ≤ n.value → n.value ≤ 1024
    → next ≡ number_part x → x.value ≡ 2 → IsNextPart d p u → p ≡ sign_part 58 p.at → IsSizeTo c n.value u
size_and_dimension c d u n next p x a some few e two m colon = record {
  head = a.head;
  size = n;
  dimension = Some x;
  colon = p.at;
  spells = head_then c a.mid u a.head n (number_part x ∷ sign_part 58 p.at ∷ []) a.spells (a.next_is ∙ e, subst (λ z. (first_part z ≡ sign_part 58 p.at) × (after_part z ≡ u)) (sym a.to) (sym m.part ∙ colon, sym m.rest));
  some = some;
  few = few;
  two = two;
  value = refl;
}
