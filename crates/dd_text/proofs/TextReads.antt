-- The exits of the code that reads the text of a symbol.
use Rattle.std.proofs.Common.{◌≡◌, ◌≢◌, ℕ, ◌<◌, List, [], ◌∷◌, length, Option, Some, None, refl, ◌∙◌, subst, arith}
use Rattle.std.specs.Prelude.{map, IfSome}
use Rattle.dd_model.specs.declared.tokens.Placed.{Placed}
use Rattle.dd_model.specs.declared.tokens.Numeral.{Numeral}
use Rattle.dd_model.specs.Parts.{Cursor, first_part, after_part, Spells}
use Rattle.dd_model.specs.Spelling.{Told, Head, number_part, sign_part, with_head, with_dimension, with_list}
use Rattle.dd_model.proofs.ReadingParts.{spells-append, sign_is_no_number, signs_differ}
use Rattle.dd_text.specs.declared.faults.Fault.{Fault}
use Rattle.dd_text.specs.declared.symbol_text.SymbolText.{SymbolText}
use Rattle.dd_text.specs.TextFaults.{IsSizeFault, IsDimensionFault, IsTextFault}
use Rattle.dd_text.specs.Texts.{told_of, IsListFault, IsHeadTo, IsSizeTo, IsTextTo}
use Rattle.dd_text.proofs.ShapeParts.{opened, opened-append, front, front-append, next_sign, signs, IsOther, listed, no_other_in_list, number_in_list}
use Rattle.dd_text.proofs.SizeParts.{sized, no_size_fault, no_dimension_fault}
use Rattle.dd_text.proofs.SizeReads.{same_value}
use Rattle.dd_text.proofs.FaultMakers.{form_by_number, text_fault, unless_memory}

any : Numeral
any = record { at = 0; value = 0 }

-- the size, and what comes after it
pub record AfterSize (c e : Cursor) (h : Option Head) (n : Numeral) (ps : List Placed) : Type 0 where
  pub mid : Cursor
  pub spells : Spells c (sized h n) mid
  pub rest : Spells mid ps e

pub after_size : (c e : Cursor) (h : Option Head) (n : Numeral) (ps : List Placed) → Spells c (with_head h (number_part n ∷ ps)) e → AfterSize c e h n ps
after_size c e None n ps a = record { mid = after_part c; spells = (a.0, refl); rest = a.1 }
after_size c e (Some h) n ps a = record { mid = after_part (after_part (after_part (after_part (after_part c)))); spells = (a.0, (a.1.0, (a.1.1.0, (a.1.1.1.0, (a.1.1.1.1.0, refl))))); rest = a.1.1.1.1.1 }

-- after the size comes no dot, and no number but 2
pub record IsAfterSize (mid : Cursor) : Type 0 where
  pub no_dot : (j : ℕ) → first_part mid ≢ sign_part 46 j
  pub two : (x : Numeral) → first_part mid ≡ number_part x → x.value ≡ 2

pub after_dimension : (mid e : Cursor) (d : Option Numeral) (m : ℕ) (ps : List Placed) → Spells mid (with_dimension d (sign_part 58 m ∷ ps)) e → IfSome d (λ x. x.value ≡ 2) → IsAfterSize mid
after_dimension mid e None m ps a two = record {
  no_dot = λ j f. let same = signs_differ (first_part mid) 58 m 46 j a.0 f in omega arith;
  two = λ x f. absurd (sign_is_no_number (first_part mid) 58 m x a.0 f);
}
after_dimension mid e (Some d) m ps a two = record {
  no_dot = λ j f. sign_is_no_number (first_part mid) 46 j d f a.0;
  two = λ x f. same_value (first_part mid) x d f a.0 ∙ two;
}

pub record NoEarlierFault (c : Cursor) : Type 0 where
  pub size : (place : ℕ) → IsSizeFault c place → ⊥
  pub dimension : (place : ℕ) → IsDimensionFault c place → ⊥

no_earlier_fault : (c d : Cursor) (n : ℕ) → IsSizeTo c n d → NoEarlierFault c
no_earlier_fault c d n a =
    let s = after_size c d a.head a.size (with_dimension a.dimension (sign_part 58 a.colon ∷ [])) a.spells in
    let after = after_dimension s.mid d a.dimension a.colon [] s.rest a.two in
    let head : IsHeadTo c a.size (first_part s.mid) (after_part s.mid) = record { head = a.head; mid = s.mid; spells = s.spells; no_prefix = λ e. after.no_dot; next_is = refl; to = refl } in
    record {
      size = no_size_fault c a.size (first_part s.mid) (after_part s.mid) head a.some a.few;
      dimension = no_dimension_fault c a.size (first_part s.mid) (after_part s.mid) head after.two;
    }

-- the size, lists, and what comes after them
pub whole : (c d e u : Cursor) (n : ℕ) (done : List Told) (ps : List Placed) (a : IsSizeTo c n d) → Spells d (front signs done []) e → Spells e ps u
    → Spells c (opened a.head a.size a.dimension a.colon (front signs done ps)) u
whole c d e u n done ps a lists rest =
    let body : Spells d (front signs done ps) u = subst (λ z. Spells d z u) (front-append signs done [] ps) (spells-append d e u (front signs done []) ps lists rest) in
    subst (λ z. Spells c z u) (opened-append a.head a.size a.dimension a.colon [] (front signs done ps))
    (spells-append c d u (opened a.head a.size a.dimension a.colon []) (front signs done ps) a.spells body)

-- a list is cut after these lists
pub list_fault : (c d e : Cursor) (n : ℕ) (done : List Told) (f : Fault) → length done < 5 → IsSizeTo c n d → Spells d (front signs done []) e
    → IsListFault e (next_sign signs done) f → IsTextFault c f.why f.at
list_fault c d e n done f short a lists fault =
    unless_memory c f.why f.at
    (λ other.
    let cut = fault other in
    let spells = whole c d e cut.here n done (map number_part cut.numbers) a lists cut.spells in
    let is_other : IsOther (first_part cut.here) (next_sign signs done) = record { number = cut.no_number.other; sign = cut.no_end } in
    let early = no_earlier_fault c d n a in
    text_fault c f.why f.at
    (form_by_number c cut.here (listed a.head a.size a.dimension a.colon done cut.numbers) f spells cut.no_number any
    (number_in_list a.head a.size a.dimension a.colon done cut.numbers any short)
    (no_other_in_list a.head a.size a.dimension a.colon done cut.numbers (first_part cut.here) short is_other))
    early.size early.dimension)

-- one more list in front
step_list : (d e u : Cursor) (l : Told) (s : ℕ) (ps : List Placed) → Spells d (with_list l s []) e → Spells e ps u → Spells d (with_list l s ps) u
step_list d e u l s ps a b = subst (λ z. Spells d z u) (front-append (s ∷ []) (l ∷ []) [] ps) (spells-append d e u (with_list l s []) ps a b)

pub lists_1 : (d e1 : Cursor) (l0 : Told) → Spells d (with_list l0 44 []) e1 → Spells d (front signs (l0 ∷ []) []) e1
lists_1 d e1 l0 a = a

pub lists_2 : (d e1 e2 : Cursor) (l0 l1 : Told) → Spells d (with_list l0 44 []) e1 → Spells e1 (with_list l1 44 []) e2 → Spells d (front signs (l0 ∷ l1 ∷ []) []) e2
lists_2 d e1 e2 l0 l1 a b = step_list d e1 e2 l0 44 (with_list l1 44 []) a b

pub lists_3 : (d e1 e2 e3 : Cursor) (l0 l1 l2 : Told) → Spells d (with_list l0 44 []) e1 → Spells e1 (with_list l1 44 []) e2 → Spells e2 (with_list l2 58 []) e3
    → Spells d (front signs (l0 ∷ l1 ∷ l2 ∷ []) []) e3
lists_3 d e1 e2 e3 l0 l1 l2 a b c = step_list d e1 e3 l0 44 _ a (step_list e1 e2 e3 l1 44 _ b c)

pub lists_4 : (d e1 e2 e3 e4 : Cursor) (l0 l1 l2 l3 : Told) → Spells d (with_list l0 44 []) e1 → Spells e1 (with_list l1 44 []) e2 → Spells e2 (with_list l2 58 []) e3
    → Spells e3 (with_list l3 44 []) e4 → Spells d (front signs (l0 ∷ l1 ∷ l2 ∷ l3 ∷ []) []) e4
lists_4 d e1 e2 e3 e4 l0 l1 l2 l3 a b c f = step_list d e1 e4 l0 44 _ a (step_list e1 e2 e4 l1 44 _ b (step_list e2 e3 e4 l2 58 _ c f))

pub text_read : (c d e1 e2 e3 e4 e5 : Cursor) (n : ℕ) (t : SymbolText) → IsSizeTo c n d → n ≡ t.size → Spells d (with_list (told_of t.s0) 44 []) e1 → Spells e1 (with_list (told_of t.s1) 44 []) e2
    → Spells e2 (with_list (told_of t.s2) 58 []) e3 → Spells e3 (with_list (told_of t.m01) 44 []) e4 → Spells e4 (with_list (told_of t.m12) 62 []) e5 → IsTextTo c t e5
text_read c d e1 e2 e3 e4 e5 n t a same s0 s1 s2 m01 m12 = record {
  shape = record { head = a.head; size = a.size; dimension = a.dimension; colon = a.colon; s0 = told_of t.s0; s1 = told_of t.s1; s2 = told_of t.s2; m01 = told_of t.m01; m12 = told_of t.m12 };
  spells = whole c d e4 e5 n (told_of t.s0 ∷ told_of t.s1 ∷ told_of t.s2 ∷ told_of t.m01 ∷ []) (with_list (told_of t.m12) 62 []) a
      (lists_4 d e1 e2 e3 e4 _ _ _ _ s0 s1 s2 m01) m12;
  plane = record { some = a.some; few = a.few; two = a.two };
  text = record { size = a.value ∙ same; s0 = refl; s1 = refl; s2 = refl; m01 = refl; m12 = refl };
}
