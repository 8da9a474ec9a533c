-- The exits of the code that reads the head and the size.
use Rattle.std.proofs.Common.{◌≡◌, ℕ, List, [], ◌∷◌, Some, refl, sym, ap, ◌∙◌, subst}
use Rattle.dd_model.specs.declared.tokens.Placed.{Placed}
use Rattle.dd_model.specs.declared.tokens.Numeral.{Numeral}
use Rattle.dd_model.specs.Parts.{Cursor, first_part, after_part, Spells}
use Rattle.dd_model.specs.Spelling.{number_part, sign_part}
use Rattle.dd_text.specs.declared.faults.Fault.{Fault}
use Rattle.dd_text.specs.Reader.{IsNextPart}
use Rattle.dd_text.specs.TextFaults.{IsFormFault, IsTextFault}
use Rattle.dd_text.specs.Texts.{IsNoNumber, IsNoSign, IsHeadTo}
use Rattle.dd_text.proofs.ShapeParts.{unlike}
use Rattle.dd_text.proofs.SizeParts.{
  first_number,
  first_other,
  head_1,
  second_number,
  second_other,
  head_2,
  head_colon,
  head_other,
  head_3,
  size_number,
  size_other,
  IsSized,
  sized_from_size,
  sized_from_dimension,
  unsized_first,
  unsized_second,
  unsized_colon,
  unsized_size,
}
use Rattle.dd_text.proofs.FaultMakers.{form_by_number, form_by_sign, text_fault}

pub spells_next : (c d e : Cursor) (p : Placed) (ps : List Placed) → IsNextPart c p d → Spells d ps e → Spells c (p ∷ ps) e
spells_next c d e p ps n s = (sym n.part, subst (λ z. Spells z ps e) n.rest s)

any : Numeral
any = record { at = 0; value = 0 }

unsized_fault : (c : Cursor) (f : Fault) → IsFormFault c f.why f.at → (IsSized c → ⊥) → IsTextFault c f.why f.at
unsized_fault c f form unsized = text_fault c f.why f.at form (λ a s. unsized (sized_from_size c a s)) (λ a s. unsized (sized_from_dimension c a s))

-- nothing but a number may come first
pub no_first : (c d : Cursor) (p : Placed) (f : Fault) → IsNextPart c p d → IsNoNumber p f → IsTextFault c f.why f.at
no_first c d p f n bad =
    let here = subst (λ q. IsNoNumber q f) n.part bad in
    unsized_fault c f (form_by_number c c [] f refl here any (first_number any) (first_other (first_part c) here.other)) (unsized_first c here.other)

-- what is known of the parts of a head
record Parts (c c1 c2 : Cursor) (x : Numeral) (k : ℕ) : Type 0 where
  pub spells : Spells c (head_1 x k) c2
  pub dot : first_part (after_part c) ≡ sign_part 46 k
  pub to : c2 ≡ after_part (after_part c)

parts : (c c1 c2 : Cursor) (p1 p2 : Placed) (x : Numeral) (k : ℕ) → IsNextPart c p1 c1 → p1 ≡ number_part x → IsNextPart c1 p2 c2 → p2 ≡ sign_part 46 k → Parts c c1 c2 x k
parts c c1 c2 p1 p2 x k n1 e1 n2 e2 =
    let second : first_part (after_part c) ≡ sign_part 46 k = ap first_part (sym n1.rest) ∙ sym n2.part ∙ e2 in
    let to : after_part (after_part c) ≡ c2 = ap after_part (sym n1.rest) ∙ sym n2.rest in
    record { spells = (sym n1.part ∙ e1, (second, to)); dot = second; to = sym to }

-- after a dot nothing but a number may come
pub no_second : (c c1 c2 c3 : Cursor) (p1 p2 p3 : Placed) (x : Numeral) (k : ℕ) (f : Fault) → IsNextPart c p1 c1 → p1 ≡ number_part x
    → IsNextPart c1 p2 c2 → p2 ≡ sign_part 46 k → IsNextPart c2 p3 c3 → IsNoNumber p3 f → IsTextFault c f.why f.at
no_second c c1 c2 c3 p1 p2 p3 x k f n1 e1 n2 e2 n3 bad =
    let front = parts c c1 c2 p1 p2 x k n1 e1 n2 e2 in
    let here = subst (λ q. IsNoNumber q f) n3.part bad in
    let there = subst (λ z. IsNoNumber (first_part z) f) front.to here in
    unsized_fault c f (form_by_number c c2 (head_1 x k) f front.spells here any (second_number x any k) (second_other x k (first_part c2) here.other)) (unsized_second c k front.dot there.other)

-- after two numbers with a dot nothing but a colon may come
pub no_colon : (c c1 c2 c3 c4 : Cursor) (p1 p2 p3 p4 : Placed) (x y : Numeral) (k : ℕ) (f : Fault) → IsNextPart c p1 c1 → p1 ≡ number_part x
    → IsNextPart c1 p2 c2 → p2 ≡ sign_part 46 k → IsNextPart c2 p3 c3 → p3 ≡ number_part y → IsNextPart c3 p4 c4 → IsNoSign p4 58 f → IsTextFault c f.why f.at
no_colon c c1 c2 c3 c4 p1 p2 p3 p4 x y k f n1 e1 n2 e2 n3 e3 n4 bad =
    let front = parts c c1 c2 p1 p2 x k n1 e1 n2 e2 in
    let third : first_part (after_part (after_part c)) ≡ number_part y = ap first_part (sym front.to) ∙ sym n3.part ∙ e3 in
    let to : after_part (after_part (after_part c)) ≡ c3 = ap after_part (sym front.to) ∙ sym n3.rest in
    let here = subst (λ q. IsNoSign q 58 f) n4.part bad in
    let there = subst (λ z. IsNoSign (first_part z) 58 f) (sym to) here in
    let spells : Spells c (head_2 x k y) c3 = (front.spells.0, (front.spells.1.0, (third, to))) in
    unsized_fault c f
    (form_by_sign c c3 (head_2 x k y) 58 f spells here (head_colon x y k) (head_other x y k (first_part c3) here.other) (λ z. head_other x y k (number_part z) (λ j e. unlike 58 j z (sym e))))
    (unsized_colon c k front.dot there.other)

-- after a head nothing but a number may come
pub no_size : (c c1 c2 c3 c4 c5 : Cursor) (p1 p2 p3 p4 p5 : Placed) (x y : Numeral) (k j : ℕ) (f : Fault) → IsNextPart c p1 c1 → p1 ≡ number_part x
    → IsNextPart c1 p2 c2 → p2 ≡ sign_part 46 k → IsNextPart c2 p3 c3 → p3 ≡ number_part y → IsNextPart c3 p4 c4 → p4 ≡ sign_part 58 j
    → IsNextPart c4 p5 c5 → IsNoNumber p5 f → IsTextFault c f.why f.at
no_size c c1 c2 c3 c4 c5 p1 p2 p3 p4 p5 x y k j f n1 e1 n2 e2 n3 e3 n4 e4 n5 bad =
    let front = parts c c1 c2 p1 p2 x k n1 e1 n2 e2 in
    let third : first_part (after_part (after_part c)) ≡ number_part y = ap first_part (sym front.to) ∙ sym n3.part ∙ e3 in
    let to3 : after_part (after_part (after_part c)) ≡ c3 = ap after_part (sym front.to) ∙ sym n3.rest in
    let fourth : first_part (after_part (after_part (after_part c))) ≡ sign_part 58 j = ap first_part to3 ∙ sym n4.part ∙ e4 in
    let to4 : after_part (after_part (after_part (after_part c))) ≡ c4 = ap after_part to3 ∙ sym n4.rest in
    let here = subst (λ q. IsNoNumber q f) n5.part bad in
    let there = subst (λ z. IsNoNumber (first_part z) f) (sym to4) here in
    let spells : Spells c (head_3 x k y j) c4 = (front.spells.0, (front.spells.1.0, (third, (fourth, to4)))) in
    unsized_fault c f (form_by_number c c4 (head_3 x k y j) f spells here any (size_number x y any k j) (size_other x y k j (first_part c4) here.other)) (unsized_size c k front.dot there.other)

-- a size with a head
pub whole_head : (c c1 c2 c3 c4 c5 c6 : Cursor) (p1 p2 p3 p4 p5 p6 : Placed) (x y n : Numeral) (k j : ℕ) → IsNextPart c p1 c1 → p1 ≡ number_part x
    → IsNextPart c1 p2 c2 → p2 ≡ sign_part 46 k → IsNextPart c2 p3 c3 → p3 ≡ number_part y → IsNextPart c3 p4 c4 → p4 ≡ sign_part 58 j
    → IsNextPart c4 p5 c5 → p5 ≡ number_part n → IsNextPart c5 p6 c6 → IsHeadTo c n p6 c6
whole_head c c1 c2 c3 c4 c5 c6 p1 p2 p3 p4 p5 p6 x y n k j n1 e1 n2 e2 n3 e3 n4 e4 n5 e5 n6 =
    let back : Spells c (p1 ∷ p2 ∷ p3 ∷ p4 ∷ p5 ∷ []) c5 =
    spells_next c c1 c5 p1 (p2 ∷ p3 ∷ p4 ∷ p5 ∷ []) n1 (spells_next c1 c2 c5 p2 (p3 ∷ p4 ∷ p5 ∷ []) n2 (spells_next c2 c3 c5 p3 (p4 ∷ p5 ∷ []) n3 (spells_next c3 c4 c5 p4 (p5 ∷ []) n4 (sym n5.part, sym n5.rest)))) in
    record {
      head = Some (record { first = x; dot = k; second = y; colon = j });
      mid = c5;
      spells = (back.0 ∙ e1, (back.1.0 ∙ e2, (back.1.1.0 ∙ e3, (back.1.1.1.0 ∙ e4, (back.1.1.1.1.0 ∙ e5, back.1.1.1.1.1)))));
      no_prefix = λ e. cc;
      next_is = sym n6.part;
      to = sym n6.rest;
    }
