-- A text has one sequence of parts, and a shape is known from its parts.
use Rattle.std.proofs.Common.{◌≡◌, ℕ, List, [], ◌∷◌, ◌++◌, Option, Some, None, refl, sym, ap, ◌∙◌, subst, arith}
use Rattle.std.specs.Prelude.{map}
use Rattle.dd_model.specs.declared.tokens.Part.TheVariants.{Sign, Number}
use Rattle.dd_model.specs.declared.tokens.Placed.{Placed}
use Rattle.dd_model.specs.declared.tokens.Numeral.{Numeral}
use Rattle.dd_model.specs.Parts.{Cursor, first_part, after_part, Spells}
use Rattle.dd_model.specs.Spelling.{Told, Head, Shape, number_part, sign_part, with_head, with_dimension, with_list, parts_of}

pub spells-end : (c d e : Cursor) (ps : List Placed) → Spells c ps d → Spells c ps e → d ≡ e
spells-end c d e [] a b = sym a ∙ b
spells-end c d e (p ∷ ps) a b = spells-end (after_part c) d e ps a.1 b.1

pub spells-append : (c d e : Cursor) (ps qs : List Placed) → Spells c ps d → Spells d qs e → Spells c (ps ++ qs) e
spells-append c d e [] qs a b = subst (λ x. Spells x qs e) (sym a) b
spells-append c d e (p ∷ ps) qs a b = (a.0, spells-append (after_part c) d e ps qs a.1 b)

pub sign_is_no_number : (p : Placed) (b m : ℕ) (x : Numeral) → p ≡ sign_part b m → p ≡ number_part x → ⊥
sign_is_no_number p b m x e f = let g : Sign b ≡ Number x.value = ap (λ (q : Placed). q.part) (sym e ∙ f) in cc

pub signs_differ : (p : Placed) (b m a n : ℕ) → p ≡ sign_part b m → p ≡ sign_part a n → b ≡ a
signs_differ p b m a n e f = let g : Sign b ≡ Sign a = ap (λ (q : Placed). q.part) (sym e ∙ f) in cc

pub same_place : (p : Placed) (b m a n : ℕ) → p ≡ sign_part b m → p ≡ sign_part a n → m ≡ n
same_place p b m a n e f = ap (λ (q : Placed). q.at) (sym e ∙ f)

pub same_number : (p : Placed) (x y : Numeral) → p ≡ number_part x → p ≡ number_part y → x ≡ y
same_number p x y e f =
    let at : x.at ≡ y.at = ap (λ (q : Placed). q.at) (sym e ∙ f) in
    let value : x.value ≡ y.value =
    (let g : Number x.value ≡ Number y.value = ap (λ (q : Placed). q.part) (sym e ∙ f) in cc) in
    ap (λ a. record { at = a; value = x.value }) at ∙ ap (λ v. record { at = y.at; value = v }) value

-- the same list, and the same text after it
pub record SameList (xs ys : List Numeral) (m n : ℕ) (ps qs : List Placed) (d e : Cursor) : Type 0 where
  pub numbers : xs ≡ ys
  pub ends : m ≡ n
  pub after : Cursor
  pub left : Spells after ps d
  pub right : Spells after qs e

pub same_list : (c d e : Cursor) (xs ys : List Numeral) (s m n : ℕ) (ps qs : List Placed)
    → Spells c (map number_part xs ++ sign_part s m ∷ ps) d → Spells c (map number_part ys ++ sign_part s n ∷ qs) e
    → SameList xs ys m n ps qs d e
same_list c d e [] [] s m n ps qs a b = record { numbers = refl; ends = same_place (first_part c) s m s n a.0 b.0; after = after_part c; left = a.1; right = b.1 }
same_list c d e [] (y ∷ ys) s m n ps qs a b = absurd (sign_is_no_number (first_part c) s m y a.0 b.0)
same_list c d e (x ∷ xs) [] s m n ps qs a b = absurd (sign_is_no_number (first_part c) s n x b.0 a.0)
same_list c d e (x ∷ xs) (y ∷ ys) s m n ps qs a b =
    let same = same_list (after_part c) d e xs ys s m n ps qs a.1 b.1 in
    record {
      numbers = ap (λ z. z ∷ xs) (same_number (first_part c) x y a.0 b.0) ∙ ap (λ zs. y ∷ zs) same.numbers;
      ends = same.ends;
      after = same.after;
      left = same.left;
      right = same.right;
    }

-- the same list with its end, and the same text after it
pub record SameTold (k l : Told) (ps qs : List Placed) (d e : Cursor) : Type 0 where
  pub same : k ≡ l
  pub after : Cursor
  pub left : Spells after ps d
  pub right : Spells after qs e

pub same_told : (c d e : Cursor) (k l : Told) (s : ℕ) (ps qs : List Placed)
    → Spells c (with_list k s ps) d → Spells c (with_list l s qs) e → SameTold k l ps qs d e
same_told c d e k l s ps qs a b =
    let same = same_list c d e k.numbers l.numbers s k.end l.end ps qs a b in
    record {
      same = ap (λ xs. record { numbers = xs; end = k.end }) same.numbers ∙ ap (λ m. record { numbers = l.numbers; end = m }) same.ends;
      after = same.after;
      left = same.left;
      right = same.right;
    }

-- the same size and dimension, and the same text after them
pub record SameSize (x y : Numeral) (d e : Option Numeral) (m n : ℕ) (ps qs : List Placed) (c c' : Cursor) : Type 0 where
  pub size : x ≡ y
  pub dimension : d ≡ e
  pub colon : m ≡ n
  pub after : Cursor
  pub left : Spells after ps c
  pub right : Spells after qs c'

same_size : (c u v : Cursor) (x y : Numeral) (d e : Option Numeral) (m n : ℕ) (ps qs : List Placed)
    → Spells c (number_part x ∷ with_dimension d (sign_part 58 m ∷ ps)) u → Spells c (number_part y ∷ with_dimension e (sign_part 58 n ∷ qs)) v
    → SameSize x y d e m n ps qs u v
same_size c u v x y None None m n ps qs a b =
    record { size = same_number (first_part c) x y a.0 b.0; dimension = refl; colon = same_place (first_part (after_part c)) 58 m 58 n a.1.0 b.1.0; after = after_part (after_part c); left = a.1.1; right = b.1.1 }
same_size c u v x y None (Some e) m n ps qs a b = absurd (sign_is_no_number (first_part (after_part c)) 58 m e a.1.0 b.1.0)
same_size c u v x y (Some d) None m n ps qs a b = absurd (sign_is_no_number (first_part (after_part c)) 58 n d b.1.0 a.1.0)
same_size c u v x y (Some d) (Some e) m n ps qs a b =
    record {
      size = same_number (first_part c) x y a.0 b.0;
      dimension = ap (λ z. Some z) (same_number (first_part (after_part c)) d e a.1.0 b.1.0);
      colon = same_place (first_part (after_part (after_part c))) 58 m 58 n a.1.1.0 b.1.1.0;
      after = after_part (after_part (after_part c));
      left = a.1.1.1;
      right = b.1.1.1;
    }

-- the same head, and the same text after it
pub record SameHead (g h : Option Head) (ps qs : List Placed) (d e : Cursor) : Type 0 where
  pub same : g ≡ h
  pub after : Cursor
  pub left : Spells after ps d
  pub right : Spells after qs e

-- a dot does not follow on a size
no_dot : (c u : Cursor) (d : Option Numeral) (m n : ℕ) (ps : List Placed) → Spells c (with_dimension d (sign_part 58 m ∷ ps)) u → first_part c ≡ sign_part 46 n → ⊥
no_dot c u None m n ps a e = let same = signs_differ (first_part c) 58 m 46 n a.0 e in omega arith
no_dot c u (Some d) m n ps a e = sign_is_no_number (first_part c) 46 n d e a.0

same_heads : (h g : Head) → h.first ≡ g.first → h.dot ≡ g.dot → h.second ≡ g.second → h.colon ≡ g.colon → h ≡ g
same_heads h g a b c d =
    ap (λ x. record { first = x; dot = h.dot; second = h.second; colon = h.colon }) a
    ∙ ap (λ x. record { first = g.first; dot = x; second = h.second; colon = h.colon }) b
    ∙ ap (λ x. record { first = g.first; dot = g.dot; second = x; colon = h.colon }) c
    ∙ ap (λ x. record { first = g.first; dot = g.dot; second = g.second; colon = x }) d

same_head : (c u v : Cursor) (h g : Option Head) (x y : Numeral) (d e : Option Numeral) (m n : ℕ) (ps qs : List Placed)
    → Spells c (with_head h (number_part x ∷ with_dimension d (sign_part 58 m ∷ ps))) u
    → Spells c (with_head g (number_part y ∷ with_dimension e (sign_part 58 n ∷ qs))) v
    → SameHead h g (number_part x ∷ with_dimension d (sign_part 58 m ∷ ps)) (number_part y ∷ with_dimension e (sign_part 58 n ∷ qs)) u v
same_head c u v None None x y d e m n ps qs a b = record { same = refl; after = c; left = a; right = b }
same_head c u v None (Some g) x y d e m n ps qs a b = absurd (no_dot (after_part c) u d m g.dot ps a.1 b.1.0)
same_head c u v (Some h) None x y d e m n ps qs a b = absurd (no_dot (after_part c) v e n h.dot qs b.1 a.1.0)
same_head c u v (Some h) (Some g) x y d e m n ps qs a b =
    record {
      same = ap (λ z. Some z) (same_heads h g
          (same_number (first_part c) h.first g.first a.0 b.0)
          (same_place (first_part (after_part c)) 46 h.dot 46 g.dot a.1.0 b.1.0)
          (same_number (first_part (after_part (after_part c))) h.second g.second a.1.1.0 b.1.1.0)
          (same_place (first_part (after_part (after_part (after_part c)))) 58 h.colon 58 g.colon a.1.1.1.0 b.1.1.1.0));
      after = after_part (after_part (after_part (after_part c)));
      left = a.1.1.1.1;
      right = b.1.1.1.1;
    }

-- one shape, and one end of it
pub record SameShape (x y : Shape) (d e : Cursor) : Type 0 where
  pub same : x ≡ y
  pub ends : d ≡ e

abbrev shape_with : Option Head → Numeral → Option Numeral → ℕ → Told → Told → Told → Told → Told → Shape
shape_with h n d c s0 s1 s2 m01 m12 = record { head = h; size = n; dimension = d; colon = c; s0 = s0; s1 = s1; s2 = s2; m01 = m01; m12 = m12 }

same_shapes : (x y : Shape) → x.head ≡ y.head → x.size ≡ y.size → x.dimension ≡ y.dimension → x.colon ≡ y.colon
    → x.s0 ≡ y.s0 → x.s1 ≡ y.s1 → x.s2 ≡ y.s2 → x.m01 ≡ y.m01 → x.m12 ≡ y.m12 → x ≡ y
same_shapes x y h n d c s0 s1 s2 m01 m12 =
    ap (λ z. shape_with z x.size x.dimension x.colon x.s0 x.s1 x.s2 x.m01 x.m12) h
    ∙ ap (λ z. shape_with y.head z x.dimension x.colon x.s0 x.s1 x.s2 x.m01 x.m12) n
    ∙ ap (λ z. shape_with y.head y.size z x.colon x.s0 x.s1 x.s2 x.m01 x.m12) d
    ∙ ap (λ z. shape_with y.head y.size y.dimension z x.s0 x.s1 x.s2 x.m01 x.m12) c
    ∙ ap (λ z. shape_with y.head y.size y.dimension y.colon z x.s1 x.s2 x.m01 x.m12) s0
    ∙ ap (λ z. shape_with y.head y.size y.dimension y.colon y.s0 z x.s2 x.m01 x.m12) s1
    ∙ ap (λ z. shape_with y.head y.size y.dimension y.colon y.s0 y.s1 z x.m01 x.m12) s2
    ∙ ap (λ z. shape_with y.head y.size y.dimension y.colon y.s0 y.s1 y.s2 z x.m12) m01
    ∙ ap (λ z. shape_with y.head y.size y.dimension y.colon y.s0 y.s1 y.s2 y.m01 z) m12

joined : (u d e : Cursor) → u ≡ d → u ≡ e → d ≡ e
joined u d e a b = sym a ∙ b

-- A text spells at most one shape.
pub same_shape : (c d e : Cursor) (x y : Shape) → Spells c (parts_of x) d → Spells c (parts_of y) e → SameShape x y d e
same_shape c d e x y a b =
    let head = same_head c d e x.head y.head x.size y.size x.dimension y.dimension x.colon y.colon _ _ a b in
    let size = same_size head.after d e x.size y.size x.dimension y.dimension x.colon y.colon _ _ head.left head.right in
    let s0 = same_told size.after d e x.s0 y.s0 44 _ _ size.left size.right in
    let s1 = same_told s0.after d e x.s1 y.s1 44 _ _ s0.left s0.right in
    let s2 = same_told s1.after d e x.s2 y.s2 58 _ _ s1.left s1.right in
    let m01 = same_told s2.after d e x.m01 y.m01 44 _ _ s2.left s2.right in
    let m12 = same_told m01.after d e x.m12 y.m12 62 [] [] m01.left m01.right in
    record {
      same = same_shapes x y head.same size.size size.dimension size.colon s0.same s1.same s2.same m01.same m12.same;
      ends = joined m12.after d e m12.left m12.right;
    }
