-- What may stand where in the text of a symbol.
use Rattle.std.proofs.Common.{◌≡◌, ◌≢◌, ℕ, ◌<◌, List, [], ◌∷◌, ◌++◌, length, Option, Some, None, refl, sym, ap, ◌∙◌, arith, append_assoc}
use Rattle.std.specs.Prelude.{map}
use Rattle.dd_model.specs.declared.tokens.Part.TheVariants.{Number}
use Rattle.dd_model.specs.declared.tokens.Placed.{Placed}
use Rattle.dd_model.specs.declared.tokens.Numeral.{Numeral}
use Rattle.dd_model.specs.Spelling.{Told, Head, Shape, number_part, sign_part, with_head, with_dimension, with_list, parts_of}
use Rattle.dd_model.proofs.Lists.{cons_head, cons_tail}
use Rattle.dd_model.proofs.ReadingParts.{sign_is_no_number, signs_differ}
use Rattle.dd_text.specs.TextFaults.{MayStand}

pub nothing_left : (p : Placed) (ps : List Placed) → p ∷ ps ≡ [] → ⊥
nothing_left p ps e = cc

-- a number and a sign are not equal
pub unlike : (b m : ℕ) (x : Numeral) → sign_part b m ≡ number_part x → ⊥
unlike b m x e = sign_is_no_number (sign_part b m) b m x refl e

pub same_sign : (b m a n : ℕ) → sign_part b m ≡ sign_part a n → b ≡ a
same_sign b m a n e = signs_differ (sign_part b m) b m a n refl e

-- everything up to the lists, and the parts after it
abbrev pub opened : Option Head → Numeral → Option Numeral → ℕ → List Placed → List Placed
opened h n d m ps = with_head h (number_part n ∷ with_dimension d (sign_part 58 m ∷ ps))

pub opened-append : (h : Option Head) (n : Numeral) (d : Option Numeral) (m : ℕ) (ps qs : List Placed) → opened h n d m ps ++ qs ≡ opened h n d m (ps ++ qs)
opened-append None n None m ps qs = refl
opened-append None n (Some d) m ps qs = refl
opened-append (Some h) n None m ps qs = refl
opened-append (Some h) n (Some d) m ps qs = refl

peel_dimension : (d e : Option Numeral) (m n : ℕ) (ps qs : List Placed) → with_dimension d (sign_part 58 m ∷ ps) ≡ with_dimension e (sign_part 58 n ∷ qs) → ps ≡ qs
peel_dimension None None m n ps qs e = cons_tail _ _ _ _ e
peel_dimension None (Some y) m n ps qs e = absurd (unlike 58 m y (cons_head _ _ _ _ e))
peel_dimension (Some x) None m n ps qs e = absurd (unlike 58 n x (sym (cons_head _ _ _ _ e)))
peel_dimension (Some x) (Some y) m n ps qs e = cons_tail _ _ _ _ (cons_tail _ _ _ _ e)

-- no dot follows on a size
pub no_dot : (d : Option Numeral) (m n : ℕ) (ps qs : List Placed) → with_dimension d (sign_part 58 m ∷ ps) ≡ sign_part 46 n ∷ qs → ⊥
no_dot None m n ps qs e = let f = same_sign 58 m 46 n (cons_head _ _ _ _ e) in omega arith
no_dot (Some x) m n ps qs e = unlike 46 n x (sym (cons_head _ _ _ _ e))

pub peel_opened : (h g : Option Head) (x y : Numeral) (d e : Option Numeral) (m n : ℕ) (ps qs : List Placed) → opened h x d m ps ≡ opened g y e n qs → ps ≡ qs
peel_opened None None x y d e m n ps qs same = peel_dimension d e m n ps qs (cons_tail _ _ _ _ same)
peel_opened None (Some g) x y d e m n ps qs same = absurd (no_dot d m g.dot ps _ (cons_tail _ _ _ _ same))
peel_opened (Some h) None x y d e m n ps qs same = absurd (no_dot e n h.dot qs _ (sym (cons_tail _ _ _ _ same)))
peel_opened (Some h) (Some g) x y d e m n ps qs same = peel_dimension d e m n ps qs (cons_tail _ _ _ _ (cons_tail _ _ _ _ (cons_tail _ _ _ _ (cons_tail _ _ _ _ (cons_tail _ _ _ _ same)))))

-- lists, each with the sign that ends it, and the parts after them
abbrev pub front : List ℕ → List Told → List Placed → List Placed
front ss [] tail = tail
front [] (l ∷ ls) tail = tail
front (s ∷ ss) (l ∷ ls) tail = with_list l s (front ss ls tail)

-- the sign that ends the list after these
abbrev pub next_sign : List ℕ → List Told → ℕ
next_sign [] ls = 0
next_sign (s ∷ ss) [] = s
next_sign (s ∷ ss) (l ∷ ls) = next_sign ss ls

-- the signs that end the five lists
abbrev pub signs : List ℕ
signs = 44 ∷ 44 ∷ 58 ∷ 44 ∷ 62 ∷ []

abbrev pub lists_of : Shape → List Told
lists_of x = x.s0 ∷ x.s1 ∷ x.s2 ∷ x.m01 ∷ x.m12 ∷ []

pub front-append : (ss : List ℕ) (ls : List Told) (tail qs : List Placed) → front ss ls tail ++ qs ≡ front ss ls (tail ++ qs)
front-append ss [] tail qs = refl
front-append [] (l ∷ ls) tail qs = refl
front-append (s ∷ ss) (l ∷ ls) tail qs =
    append_assoc (map number_part l.numbers) (sign_part s l.end ∷ front ss ls tail) qs
    ∙ ap (λ z. map number_part l.numbers ++ sign_part s l.end ∷ z) (front-append ss ls tail qs)

pub peel_list : (xs ys : List Numeral) (s m n : ℕ) (ps qs : List Placed) → map number_part xs ++ sign_part s m ∷ ps ≡ map number_part ys ++ sign_part s n ∷ qs → ps ≡ qs
peel_list [] [] s m n ps qs e = cons_tail _ _ _ _ e
peel_list [] (y ∷ ys) s m n ps qs e = absurd (unlike s m y (cons_head _ _ _ _ e))
peel_list (x ∷ xs) [] s m n ps qs e = absurd (unlike s n x (sym (cons_head _ _ _ _ e)))
peel_list (x ∷ xs) (y ∷ ys) s m n ps qs e = peel_list xs ys s m n ps qs (cons_tail _ _ _ _ e)

-- p is neither a number nor this sign
pub record IsOther (p : Placed) (s : ℕ) : Type 0 where
  pub number : (v : ℕ) → p.part ≢ Number v
  pub sign : (m : ℕ) → p ≢ sign_part s m

pub other_number : (p : Placed) (s : ℕ) (x : Numeral) → IsOther p s → p ≡ number_part x → ⊥
other_number p s x o e = o.number x.value (ap (λ (q : Placed). q.part) e)

pub other_sign : (p : Placed) (s m : ℕ) → ((k : ℕ) → p ≢ sign_part s k) → p ≡ sign_part s m → ⊥
other_sign p s m o e = o m e

no_list : (xs ys : List Numeral) (s n : ℕ) (p : Placed) (r qs : List Placed) → map number_part xs ++ p ∷ r ≡ map number_part ys ++ sign_part s n ∷ qs → IsOther p s → ⊥
no_list [] [] s n p r qs e o = other_sign p s n o.sign (cons_head _ _ _ _ e)
no_list [] (y ∷ ys) s n p r qs e o = other_number p s y o (cons_head _ _ _ _ e)
no_list (x ∷ xs) [] s n p r qs e o = unlike s n x (sym (cons_head _ _ _ _ e))
no_list (x ∷ xs) (y ∷ ys) s n p r qs e o = no_list xs ys s n p r qs (cons_tail _ _ _ _ e) o

no_end : (xs : List Numeral) (p : Placed) (r : List Placed) → map number_part xs ++ p ∷ r ≡ [] → ⊥
no_end [] p r e = nothing_left p r e
no_end (x ∷ xs) p r e = nothing_left (number_part x) _ e

no_front : (ss : List ℕ) (done ls : List Told) (xs : List Numeral) (p : Placed) (r : List Placed) → length done < length ss
    → front ss done (map number_part xs ++ p ∷ r) ≡ front ss ls [] → IsOther p (next_sign ss done) → ⊥
no_front [] done ls xs p r short e o = omega arith
no_front (s ∷ ss) [] [] xs p r short e o = no_end xs p r e
no_front (s ∷ ss) [] (l ∷ ls) xs p r short e o = no_list xs l.numbers s l.end p r (front ss ls []) e o
no_front (s ∷ ss) (k ∷ ks) [] xs p r short e o = no_end k.numbers _ _ e
no_front (s ∷ ss) (k ∷ ks) (l ∷ ls) xs p r short e o =
    no_front ss ks ls xs p r (omega arith) (peel_list k.numbers l.numbers s k.end l.end _ _ e) o

-- after some of the five lists, and numbers
abbrev pub listed : Option Head → Numeral → Option Numeral → ℕ → List Told → List Numeral → List Placed
listed h n d m done xs = opened h n d m (front signs done (map number_part xs))

listed-append : (h : Option Head) (n : Numeral) (d : Option Numeral) (m : ℕ) (done : List Told) (xs : List Numeral) (qs : List Placed)
    → listed h n d m done xs ++ qs ≡ opened h n d m (front signs done (map number_part xs ++ qs))
listed-append h n d m done xs qs = opened-append h n d m _ qs ∙ ap (opened h n d m) (front-append signs done (map number_part xs) qs)

pub no_other_in_list : (h : Option Head) (n : Numeral) (d : Option Numeral) (m : ℕ) (done : List Told) (xs : List Numeral) (p : Placed)
    → length done < 5 → IsOther p (next_sign signs done) → MayStand (listed h n d m done xs) p → ⊥
no_other_in_list h n d m done xs p short o may =
    let x = may.shape in
    let e : parts_of x ≡ opened h n d m (front signs done (map number_part xs ++ p ∷ may.after)) = may.parts ∙ listed-append h n d m done xs (p ∷ may.after) in
    no_front signs done (lists_of x) xs p may.after short (sym (peel_opened x.head h x.size n x.dimension d x.colon m _ _ e)) o

abbrev no_numbers : Told
no_numbers = record { numbers = []; end = 0 }

-- a shape with these lists, and this one after them
abbrev shape_of : Option Head → Numeral → Option Numeral → ℕ → List Told → Told → Shape
shape_of h n d m [] l = record { head = h; size = n; dimension = d; colon = m; s0 = l; s1 = no_numbers; s2 = no_numbers; m01 = no_numbers; m12 = no_numbers }
shape_of h n d m (a ∷ []) l = record { head = h; size = n; dimension = d; colon = m; s0 = a; s1 = l; s2 = no_numbers; m01 = no_numbers; m12 = no_numbers }
shape_of h n d m (a ∷ b ∷ []) l = record { head = h; size = n; dimension = d; colon = m; s0 = a; s1 = b; s2 = l; m01 = no_numbers; m12 = no_numbers }
shape_of h n d m (a ∷ b ∷ c ∷ []) l = record { head = h; size = n; dimension = d; colon = m; s0 = a; s1 = b; s2 = c; m01 = l; m12 = no_numbers }
shape_of h n d m (a ∷ b ∷ c ∷ e ∷ rest) l = record { head = h; size = n; dimension = d; colon = m; s0 = a; s1 = b; s2 = c; m01 = e; m12 = l }

-- the parts after that list
abbrev tail_of : List Told → List Placed
tail_of [] = with_list no_numbers 44 (with_list no_numbers 58 (with_list no_numbers 44 (with_list no_numbers 62 [])))
tail_of (a ∷ []) = with_list no_numbers 58 (with_list no_numbers 44 (with_list no_numbers 62 []))
tail_of (a ∷ b ∷ []) = with_list no_numbers 44 (with_list no_numbers 62 [])
tail_of (a ∷ b ∷ c ∷ []) = with_list no_numbers 62 []
tail_of (a ∷ b ∷ c ∷ e ∷ rest) = []

shape_of-parts : (h : Option Head) (n : Numeral) (d : Option Numeral) (m : ℕ) (done : List Told) (l : Told) → length done < 5
    → parts_of (shape_of h n d m done l) ≡ opened h n d m (front signs done (with_list l (next_sign signs done) (tail_of done)))
shape_of-parts h n d m [] l short = refl
shape_of-parts h n d m (a ∷ []) l short = refl
shape_of-parts h n d m (a ∷ b ∷ []) l short = refl
shape_of-parts h n d m (a ∷ b ∷ c ∷ []) l short = refl
shape_of-parts h n d m (a ∷ b ∷ c ∷ e ∷ []) l short = refl
shape_of-parts h n d m (a ∷ b ∷ c ∷ e ∷ f ∷ rest) l short = absurd (omega arith)

mapped : (xs : List Numeral) (x : Numeral) (qs : List Placed) → map number_part (xs ++ x ∷ []) ++ qs ≡ map number_part xs ++ number_part x ∷ qs
mapped [] x qs = refl
mapped (y ∷ ys) x qs = ap (λ z. number_part y ∷ z) (mapped ys x qs)

-- in a list a number may come
pub number_in_list : (h : Option Head) (n : Numeral) (d : Option Numeral) (m : ℕ) (done : List Told) (xs : List Numeral) (x : Numeral)
    → length done < 5 → MayStand (listed h n d m done xs) (number_part x)
number_in_list h n d m done xs x short = record {
  shape = shape_of h n d m done (record { numbers = xs ++ x ∷ []; end = 0 });
  after = sign_part (next_sign signs done) 0 ∷ tail_of done;
  parts = shape_of-parts h n d m done _ short
      ∙ ap (λ z. opened h n d m (front signs done z)) (mapped xs x (sign_part (next_sign signs done) 0 ∷ tail_of done))
      ∙ sym (listed-append h n d m done xs (number_part x ∷ sign_part (next_sign signs done) 0 ∷ tail_of done));
}
