-- What may stand up to the colon after the size.
use Rattle.std.proofs.Common.{◌≡◌, ◌≢◌, ℕ, ◌≤◌, List, [], ◌∷◌, ◌++◌, Option, Some, None, refl, sym, ap, ◌∙◌, subst, ⊎_elim, arith}
use Rattle.dd_model.specs.declared.tokens.Part.TheVariants.{Number}
use Rattle.dd_model.specs.declared.tokens.Placed.{Placed}
use Rattle.dd_model.specs.declared.tokens.Numeral.{Numeral}
use Rattle.dd_model.specs.Parts.{Cursor, first_part, after_part, Spells}
use Rattle.dd_model.specs.Spelling.{Told, Head, Shape, number_part, sign_part, with_head, with_list}
use Rattle.dd_model.proofs.Lists.{cons_head, cons_tail}
use Rattle.dd_model.proofs.ReadingParts.{same_number}
use Rattle.dd_text.specs.TextFaults.{MayStand, IsSizeFault, IsDimensionFault}
use Rattle.dd_text.specs.Texts.{IsHeadTo}
use Rattle.dd_text.proofs.ShapeParts.{unlike, no_dot, opened, IsOther, other_number, other_sign}

abbrev no_numbers : Told
no_numbers = record { numbers = []; end = 0 }

-- five empty lists
abbrev no_lists : List Placed
no_lists = with_list no_numbers 44 (with_list no_numbers 44 (with_list no_numbers 58 (with_list no_numbers 44 (with_list no_numbers 62 []))))

abbrev bare : Option Head → Numeral → Option Numeral → Shape
bare h n d = record { head = h; size = n; dimension = d; colon = 0; s0 = no_numbers; s1 = no_numbers; s2 = no_numbers; m01 = no_numbers; m12 = no_numbers }

abbrev IsNumberless : Placed → Type 0
IsNumberless p = (v : ℕ) → p.part ≢ Number v

is_number : (p : Placed) (x : Numeral) → IsNumberless p → p ≡ number_part x → ⊥
is_number p x o e = o x.value (ap (λ (q : Placed). q.part) e)

-- ---- the first part

pub first_number : (x : Numeral) → MayStand [] (number_part x)
first_number x = record { shape = bare None x None; after = sign_part 58 0 ∷ no_lists; parts = refl }

first_other' : (h : Option Head) (n : Numeral) (d : Option Numeral) (m : ℕ) (ps : List Placed) (p : Placed) (r : List Placed) → opened h n d m ps ≡ p ∷ r → IsNumberless p → ⊥
first_other' None n d m ps p r e o = is_number p n o (sym (cons_head _ _ _ _ e))
first_other' (Some h) n d m ps p r e o = is_number p h.first o (sym (cons_head _ _ _ _ e))

pub first_other : (p : Placed) → IsNumberless p → MayStand [] p → ⊥
first_other p o may = let x = may.shape in first_other' x.head x.size x.dimension x.colon _ p may.after may.parts o

-- ---- the second number of a head

abbrev pub head_1 : Numeral → ℕ → List Placed
head_1 x k = number_part x ∷ sign_part 46 k ∷ []

pub second_number : (x y : Numeral) (k : ℕ) → MayStand (head_1 x k) (number_part y)
second_number x y k = record { shape = bare (Some (record { first = x; dot = k; second = y; colon = 0 })) y None; after = sign_part 58 0 ∷ number_part y ∷ sign_part 58 0 ∷ no_lists; parts = refl }

second_other' : (h : Option Head) (n : Numeral) (d : Option Numeral) (m : ℕ) (ps : List Placed) (x : Numeral) (k : ℕ) (p : Placed) (r : List Placed)
    → opened h n d m ps ≡ number_part x ∷ sign_part 46 k ∷ p ∷ r → IsNumberless p → ⊥
second_other' None n d m ps x k p r e o = no_dot d m k ps (p ∷ r) (cons_tail _ _ _ _ e)
second_other' (Some h) n d m ps x k p r e o = is_number p h.second o (sym (cons_head _ _ _ _ (cons_tail _ _ _ _ (cons_tail _ _ _ _ e))))

pub second_other : (x : Numeral) (k : ℕ) (p : Placed) → IsNumberless p → MayStand (head_1 x k) p → ⊥
second_other x k p o may = let s = may.shape in second_other' s.head s.size s.dimension s.colon _ x k p may.after may.parts o

-- ---- the colon of a head

abbrev pub head_2 : Numeral → ℕ → Numeral → List Placed
head_2 x k y = number_part x ∷ sign_part 46 k ∷ number_part y ∷ []

pub head_colon : (x y : Numeral) (k : ℕ) → MayStand (head_2 x k y) (sign_part 58 0)
head_colon x y k = record { shape = bare (Some (record { first = x; dot = k; second = y; colon = 0 })) y None; after = number_part y ∷ sign_part 58 0 ∷ no_lists; parts = refl }

head_other' : (h : Option Head) (n : Numeral) (d : Option Numeral) (m : ℕ) (ps : List Placed) (x y : Numeral) (k : ℕ) (p : Placed) (r : List Placed)
    → opened h n d m ps ≡ number_part x ∷ sign_part 46 k ∷ number_part y ∷ p ∷ r → ((j : ℕ) → p ≢ sign_part 58 j) → ⊥
head_other' None n d m ps x y k p r e o = no_dot d m k ps (number_part y ∷ p ∷ r) (cons_tail _ _ _ _ e)
head_other' (Some h) n d m ps x y k p r e o = other_sign p 58 h.colon o (sym (cons_head _ _ _ _ (cons_tail _ _ _ _ (cons_tail _ _ _ _ (cons_tail _ _ _ _ e)))))

pub head_other : (x y : Numeral) (k : ℕ) (p : Placed) → ((j : ℕ) → p ≢ sign_part 58 j) → MayStand (head_2 x k y) p → ⊥
head_other x y k p o may = let s = may.shape in head_other' s.head s.size s.dimension s.colon _ x y k p may.after may.parts o

-- ---- the size after a head

abbrev pub head_3 : Numeral → ℕ → Numeral → ℕ → List Placed
head_3 x k y j = number_part x ∷ sign_part 46 k ∷ number_part y ∷ sign_part 58 j ∷ []

pub size_number : (x y n : Numeral) (k j : ℕ) → MayStand (head_3 x k y j) (number_part n)
size_number x y n k j = record { shape = bare (Some (record { first = x; dot = k; second = y; colon = j })) n None; after = sign_part 58 0 ∷ no_lists; parts = refl }

size_other' : (h : Option Head) (n : Numeral) (d : Option Numeral) (m : ℕ) (ps : List Placed) (x y : Numeral) (k j : ℕ) (p : Placed) (r : List Placed)
    → opened h n d m ps ≡ number_part x ∷ sign_part 46 k ∷ number_part y ∷ sign_part 58 j ∷ p ∷ r → IsNumberless p → ⊥
size_other' None n d m ps x y k j p r e o = no_dot d m k ps (number_part y ∷ sign_part 58 j ∷ p ∷ r) (cons_tail _ _ _ _ e)
size_other' (Some h) n d m ps x y k j p r e o = is_number p n o (sym (cons_head _ _ _ _ (cons_tail _ _ _ _ (cons_tail _ _ _ _ (cons_tail _ _ _ _ (cons_tail _ _ _ _ e))))))

pub size_other : (x y : Numeral) (k j : ℕ) (p : Placed) → IsNumberless p → MayStand (head_3 x k y j) p → ⊥
size_other x y k j p o may = let s = may.shape in size_other' s.head s.size s.dimension s.colon _ x y k j p may.after may.parts o

-- ---- after the size

abbrev pub sized : Option Head → Numeral → List Placed
sized h n = with_head h (number_part n ∷ [])

pub dimension_number : (h : Option Head) (n x : Numeral) → MayStand (sized h n) (number_part x)
dimension_number None n x = record { shape = bare None n (Some x); after = sign_part 58 0 ∷ no_lists; parts = refl }
dimension_number (Some h) n x = record { shape = bare (Some h) n (Some x); after = sign_part 58 0 ∷ no_lists; parts = refl }

dimension_other' : (h g : Option Head) (n : Numeral) (d : Option Numeral) (m : ℕ) (ps : List Placed) (x : Numeral) (p : Placed) (r : List Placed)
    → opened h n d m ps ≡ sized g x ++ p ∷ r → IsOther p 58 → (g ≡ None → (j : ℕ) → p ≢ sign_part 46 j) → ⊥
dimension_other' None None n None m ps x p r e o no_prefix = other_sign p 58 m o.sign (sym (cons_head _ _ _ _ (cons_tail _ _ _ _ e)))
dimension_other' None None n (Some d) m ps x p r e o no_prefix = other_number p 58 d o (sym (cons_head _ _ _ _ (cons_tail _ _ _ _ e)))
dimension_other' None (Some g) n d m ps x p r e o no_prefix = no_dot d m g.dot ps _ (cons_tail _ _ _ _ e)
dimension_other' (Some h) None n d m ps x p r e o no_prefix = other_sign p 46 h.dot (no_prefix refl) (sym (cons_head _ _ _ _ (cons_tail _ _ _ _ e)))
dimension_other' (Some h) (Some g) n None m ps x p r e o no_prefix = other_sign p 58 m o.sign (sym (cons_head _ _ _ _ (cons_tail _ _ _ _ (cons_tail _ _ _ _ (cons_tail _ _ _ _ (cons_tail _ _ _ _ (cons_tail _ _ _ _ e)))))))
dimension_other' (Some h) (Some g) n (Some d) m ps x p r e o no_prefix = other_number p 58 d o (sym (cons_head _ _ _ _ (cons_tail _ _ _ _ (cons_tail _ _ _ _ (cons_tail _ _ _ _ (cons_tail _ _ _ _ (cons_tail _ _ _ _ e)))))))

pub dimension_other : (g : Option Head) (x : Numeral) (p : Placed) → IsOther p 58 → (g ≡ None → (j : ℕ) → p ≢ sign_part 46 j) → MayStand (sized g x) p → ⊥
dimension_other g x p o no_prefix may = let s = may.shape in dimension_other' s.head g s.size s.dimension s.colon _ x p may.after may.parts o no_prefix

-- ---- after the dimension

abbrev pub measured : Option Head → Numeral → Numeral → List Placed
measured h n d = with_head h (number_part n ∷ number_part d ∷ [])

pub colon_sign : (h : Option Head) (n d : Numeral) → MayStand (measured h n d) (sign_part 58 0)
colon_sign None n d = record { shape = bare None n (Some d); after = no_lists; parts = refl }
colon_sign (Some h) n d = record { shape = bare (Some h) n (Some d); after = no_lists; parts = refl }

colon_other' : (h g : Option Head) (n : Numeral) (d : Option Numeral) (m : ℕ) (ps : List Placed) (x y : Numeral) (p : Placed) (r : List Placed)
    → opened h n d m ps ≡ measured g x y ++ p ∷ r → ((j : ℕ) → p ≢ sign_part 58 j) → ⊥
colon_other' None None n None m ps x y p r e o = unlike 58 m y (cons_head _ _ _ _ (cons_tail _ _ _ _ e))
colon_other' None None n (Some d) m ps x y p r e o = other_sign p 58 m o (sym (cons_head _ _ _ _ (cons_tail _ _ _ _ (cons_tail _ _ _ _ e))))
colon_other' None (Some g) n d m ps x y p r e o = no_dot d m g.dot ps _ (cons_tail _ _ _ _ e)
colon_other' (Some h) None n d m ps x y p r e o = unlike 46 h.dot y (cons_head _ _ _ _ (cons_tail _ _ _ _ e))
colon_other' (Some h) (Some g) n None m ps x y p r e o = unlike 58 m y (cons_head _ _ _ _ (cons_tail _ _ _ _ (cons_tail _ _ _ _ (cons_tail _ _ _ _ (cons_tail _ _ _ _ (cons_tail _ _ _ _ e))))))
colon_other' (Some h) (Some g) n (Some d) m ps x y p r e o = other_sign p 58 m o (sym (cons_head _ _ _ _ (cons_tail _ _ _ _ (cons_tail _ _ _ _ (cons_tail _ _ _ _ (cons_tail _ _ _ _ (cons_tail _ _ _ _ (cons_tail _ _ _ _ e))))))))

pub colon_other : (g : Option Head) (x y : Numeral) (p : Placed) → ((j : ℕ) → p ≢ sign_part 58 j) → MayStand (measured g x y) p → ⊥
colon_other g x y p o may = let s = may.shape in colon_other' s.head g s.size s.dimension s.colon _ x y p may.after may.parts o

-- ---- one size

-- the same size, and the same text after it
pub record SameSized (x y : Numeral) (u v : Cursor) : Type 0 where
  pub size : x ≡ y
  pub ends : u ≡ v

dotted : (u c : Cursor) (k : ℕ) → c ≡ u → first_part c ≡ sign_part 46 k → first_part u ≡ sign_part 46 k
dotted u c k e f = ap first_part (sym e) ∙ f

pub same_sized : (c u v : Cursor) (h g : Option Head) (x y : Numeral) → Spells c (sized h x) u → Spells c (sized g y) v
    → (h ≡ None → (j : ℕ) → first_part u ≢ sign_part 46 j) → (g ≡ None → (j : ℕ) → first_part v ≢ sign_part 46 j) → SameSized x y u v
same_sized c u v None None x y a b p q = record { size = same_number (first_part c) x y a.0 b.0; ends = sym a.1 ∙ b.1 }
same_sized c u v None (Some g) x y a b p q = absurd (p refl g.dot (dotted u (after_part c) g.dot a.1 b.1.0))
same_sized c u v (Some h) None x y a b p q = absurd (q refl h.dot (dotted v (after_part c) h.dot b.1 a.1.0))
same_sized c u v (Some h) (Some g) x y a b p q =
    record { size = same_number (first_part (after_part (after_part (after_part (after_part c))))) x y a.1.1.1.1.0 b.1.1.1.1.0; ends = sym a.1.1.1.1.1 ∙ b.1.1.1.1.1 }

pub undotted : (c : Cursor) (n : Numeral) (next : Placed) (d : Cursor) (a : IsHeadTo c n next d) → a.head ≡ None → (j : ℕ) → first_part a.mid ≢ sign_part 46 j
undotted c n next d a none j dot = a.no_prefix none j (sym a.next_is ∙ dot)

pub no_size_fault : (c : Cursor) (n : Numeral) (next : Placed) (d : Cursor) → IsHeadTo c n next d → 1 ≤ n.value → n.value ≤ 1024 → (place : ℕ) → IsSizeFault c place → ⊥
no_size_fault c n next d a some few place f =
    let same = same_sized c a.mid f.here a.head f.head n f.size a.spells f.spells (undotted c n next d a) f.no_prefix in
    let value : n.value ≡ f.size.value = ap (λ (x : Numeral). x.value) same.size in
    ⊎_elim (λ e. absurd (omega arith)) (λ e. absurd (omega arith)) f.bad

-- the size, and the number after it
pub record Split (c : Cursor) (h : Option Head) (n d : Numeral) : Type 0 where
  pub mid : Cursor
  pub spells : Spells c (sized h n) mid
  pub next : first_part mid ≡ number_part d

pub split : (c e : Cursor) (h : Option Head) (n d : Numeral) → Spells c (measured h n d) e → Split c h n d
split c e None n d a = record { mid = after_part c; spells = (a.0, refl); next = a.1.0 }
split c e (Some h) n d a = record { mid = after_part (after_part (after_part (after_part (after_part c)))); spells = (a.0, (a.1.0, (a.1.1.0, (a.1.1.1.0, (a.1.1.1.1.0, refl))))); next = a.1.1.1.1.1.0 }

pub number_is_no_dot : (p : Placed) (d : Numeral) → p ≡ number_part d → (j : ℕ) → p ≢ sign_part 46 j
number_is_no_dot p d e j f = unlike 46 j d (sym f ∙ e)

pub no_dimension_fault : (c : Cursor) (n : Numeral) (next : Placed) (d : Cursor) → IsHeadTo c n next d → ((x : Numeral) → next ≡ number_part x → x.value ≡ 2) → (place : ℕ) → IsDimensionFault c place → ⊥
no_dimension_fault c n next d a two place f =
    let s = split c f.here f.head f.size f.dimension f.spells in
    let same = same_sized c a.mid s.mid a.head f.head n f.size a.spells s.spells (undotted c n next d a) (λ e. number_is_no_dot (first_part s.mid) f.dimension s.next) in
    f.bad (two f.dimension (sym a.next_is ∙ ap first_part same.ends ∙ s.next))

-- the parts after the size
pub head_then : (c d e : Cursor) (h : Option Head) (n : Numeral) (ps : List Placed) → Spells c (sized h n) d → Spells d ps e → Spells c (with_head h (number_part n ∷ ps)) e
head_then c d e None n ps a b = (a.0, subst (λ z. Spells z ps e) (sym a.1) b)
head_then c d e (Some h) n ps a b = (a.0, (a.1.0, (a.1.1.0, (a.1.1.1.0, (a.1.1.1.1.0, subst (λ z. Spells z ps e) (sym a.1.1.1.1.1) b)))))

-- ---- no size is told

-- a size that is told, or one with a number after it
pub record IsSized (c : Cursor) : Type 0 where
  pub head : Option Head
  pub size : Numeral
  pub mid : Cursor
  pub spells : Spells c (sized head size) mid
  pub no_prefix : head ≡ None → (j : ℕ) → first_part mid ≢ sign_part 46 j

pub sized_from_size : (c : Cursor) (place : ℕ) → IsSizeFault c place → IsSized c
sized_from_size c place f = record { head = f.head; size = f.size; mid = f.here; spells = f.spells; no_prefix = f.no_prefix }

pub sized_from_dimension : (c : Cursor) (place : ℕ) → IsDimensionFault c place → IsSized c
sized_from_dimension c place f =
    let s = split c f.here f.head f.size f.dimension f.spells in
    record { head = f.head; size = f.size; mid = s.mid; spells = s.spells; no_prefix = λ e. number_is_no_dot (first_part s.mid) f.dimension s.next }

-- without a first number
unsized_first' : (c u : Cursor) (h : Option Head) (n : Numeral) → IsNumberless (first_part c) → Spells c (sized h n) u → ⊥
unsized_first' c u None n o a = is_number (first_part c) n o a.0
unsized_first' c u (Some h) n o a = is_number (first_part c) h.first o a.0

pub unsized_first : (c : Cursor) → IsNumberless (first_part c) → IsSized c → ⊥
unsized_first c o s = unsized_first' c s.mid s.head s.size o s.spells

-- with a dot after the first number, and a part that may not come then
unsized_head : (c u : Cursor) (h : Option Head) (n : Numeral) (k : ℕ) → first_part (after_part c) ≡ sign_part 46 k → (h ≡ None → (j : ℕ) → first_part u ≢ sign_part 46 j)
    → ((g : Head) → Spells c (sized (Some g) n) u → ⊥) → Spells c (sized h n) u → ⊥
unsized_head c u None n k dot no_prefix o a = no_prefix refl k (dotted u (after_part c) k a.1 dot)
unsized_head c u (Some h) n k dot no_prefix o a = o h a

pub unsized_second : (c : Cursor) (k : ℕ) → first_part (after_part c) ≡ sign_part 46 k → IsNumberless (first_part (after_part (after_part c))) → IsSized c → ⊥
unsized_second c k dot o s = unsized_head c s.mid s.head s.size k dot s.no_prefix (λ g a. is_number (first_part (after_part (after_part c))) g.second o a.1.1.0) s.spells

pub unsized_colon : (c : Cursor) (k : ℕ) → first_part (after_part c) ≡ sign_part 46 k → ((j : ℕ) → first_part (after_part (after_part (after_part c))) ≢ sign_part 58 j) → IsSized c → ⊥
unsized_colon c k dot o s = unsized_head c s.mid s.head s.size k dot s.no_prefix (λ g a. other_sign (first_part (after_part (after_part (after_part c)))) 58 g.colon o a.1.1.1.0) s.spells

pub unsized_size : (c : Cursor) (k : ℕ) → first_part (after_part c) ≡ sign_part 46 k → IsNumberless (first_part (after_part (after_part (after_part (after_part c))))) → IsSized c → ⊥
unsized_size c k dot o s = unsized_head c s.mid s.head s.size k dot s.no_prefix (λ g a. is_number (first_part (after_part (after_part (after_part (after_part c))))) s.size o a.1.1.1.1.0) s.spells
