-- A symbol under other numbers, and the exchange of two numbers.
use Rattle.std.proofs.Common.{◌≡◌, ℕ, ◌-◌, ◌≤◌, cond, List, map, length, refl, sym, ap, ◌∙◌, arith}
use Rattle.std.proofs.lemmas.Bool.Decides.{nat_tests}
use Rattle.std.proofs.lemmas.List.{get_or-map, length-map}
use Rattle.std.specs.Prelude.{eqb}
use Rattle.dd_model.specs.declared.index.Index.{Index}
use Rattle.dd_model.specs.declared.index.Index.TheVariants.{Zero, One, Two}
use Rattle.dd_model.specs.Symbol.{Symbol, IsTable, IsChamber, item, op, operation}
use Rattle.dd_model.specs.Isomorphic.{Undoes, IsBijection, IsIsomorphism}
use Rattle.dd_model.specs.Code.{count_from}
use Rattle.dd_model.proofs.CountFrom.{length-count_from, item-count_from}
use Rattle.dd_model.proofs.Transport.{HaveLengths, IsTable-along}

-- the images of 1 to n under a function
abbrev pub table : (ℕ → ℕ) → ℕ → List ℕ
table h n = map h (count_from 1 n)

pub length-table : (h : ℕ → ℕ) (n : ℕ) → length (table h n) ≡ n
length-table h n = length-map (count_from 1 n) h ∙ length-count_from 1 n

pub item-table : (h : ℕ → ℕ) (n d : ℕ) → 1 ≤ d → d ≤ n → item (table h n) d ≡ h d
item-table h n d low high =
    let size = length-count_from 1 n in
    get_or-map h (count_from 1 n) (d - 1) 0 0 (omega arith) ∙ ap h (item-count_from n d low high)

-- chamber d becomes chamber f(d), and g undoes f
abbrev pub renumbered : Symbol → List ℕ → List ℕ → Symbol
renumbered s f g = record {
  size = s.size;
  s0 = table (λ e. item f (op s Zero (item g e))) s.size;
  s1 = table (λ e. item f (op s One (item g e))) s.size;
  s2 = table (λ e. item f (op s Two (item g e))) s.size;
  m01 = table (λ e. item s.m01 (item g e)) s.size;
  m12 = table (λ e. item s.m12 (item g e)) s.size;
}

renumbered_op : (s : Symbol) (f g : List ℕ) (i : Index) (e : ℕ) → IsChamber s e → op (renumbered s f g) i e ≡ item f (op s i (item g e))
renumbered_op s f g Zero e h = item-table (λ e. item f (op s Zero (item g e))) s.size e h.0 h.1
renumbered_op s f g One e h = item-table (λ e. item f (op s One (item g e))) s.size e h.0 h.1
renumbered_op s f g Two e h = item-table (λ e. item f (op s Two (item g e))) s.size e h.0 h.1

pub renumbered_lengths : (s : Symbol) (f g : List ℕ) → HaveLengths (renumbered s f g)
renumbered_lengths s f g = record {
  lengths = λ i. elim i as (λ j. length (operation (renumbered s f g) j) ≡ s.size) [
    | Zero ↦ length-table (λ e. item f (op s Zero (item g e))) s.size
    | One ↦ length-table (λ e. item f (op s One (item g e))) s.size
    | Two ↦ length-table (λ e. item f (op s Two (item g e))) s.size
  ];
  m01_length = length-table (λ e. item s.m01 (item g e)) s.size;
  m12_length = length-table (λ e. item s.m12 (item g e)) s.size;
}

pub renumbered_isomorphism : (s : Symbol) (f : List ℕ) (b : IsBijection s.size f) → IsIsomorphism s (renumbered s f b.inverse) f
renumbered_isomorphism s f b =
    let g = b.inverse in
    record {
      size = refl;
      bijection = b;
      morphism = record {
        images = b.images;
        within = λ d h. b.left.within d h.0 h.1;
        op = λ i d h. sym (renumbered_op s f g i (item f d) (b.left.within d h.0 h.1) ∙ ap (λ x. item f (op s i x)) (b.left.undone d h.0 h.1));
        m01 = λ d h. let w = b.left.within d h.0 h.1 in item-table (λ e. item s.m01 (item g e)) s.size (item f d) w.0 w.1 ∙ ap (item s.m01) (b.left.undone d h.0 h.1);
        m12 = λ d h. let w = b.left.within d h.0 h.1 in item-table (λ e. item s.m12 (item g e)) s.size (item f d) w.0 w.1 ∙ ap (item s.m12) (b.left.undone d h.0 h.1);
      };
    }

pub renumbered_table : (s : Symbol) (f : List ℕ) → IsTable s → (b : IsBijection s.size f) → IsTable (renumbered s f b.inverse)
renumbered_table s f is b = IsTable-along s (renumbered s f b.inverse) f is (renumbered_isomorphism s f b) (renumbered_lengths s f b.inverse)

-- a and b exchanged
abbrev pub swapped : ℕ → ℕ → ℕ → ℕ
swapped a b d = cond (eqb d a) b (cond (eqb d b) a d)

pub swapped_first : (a b : ℕ) → swapped a b a ≡ b
swapped_first a b = grind (arith, nat_tests)

pub swapped_other : (a b d : ℕ) → (d ≡ a → ⊥) → (d ≡ b → ⊥) → swapped a b d ≡ d
swapped_other a b d na nb = grind (arith, nat_tests)

swapped_twice : (a b d : ℕ) → swapped a b (swapped a b d) ≡ d
swapped_twice a b d = grind (arith, nat_tests)

swapped_within : (a b n d : ℕ) → 1 ≤ a → a ≤ n → 1 ≤ b → b ≤ n → 1 ≤ d → d ≤ n → (1 ≤ swapped a b d) × (swapped a b d ≤ n)
swapped_within a b n d la ha lb hb ld hd = (grind (arith, nat_tests), grind (arith, nat_tests))

abbrev pub swap : ℕ → ℕ → ℕ → List ℕ
swap a b n = table (swapped a b) n

swap_undoes : (a b n : ℕ) → 1 ≤ a → a ≤ n → 1 ≤ b → b ≤ n → Undoes n (swap a b n) (swap a b n)
swap_undoes a b n la ha lb hb =
    let at : (d : ℕ) → 1 ≤ d → d ≤ n → item (swap a b n) d ≡ swapped a b d = item-table (swapped a b) n in
    record {
      within = λ d low high. rw (at d low high) (swapped_within a b n d la ha lb hb low high);
      undone = λ d low high.
          let w = swapped_within a b n d la ha lb hb low high in
          ap (item (swap a b n)) (at d low high) ∙ at (swapped a b d) w.0 w.1 ∙ swapped_twice a b d;
    }

pub swap_bijection : (a b n : ℕ) → 1 ≤ a → a ≤ n → 1 ≤ b → b ≤ n → IsBijection n (swap a b n)
swap_bijection a b n la ha lb hb = record {
  images = length-table (swapped a b) n;
  inverse = swap a b n;
  inverse_images = length-table (swapped a b) n;
  left = swap_undoes a b n la ha lb hb;
  right = swap_undoes a b n la ha lb hb;
}
