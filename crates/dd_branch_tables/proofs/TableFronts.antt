-- Tables of one size have the same involutions exactly where their codes begin with the same images.
use Rattle.std.proofs.Common.{◌≡◌, ℕ, zero, suc, ◌+◌, ◌-◌, ◌*◌, ◌/◌, ◌%◌, ◌<◌, ◌≤◌, List, ◌++◌, length, length-take-le, length-append, get_or, take, refl, sym, ap, ◌∙◌, arith}
use Rattle.std.proofs.lemmas.List.{ext_get_or, get_or-take}
use Rattle.dd_model.specs.declared.index.Index.{Index}
use Rattle.dd_model.specs.declared.index.Index.TheVariants.{Zero, One, Two}
use Rattle.dd_model.specs.Symbol.{Symbol, IsTable, op, operation}
use Rattle.dd_model.specs.Lists.{Begins}
use Rattle.dd_model.specs.Code.{code, all_images}
use Rattle.dd_model.proofs.Codes.{length-flat_images, length-code}
use Rattle.dd_front_jobs.specs.Places.{place}
use Rattle.dd_symbol.specs.Images.{of_rows}
use Rattle.dd_symbol.proofs.TableLemmas.{item-first, item-column, lengths}
use Rattle.dd_branch_tables.specs.Table.{images_of, told}
use Rattle.dd_model.specs.Involutions.{HaveSameInvolutions}
use Rattle.dd_model.proofs.Ascending.{begins_at, begins_from}
use Rattle.dd_front_jobs.proofs.Places.{code_at, chamber_of_place}
use Rattle.dd_front_jobs.proofs.CodeFronts.{image_at}
use Rattle.dd_model.proofs.SameInvolutions.{op-same}
use Rattle.dd_model.specs.Indices.{index_at}

-- the first 3n numbers of two lists are the same
pub record AgreeOnImages (n : ℕ) (xs ys : List ℕ) : Type 0 where
  pub same : (u : ℕ) → u < 3 * n → get_or xs u 0 ≡ get_or ys u 0

pub place_inside : (i : Index) (d n : ℕ) → 1 ≤ d → d ≤ n → place i d < 3 * n
place_inside i d n low high = let q = chamber_of_place i d in omega arith

-- one list of images
images_same : (s t : Symbol) → IsTable s → IsTable t → s.size ≡ t.size → AgreeOnImages t.size (code t) (code s) → (i : Index) → operation s i ≡ operation t i
images_same s t is it size agree i =
    let ls = is.lengths i in
    let lt = it.lengths i in
    ext_get_or 0 (operation s i) (operation t i) (ls ∙ size ∙ sym lt) (λ k low.
    let inside : place i (k + 1) < 3 * t.size = place_inside i (k + 1) t.size (omega arith) (omega arith) in
    let back : k + 1 - 1 ≡ k = omega arith in
    let here : op s i (k + 1) ≡ op t i (k + 1) =
    sym (image_at s i (k + 1) (omega arith) (omega arith)) ∙ sym (agree.same (place i (k + 1)) inside) ∙ image_at t i (k + 1) (omega arith) inside in
    ap (λ j. get_or (operation s i) j 0) (sym back) ∙ here ∙ ap (λ j. get_or (operation t i) j 0) back)

pub same_from_agreeing : (s t : Symbol) → IsTable s → IsTable t → s.size ≡ t.size → AgreeOnImages t.size (code t) (code s) → HaveSameInvolutions t s
same_from_agreeing s t is it size agree = record {
  size = size;
  s0 = images_same s t is it size agree Zero;
  s1 = images_same s t is it size agree One;
  s2 = images_same s t is it size agree Two;
}

pub agreeing_from_same : (s t : Symbol) → HaveSameInvolutions t s → AgreeOnImages t.size (code t) (code s)
agreeing_from_same s t same = record {
  same = λ u low.
      let size = same.size in
      code_at t u low ∙ sym (op-same t s same (index_at (u % 3)) (1 + u / 3)) ∙ sym (code_at s u (omega arith));
}

-- numbers with which the code of a table begins
pub front_same : (s t : Symbol) (numbers : List ℕ) → IsTable s → IsTable t → s.size ≡ t.size → length numbers ≡ 3 * t.size → Begins numbers (code t) → Begins numbers (code s) → HaveSameInvolutions t s
front_same s t numbers is it size whole bt bs =
    same_from_agreeing s t is it size (record { same = λ u low. begins_at numbers (code t) u bt (omega arith) ∙ sym (begins_at numbers (code s) u bs (omega arith)) })

pub front_begins : (s t : Symbol) (numbers : List ℕ) → IsTable s → length numbers ≡ 3 * t.size → Begins numbers (code t) → HaveSameInvolutions t s → Begins numbers (code s)
front_begins s t numbers is whole bt same =
    let long = length-code s is in
    let size = same.size in
    let agree = agreeing_from_same s t same in
    begins_from numbers (code s) (omega arith) (λ u low. sym (agree.same u (omega arith)) ∙ begins_at numbers (code t) u bt low)

pub begins_with_take : (n : ℕ) (xs : List ℕ) → n ≤ length xs → Begins (take n xs) xs
begins_with_take n xs low =
    let size : length (take n xs) ≡ n = length-take-le n xs low in
    begins_from (take n xs) xs (omega arith) (λ u h. sym (get_or-take n xs u 0 (omega arith)))

-- ## Images that stand in a list

pub length-images_of : (n : ℕ) (numbers : List ℕ) (i : Index) → length (images_of n numbers i) ≡ n
length-images_of n numbers i = lengths n numbers i

-- the image of a chamber stands at its place
pub rows_at : (n : ℕ) (numbers : List ℕ) (i : Index) (d : ℕ) → 1 ≤ d → d ≤ n → op (of_rows n numbers) i d ≡ get_or numbers (place i d) 0
rows_at n numbers i d low high = elim i as (λ j. op (of_rows n numbers) j d ≡ get_or numbers (place j d) 0) [
  | Zero ↦ item-first numbers n d low high
  | One ↦ item-column numbers 1 n d low high
  | Two ↦ item-column numbers 2 n d low high
]

-- the same with degrees
pub told_at : (n : ℕ) (numbers m01 m12 : List ℕ) (i : Index) (d : ℕ) → 1 ≤ d → d ≤ n → op (told n numbers m01 m12) i d ≡ get_or numbers (place i d) 0
told_at n numbers m01 m12 i d low high = elim i as (λ j. op (told n numbers m01 m12) j d ≡ get_or numbers (place j d) 0) [
  | Zero ↦ rows_at n numbers Zero d low high
  | One ↦ rows_at n numbers One d low high
  | Two ↦ rows_at n numbers Two d low high
]

pub lengths_told : (n : ℕ) (numbers m01 m12 : List ℕ) (i : Index) → length (operation (told n numbers m01 m12) i) ≡ n
lengths_told n numbers m01 m12 i = elim i as (λ j. length (operation (told n numbers m01 m12) j) ≡ n) [
  | Zero ↦ length-images_of n numbers Zero
  | One ↦ length-images_of n numbers One
  | Two ↦ length-images_of n numbers Two
]

told_list : (s : Symbol) (numbers : List ℕ) → IsTable s → length numbers ≡ 3 * s.size → Begins numbers (code s) → (i : Index) → images_of s.size numbers i ≡ operation s i
told_list s numbers is whole begins i =
    let size = length-images_of s.size numbers i in
    let own = is.lengths i in
    ext_get_or 0 (images_of s.size numbers i) (operation s i) (size ∙ sym own) (λ k low.
    let inside : place i (1 + k) < 3 * s.size = place_inside i (1 + k) s.size (omega arith) (omega arith) in
    let back : 1 + k - 1 ≡ k = omega arith in
    ap (λ j. get_or (images_of s.size numbers i) j 0) (sym back)
    ∙ rows_at s.size numbers i (1 + k) (omega arith) (omega arith)
    ∙ sym (begins_at numbers (code s) (place i (1 + k)) begins (omega arith))
    ∙ image_at s i (1 + k) (omega arith) inside
    ∙ ap (λ j. get_or (operation s i) j 0) back)

-- the numbers with which a code begins tell its involutions
pub told_same : (s : Symbol) (n : ℕ) (numbers m01 m12 : List ℕ) → IsTable s → s.size ≡ n → length numbers ≡ 3 * n → Begins numbers (code s) → HaveSameInvolutions s (told n numbers m01 m12)
told_same s n numbers m01 m12 is size whole begins =
    let long : length numbers ≡ 3 * s.size = omega arith in
    record {
      size = sym size;
      s0 = ap (λ k. images_of k numbers Zero) (sym size) ∙ told_list s numbers is long begins Zero;
      s1 = ap (λ k. images_of k numbers One) (sym size) ∙ told_list s numbers is long begins One;
      s2 = ap (λ k. images_of k numbers Two) (sym size) ∙ told_list s numbers is long begins Two;
    }

-- the code of what is told begins with the numbers
pub told_begins : (n : ℕ) (numbers m01 m12 : List ℕ) → length numbers ≡ 3 * n → Begins numbers (code (told n numbers m01 m12))
told_begins n numbers m01 m12 whole =
    let t = told n numbers m01 m12 in
    let a = length-append (all_images t ++ m01) m12 in
    let b = length-append (all_images t) m01 in
    let size = length-flat_images t 1 n in
    begins_from numbers (code t) (omega arith) (λ u low.
    let at : place (index_at (u % 3)) (1 + u / 3) ≡ u = place_of_parts u in
    code_at t u (omega arith) ∙ told_at n numbers m01 m12 (index_at (u % 3)) (1 + u / 3) (omega arith) (omega arith) ∙ ap (λ v. get_or numbers v 0) at)
  where
    by_index : (u r : ℕ) → u % 3 ≡ r → r < 3 → place (index_at r) (1 + u / 3) ≡ u
    by_index u zero e low = omega arith
    by_index u (suc zero) e low = omega arith
    by_index u (suc (suc zero)) e low = omega arith
    by_index u (suc (suc (suc r))) e low = absurd (omega arith)

    place_of_parts : (u : ℕ) → place (index_at (u % 3)) (1 + u / 3) ≡ u
    place_of_parts u = by_index u (u % 3) refl (omega arith)
