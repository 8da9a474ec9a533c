-- Rows and the involutions of them give each other back.
use Rattle.std.proofs.Common.{◌≡◌, ℕ, zero, suc, ◌+◌, ◌-◌, ◌*◌, ◌<◌, ◌≤◌, List, [], ◌∷◌, ◌++◌, length, get_or, take, drop, refl, sym, ap, ◌∙◌, subst, ⊎_elim, arith}
use Rattle.std.proofs.Math.Seq.{drop-append-add}
use Rattle.std.proofs.lemmas.List.{get_or-map, length-map, take_all, take_at, drop_all, drop_at, take-append-drop, append_assoc, length-take-le, get_or-take, length-append, length_push, drop_more, get_or_append_left, get_or_push}
use Rattle.std.proofs.lemmas.Bool.{cases_lt}
use Rattle.std.specs.List.{flat_map}
use Rattle.dd_model.specs.declared.index.Index.{Index}
use Rattle.dd_model.specs.declared.index.Index.TheVariants.{Zero, One, Two}
use Rattle.dd_model.specs.Symbol.{Symbol, AreInvolutions, IsChamber, item, op, operation}
use Rattle.dd_model.specs.Code.{count_from, images, all_images, code}
use Rattle.dd_model.proofs.CountFrom.{length-count_from, get_or-count_from}
use Rattle.dd_model.proofs.Codes.{same_items, length-flat_images}
use Rattle.dd_symbol.specs.Images.{column, of_rows, of_code, with_degrees, AreThreeInvolutions}
use Rattle.dd_symbol.specs.Table.{symbol_of}
use Rattle.dd_symbol.specs.declared.code_table.CodeTable.{CodeTable}
use Rattle.dd_model.specs.Involutions.{HaveSameInvolutions}
use Rattle.dd_model.proofs.SameInvolutions.{involutions-same}
use Rattle.dd_model.proofs.Transport.{HaveLengths}
use Rattle.dd_symbol.specs.Rows.{HasRows}
use Rattle.dd_symbol.specs.Building.{listed}
use Rattle.dd_model.specs.Indices.{index_number}

-- ## What stands where

pub length-column : (xs : List ℕ) (i n : ℕ) → length (column xs i n) ≡ n
unfolding column
length-column xs i n = length-map (count_from 0 n) (λ k. get_or xs (3 * k + i) 0) ∙ length-count_from 0 n

pub item-column : (xs : List ℕ) (i n d : ℕ) → 1 ≤ d → d ≤ n → item (column xs i n) d ≡ get_or xs (3 * (d - 1) + i) 0
unfolding column
item-column xs i n d low high =
    let place : get_or (count_from 0 n) (d - 1) 0 ≡ d - 1 = get_or-count_from 0 n (d - 1) (omega arith) ∙ omega arith in
    get_or-map (λ k. get_or xs (3 * k + i) 0) (count_from 0 n) (d - 1) 0 0 (let l = length-count_from 0 n in omega arith)
    ∙ ap (λ k. get_or xs (3 * k + i) 0) place

pub item-first : (xs : List ℕ) (n d : ℕ) → 1 ≤ d → d ≤ n → item (column xs 0 n) d ≡ get_or xs (3 * (d - 1)) 0
item-first xs n d low high =
    let e : 3 * (d - 1) + 0 ≡ 3 * (d - 1) = omega arith in
    item-column xs 0 n d low high ∙ ap (λ k. get_or xs k 0) e

-- the image under each of the involutions
pub item-row : (n : ℕ) (xs : List ℕ) (i : Index) (d : ℕ) → 1 ≤ d → d ≤ n → op (of_code n xs) i d ≡ get_or xs (3 * (d - 1) + index_number i) 0
item-row n xs i d low high = elim i as (λ j. op (of_code n xs) j d ≡ get_or xs (3 * (d - 1) + index_number j) 0) [
  | Zero ↦ item-column xs 0 n d low high
  | One ↦ item-column xs 1 n d low high
  | Two ↦ item-column xs 2 n d low high
]

pub lengths : (n : ℕ) (xs : List ℕ) (i : Index) → length (operation (of_rows n xs) i) ≡ n
lengths n xs i = elim i as (λ j. length (operation (of_rows n xs) j) ≡ n) [
  | Zero ↦ length-column xs 0 n
  | One ↦ length-column xs 1 n
  | Two ↦ length-column xs 2 n
]

-- ## Symbols with degrees

pub with_same : (s : Symbol) (m01 m12 : List ℕ) → HaveSameInvolutions s (with_degrees s m01 m12)
with_same s m01 m12 = record { size = refl; s0 = refl; s1 = refl; s2 = refl }

pub table_lengths : (t : CodeTable) → HaveLengths (symbol_of t)
table_lengths t = record {
  lengths = t.three.lengths;
  m01_length = t.tiles;
  m12_length = t.vertices;
}

-- how long the code is
pub length-code_of : (t : CodeTable) → length (code (symbol_of t)) ≡ 5 * t.involutions.size
length-code_of t =
    let s = symbol_of t in
    let images = length-flat_images s 1 s.size in
    let front = length-append (all_images s) s.m01 in
    let whole = length-append (all_images s ++ s.m01) s.m12 in
    let tiles = t.tiles in
    let vertices = t.vertices in
    omega arith

pub image_within : (s t : Symbol) → AreThreeInvolutions s → s ≡ t → (i : Index) (d r : ℕ) → IsChamber t d → r ≡ op s i d → IsChamber t r
image_within s t is same i d r h image =
    let there : IsChamber s (op s i d) = (is.involutions i).within d (subst (λ u. IsChamber u d) (sym same) h) in
    subst (IsChamber t) (sym image) (subst (λ u. IsChamber u (op s i d)) same there)

pub three_of_code : (n : ℕ) (xs : List ℕ) → n ≤ 16384 → AreInvolutions (of_code n xs) → AreThreeInvolutions (of_code n xs)
three_of_code n xs small inv = record {
  small = small;
  lengths = λ i. elim i as (λ j. length (operation (of_code n xs) j) ≡ n) [
    | Zero ↦ lengths n xs Zero
    | One ↦ lengths n xs One
    | Two ↦ lengths n xs Two
  ];
  involutions = inv;
}

-- involutions with other degrees are three involutions
three_with : (s : Symbol) (m01 m12 : List ℕ) → AreThreeInvolutions s → AreThreeInvolutions (with_degrees s m01 m12)
three_with s m01 m12 three = record {
  small = three.small;
  lengths = λ i. elim i as (λ j. length (operation (with_degrees s m01 m12) j) ≡ s.size) [
    | Zero ↦ three.lengths Zero
    | One ↦ three.lengths One
    | Two ↦ three.lengths Two
  ];
  involutions = involutions-same s (with_degrees s m01 m12) (with_same s m01 m12) three.involutions;
}

-- ## The images of rows

three_more : (xs : List ℕ) (k : ℕ) → 3 * k + 2 < length xs
    → drop (3 * k) xs ≡ get_or xs (3 * k) 0 ∷ get_or xs (3 * k + 1) 0 ∷ get_or xs (3 * k + 2) 0 ∷ drop (3 * (k + 1)) xs
three_more xs k h =
    let two : 3 * k + 1 + 1 ≡ 3 * k + 2 = omega arith in
    let three : 3 * k + 2 + 1 ≡ 3 * (k + 1) = omega arith in
    drop_more xs (3 * k) 0 (omega arith)
    ∙ ap (λ ys. get_or xs (3 * k) 0 ∷ ys) (drop_more xs (3 * k + 1) 0 (omega arith))
    ∙ ap (λ j. get_or xs (3 * k) 0 ∷ get_or xs (3 * k + 1) 0 ∷ drop j xs) two
    ∙ ap (λ ys. get_or xs (3 * k) 0 ∷ get_or xs (3 * k + 1) 0 ∷ ys) (drop_more xs (3 * k + 2) 0 (omega arith))
    ∙ ap (λ j. get_or xs (3 * k) 0 ∷ get_or xs (3 * k + 1) 0 ∷ get_or xs (3 * k + 2) 0 ∷ drop j xs) three

row : (n : ℕ) (xs : List ℕ) (k : ℕ) → k < n
    → images (of_rows n xs) (k + 1) ≡ get_or xs (3 * k) 0 ∷ get_or xs (3 * k + 1) 0 ∷ get_or xs (3 * k + 2) 0 ∷ []
row n xs k h =
    let place : k + 1 - 1 ≡ k = omega arith in
    let zero_at : item (column xs 0 n) (k + 1) ≡ get_or xs (3 * k) 0 = item-first xs n (k + 1) (omega arith) (omega arith) ∙ ap (λ j. get_or xs (3 * j) 0) place in
    let one_at : item (column xs 1 n) (k + 1) ≡ get_or xs (3 * k + 1) 0 = item-column xs 1 n (k + 1) (omega arith) (omega arith) ∙ ap (λ j. get_or xs (3 * j + 1) 0) place in
    let two_at : item (column xs 2 n) (k + 1) ≡ get_or xs (3 * k + 2) 0 = item-column xs 2 n (k + 1) (omega arith) (omega arith) ∙ ap (λ j. get_or xs (3 * j + 2) 0) place in
    ap (λ x. x ∷ item (column xs 1 n) (k + 1) ∷ item (column xs 2 n) (k + 1) ∷ []) zero_at
    ∙ ap (λ x. get_or xs (3 * k) 0 ∷ x ∷ item (column xs 2 n) (k + 1) ∷ []) one_at
    ∙ ap (λ x. get_or xs (3 * k) 0 ∷ get_or xs (3 * k + 1) 0 ∷ x ∷ []) two_at

rows_from : (n : ℕ) (xs : List ℕ) → 3 * n ≤ length xs → (k m : ℕ) → k + m ≡ n
    → flat_map (images (of_rows n xs)) (count_from (k + 1) m) ≡ take (3 * m) (drop (3 * k) xs)
rows_from n xs long k zero e = refl
rows_from n xs long k (suc m) e =
    let more : 3 * suc m ≡ suc (suc (suc (3 * m))) = omega arith in
    let rest = flat_map (images (of_rows n xs)) (count_from (k + 1 + 1) m) in
    ap (λ ys. ys ++ rest) (row n xs k (omega arith))
    ∙ ap (λ ys. get_or xs (3 * k) 0 ∷ get_or xs (3 * k + 1) 0 ∷ get_or xs (3 * k + 2) 0 ∷ ys) (rows_from n xs long (k + 1) m (omega arith))
    ∙ sym (ap (take (suc (suc (suc (3 * m))))) (three_more xs k (omega arith)))
    ∙ sym (ap (λ j. take j (drop (3 * k) xs)) more)

-- the images of rows are the rows in front
images_in_front : (n : ℕ) (xs : List ℕ) → 3 * n ≤ length xs → all_images (of_rows n xs) ≡ take (3 * n) xs
images_in_front n xs long = rows_from n xs long 0 n (omega arith)

-- rows that begin alike have the same images
column_in_front : (n : ℕ) (xs ys : List ℕ) → take (3 * n) xs ≡ take (3 * n) ys → (i : ℕ) → i < 3 → column xs i n ≡ column ys i n
column_in_front n xs ys front i low =
    same_items (column xs i n) (column ys i n) n (length-column xs i n) (length-column ys i n) (λ d first last.
    item-column xs i n d first (omega arith)
    ∙ sym (get_or-take (3 * n) xs (3 * (d - 1) + i) 0 (omega arith))
    ∙ ap (λ zs. get_or zs (3 * (d - 1) + i) 0) front
    ∙ get_or-take (3 * n) ys (3 * (d - 1) + i) 0 (omega arith)
    ∙ sym (item-column ys i n d first (omega arith)))

-- rows begin alike exactly where they are of the same involutions
pub same_from_front : (n m : ℕ) (xs ys : List ℕ) → n ≡ m → take (3 * n) xs ≡ take (3 * n) ys → HaveSameInvolutions (of_code m ys) (of_code n xs)
same_from_front n m xs ys size front = record {
  size = size;
  s0 = column_in_front n xs ys front 0 (omega arith) ∙ ap (column ys 0) size;
  s1 = column_in_front n xs ys front 1 (omega arith) ∙ ap (column ys 1) size;
  s2 = column_in_front n xs ys front 2 (omega arith) ∙ ap (column ys 2) size;
}

pub front_from_same : (n m : ℕ) (xs ys : List ℕ) → 3 * n ≤ length xs → 3 * m ≤ length ys → HaveSameInvolutions (of_code m ys) (of_code n xs)
    → take (3 * n) xs ≡ take (3 * n) ys
front_from_same n m xs ys long long' same =
    let size : m ≡ n = sym same.size in
    let images : all_images (of_rows n xs) ≡ all_images (of_rows m ys) =
    λ i. all_images (record { size = same.size i; s0 = same.s0 i; s1 = same.s1 i; s2 = same.s2 i; m01 = []; m12 = [] }) in
    sym (images_in_front n xs long) ∙ images ∙ images_in_front m ys long' ∙ ap (λ k. take (3 * k) ys) size

-- ## Degrees behind rows

drop_twice : (m n : ℕ) (xs : List ℕ) → m ≤ length xs → drop (m + n) xs ≡ drop n (drop m xs)
drop_twice m n xs long =
    let front : length (take m xs) ≡ m = length-take-le m xs long in
    let place : m + n ≡ length (take m xs) + n = omega arith in
    ap (λ k. drop k xs) place
    ∙ ap (drop (length (take m xs) + n)) (sym (take-append-drop m xs))
    ∙ drop-append-add (take m xs) (drop m xs) n

-- the code of the symbol of some numbers are those numbers
pub code-of_code : (n : ℕ) (xs : List ℕ) → 3 * n ≤ length xs → code (of_code n xs) ≡ xs
code-of_code n xs long =
    let behind = drop (3 * n) xs in
    ap (λ ys. ys ++ take n behind ++ drop (3 * n + n) xs) (images_in_front n xs long)
    ∙ ap (λ ys. take (3 * n) xs ++ take n behind ++ ys) (drop_twice (3 * n) n xs long)
    ∙ append_assoc (take (3 * n) xs) (take n behind) (drop n behind)
    ∙ ap (λ ys. take (3 * n) xs ++ ys) (take-append-drop n behind)
    ∙ take-append-drop (3 * n) xs

pub code_kept : (n : ℕ) (xs : List ℕ) (s : Symbol) → 3 * n ≤ length xs → of_code n xs ≡ s → code s ≡ xs
code_kept n xs s long is = ap code (sym is) ∙ code-of_code n xs long

-- where nothing follows the rows, there are no degrees
pub of_code-of_rows : (n : ℕ) (xs : List ℕ) → length xs ≡ 3 * n → of_code n xs ≡ of_rows n xs
of_code-of_rows n xs whole =
    let tiles : take n (drop (3 * n) xs) ≡ [] = ap (take n) (drop_all (3 * n) xs (omega arith)) ∙ take_all n [] (omega arith) in
    ap (λ ms. with_degrees (of_rows n xs) ms (drop (3 * n + n) xs)) tiles
    ∙ ap (with_degrees (of_rows n xs) []) (drop_all (3 * n + n) xs (omega arith))

-- rows with other degrees behind them
of_code-with_degrees : (n : ℕ) (xs m01 m12 : List ℕ) → 3 * n ≤ length xs → length m01 ≡ n
    → of_code n ((take (3 * n) xs ++ m01) ++ m12) ≡ with_degrees (of_code n xs) m01 m12
of_code-with_degrees n xs m01 m12 long size =
    let rows = take (3 * n) xs in
    let ys = (rows ++ m01) ++ m12 in
    let front : length rows ≡ 3 * n = length-take-le (3 * n) xs long in
    let grouped : ys ≡ rows ++ (m01 ++ m12) = append_assoc rows m01 m12 in
    let same : take (3 * n) ys ≡ rows = ap (take (3 * n)) grouped ∙ take_at rows (m01 ++ m12) (3 * n) front in
    let tiles : take n (drop (3 * n) ys) ≡ m01 =
    ap (λ zs. take n (drop (3 * n) zs)) grouped ∙ ap (take n) (drop_at rows (m01 ++ m12) (3 * n) front) ∙ take_at m01 m12 n size in
    let vertices : drop (3 * n + n) ys ≡ m12 = drop_at (rows ++ m01) m12 (3 * n + n) (length-append rows m01 ∙ omega arith) in
    let e0 = column_in_front n ys xs same 0 (omega arith) in
    let e1 = column_in_front n ys xs same 1 (omega arith) in
    let e2 = column_in_front n ys xs same 2 (omega arith) in
    λ x. record { size = n; s0 = e0 x; s1 = e1 x; s2 = e2 x; m01 = tiles x; m12 = vertices x }

pub followed_by : (n : ℕ) (xs ys m01 m12 : List ℕ) (s : Symbol) → 3 * n ≤ length xs → of_code n xs ≡ s → length m01 ≡ s.size
    → ys ≡ (take (3 * n) xs ++ m01) ++ m12 → of_code n ys ≡ with_degrees s m01 m12
followed_by n xs ys m01 m12 s long is size made =
    ap (of_code n) made
    ∙ of_code-with_degrees n xs m01 m12 long (size ∙ ap (λ t. t.size) (sym is))
    ∙ ap (λ t. with_degrees t m01 m12) is

pub three_followed_by : (n : ℕ) (xs ys m01 m12 : List ℕ) (s : Symbol) → 3 * n ≤ length xs → of_code n xs ≡ s → length m01 ≡ s.size
    → ys ≡ (take (3 * n) xs ++ m01) ++ m12 → AreThreeInvolutions (of_code n xs) → AreThreeInvolutions (of_code n ys)
three_followed_by n xs ys m01 m12 s long is size made three =
    subst AreThreeInvolutions (sym (followed_by n xs ys m01 m12 s long is size made)) (three_with s m01 m12 (subst AreThreeInvolutions is three))

-- ## The involutions of rows

pub op-rows : (h : Index → ℕ → ℕ) (n : ℕ) (xs : List ℕ) → HasRows h n xs → (i : Index) (d : ℕ) → 1 ≤ d → d ≤ n → op (of_code n xs) i d ≡ h i d
op-rows h n xs rows i d low high =
    elim i as (λ j. op (of_code n xs) j d ≡ h j d) [
      | Zero ↦ item-first xs n d low high ∙ rows.zero d low high
      | One ↦ item-column xs 1 n d low high ∙ rows.one d low high
      | Two ↦ item-column xs 2 n d low high ∙ rows.two d low high
    ]

-- the involutions of three lists
pub listed-from_rows : (s0 s1 s2 xs : List ℕ) → length s1 ≡ length s0 → length s2 ≡ length s0 → HasRows (op (listed s0 s1 s2 [] [])) (length s0) xs
    → of_code (length s0) xs ≡ listed s0 s1 s2 [] []
listed-from_rows s0 s1 s2 xs l1 l2 rows =
    let n = length s0 in
    let at : (i : Index) (d : ℕ) → 1 ≤ d → d < 1 + n → op (of_code n xs) i d ≡ op (listed s0 s1 s2 [] []) i d
    = λ i d low high. op-rows (op (listed s0 s1 s2 [] [])) n xs rows i d low (omega arith) in
    let e0 : column xs 0 n ≡ s0 = same_items (column xs 0 n) s0 n (length-column xs 0 n) refl (at Zero) in
    let e1 : column xs 1 n ≡ s1 = same_items (column xs 1 n) s1 n (length-column xs 1 n) l1 (at One) in
    let e2 : column xs 2 n ≡ s2 = same_items (column xs 2 n) s2 n (length-column xs 2 n) l2 (at Two) in
    let lists : of_rows n xs ≡ listed s0 s1 s2 [] [] = λ x. record { size = n; s0 = e0 x; s1 = e1 x; s2 = e2 x; m01 = []; m12 = [] } in
    of_code-of_rows n xs rows.rows ∙ lists

-- ## One row more

pub more_rows : (h : Index → ℕ → ℕ) (k : ℕ) (xs : List ℕ) (a b c : ℕ) → HasRows h k xs → a ≡ h Zero (k + 1) → b ≡ h One (k + 1) → c ≡ h Two (k + 1)
    → HasRows h (k + 1) (((xs ++ a ∷ []) ++ b ∷ []) ++ c ∷ [])
more_rows h k xs a b c rows ea eb ec =
    let l = rows.rows in
    let la = length_push xs a in
    let lb = length_push (xs ++ a ∷ []) b in
    let lc = length_push (xs ++ a ∷ [] ++ b ∷ []) c in
    let old : (j : ℕ) → j < 3 * k → get_or (xs ++ a ∷ [] ++ b ∷ [] ++ c ∷ []) j 0 ≡ get_or xs j 0 = λ j below.
    get_or_append_left (xs ++ a ∷ [] ++ b ∷ []) (c ∷ []) 0 j (omega arith)
    ∙ get_or_append_left (xs ++ a ∷ []) (b ∷ []) 0 j (omega arith)
    ∙ get_or_append_left xs (a ∷ []) 0 j (omega arith) in
    record {
      rows = omega arith;
      zero = λ e low high. ⊎_elim
          (λ before. old (3 * (e - 1)) (omega arith) ∙ rows.zero e low (omega arith))
          (λ last.
          let here : k + 1 ≡ e = omega arith in
          get_or_append_left (xs ++ a ∷ [] ++ b ∷ []) (c ∷ []) 0 (3 * (e - 1)) (omega arith)
          ∙ get_or_append_left (xs ++ a ∷ []) (b ∷ []) 0 (3 * (e - 1)) (omega arith)
          ∙ get_or_push xs a 0 (3 * (e - 1)) (omega arith) ∙ ea ∙ ap (h Zero) here)
          (cases_lt e (k + 1));
      one = λ e low high. ⊎_elim
          (λ before. old (3 * (e - 1) + 1) (omega arith) ∙ rows.one e low (omega arith))
          (λ last.
          let here : k + 1 ≡ e = omega arith in
          get_or_append_left (xs ++ a ∷ [] ++ b ∷ []) (c ∷ []) 0 (3 * (e - 1) + 1) (omega arith)
          ∙ get_or_push (xs ++ a ∷ []) b 0 (3 * (e - 1) + 1) (omega arith) ∙ eb ∙ ap (h One) here)
          (cases_lt e (k + 1));
      two = λ e low high. ⊎_elim
          (λ before. old (3 * (e - 1) + 2) (omega arith) ∙ rows.two e low (omega arith))
          (λ last.
          let here : k + 1 ≡ e = omega arith in
          get_or_push (xs ++ a ∷ [] ++ b ∷ []) c 0 (3 * (e - 1) + 2) (omega arith) ∙ ec ∙ ap (h Two) here)
          (cases_lt e (k + 1));
    }

-- three numbers more are one row more
pub pushed_row : (h : Index → ℕ → ℕ) (k : ℕ) (xs ys row : List ℕ) (a b c : ℕ) → HasRows h k xs → ys ≡ xs ++ row → row ≡ a ∷ b ∷ c ∷ []
    → a ≡ h Zero (k + 1) → b ≡ h One (k + 1) → c ≡ h Two (k + 1) → HasRows h (k + 1) ys
pushed_row h k xs ys row a b c rows more is ea eb ec =
    let one_by_one : ((xs ++ a ∷ []) ++ b ∷ []) ++ c ∷ [] ≡ xs ++ a ∷ b ∷ c ∷ [] =
    ap (λ zs. zs ++ c ∷ []) (append_assoc xs (a ∷ []) (b ∷ [])) ∙ append_assoc xs (a ∷ b ∷ []) (c ∷ []) in
    subst (HasRows h (k + 1)) (one_by_one ∙ sym (more ∙ ap (λ zs. xs ++ zs) is)) (more_rows h k xs a b c rows ea eb ec)
