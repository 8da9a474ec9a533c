-- The rows of a table as the code reads them.
use Rattle.std.proofs.Common.{◌≡◌, ◌≢◌, ℕ, zero, suc, ◌+◌, ◌<◌, ◌≤◌, List, [], ◌∷◌, ◌++◌, length, get_or, set, Vec, Result, Ok, Err, IfErr, inr, refl, sym, ap, ◌∙◌, subst, add-one, arith}
use Rattle.std.specs.Global.{Global}
use Rattle.std.specs.Result.{IsErrAnd}
use Rattle.std.proofs.lemmas.List.{length-map, get_or-map, map-set, map_push}
use Rattle.dd_cells.specs.declared.fractions.Fraction.{Fraction}
use Rattle.dd_lattice.specs.Nets.{IsConnectedNet}
use Rattle.dd_lattice.specs.declared.net.Net.{Net}
use Rattle.dd_draw.proofs.TableLemmas.{own_row, other_row, other_not_wide, AreWideRemainders}
use Rattle.dd_draw.proofs.StepLemmas.{IsBegun, first_row_of, first_fault, begun_more, midway_first, midway_more, own_fault, other_fault}
use Rattle.dd_draw.specs.Elimination.{whole, first_entry}
use Rattle.dd_draw.specs.Limit.{IsWide}
use Rattle.dd_draw.specs.Rows.{AreMade, IsFirstColumn, IsRowFault, number_at, quotients, remainders}
use Rattle.dd_draw.specs.Tables.{IsRowOf, IsTable, IsMidway, IsPlaceFault, items_of, lists, row_at, place_at}
use Rattle.dd_draw.specs.Width.{IsFirstWide}
use Rattle.dd_draw.specs.declared.place_fault.PlaceFault.{PlaceFault}
use Rattle.dd_draw.specs.declared.place_fault.PlaceFault.TheVariants.{TooManyVertices, TooWide, Memory}

pub handed_on : {A : Type 0} (r : Result A PlaceFault) (P : PlaceFault → Type 0) (why : PlaceFault) → IsErrAnd r (λ y. y ≡ why) → P why → IfErr r P
handed_on (Ok x) P why is holds = absurd is
handed_on (Err y) P why is holds = subst P (sym is) holds

-- a row that was read is the row at its place
read_row : (rows : List (Vec Fraction Global)) (k : ℕ) (row : Vec Fraction Global) (xs : List Fraction) → row ≡ get_or rows k row → xs ≡ row.items → k < length rows
    → row_at (lists rows) k ≡ xs
read_row rows k row xs e f l = get_or-map items_of rows k row [] l ∙ ap items_of (sym e) ∙ sym f

pub rows_count : (rows : List (Vec Fraction Global)) (n k : ℕ) → suc (length (lists rows)) ≡ n → suc k < n → k < length rows
rows_count rows n k e l = let m = length-map rows items_of in omega arith

pub column_inside : (net : Net) (k i n : ℕ) (xs : List Fraction) → n < net.vertices → IsRowOf net k i xs → n < length xs
column_inside net k i n xs low is = let m = is.many in omega arith

pub few_numbers : (net : Net) (k i : ℕ) (xs : List Fraction) → net.vertices ≤ 96 → IsRowOf net k i xs → length xs ≤ 97
few_numbers net k i xs low is = let m = is.many in omega arith

-- ## The row of the step

pub pivot_row : (net : Net) (k : ℕ) (rows : List (Vec Fraction Global)) (row : Vec Fraction Global) (xs : List Fraction) → suc k < net.vertices
    → IsTable net k (lists rows) → row ≡ get_or rows k row → xs ≡ row.items → IsRowOf net k (suc k) xs
pivot_row net k rows row xs low t e f =
    let l = rows_count rows net.vertices k t.many low in
    subst (IsRowOf net k (suc k)) (read_row rows k row xs e f l) (t.each k (let m = length-map rows items_of in omega arith))

own_stop_at : (net : Net) (k : ℕ) (rows : List (List Fraction)) (why : PlaceFault) → IsConnectedNet net → net.vertices ≤ 96 → suc k < net.vertices → IsTable net k rows
    → IsRowFault (k + 1) (k + 1) (length (row_at rows k)) (λ j. IsWide (quotients (row_at rows k) (number_at (row_at rows k) k) j)) why → IsPlaceFault net why
own_stop_at net k rows (TooManyVertices count) connected few low t h = absurd h
own_stop_at net k rows (TooWide s r c) connected few low t h = (
  few,
  subst (λ m. IsFirstWide net (place_at m r c)) (sym (h.0 ∙ add-one k))
      (subst (λ m. IsFirstWide net (place_at (suc k) m c)) (sym (h.1 ∙ add-one k)) (own_fault net k c rows connected low t h.2)),
)
own_stop_at net k rows Memory connected few low t h = tt

pub own_stop : (net : Net) (k : ℕ) (rows : List (Vec Fraction Global)) (row : Vec Fraction Global) (xs : List Fraction) (why : PlaceFault) → IsConnectedNet net
    → net.vertices ≤ 96 → suc k < net.vertices → IsTable net k (lists rows) → row ≡ get_or rows k row → xs ≡ row.items
    → IsRowFault (k + 1) (k + 1) (length xs) (λ j. IsWide (quotients xs (number_at xs k) j)) why → IsPlaceFault net why
own_stop net k rows row xs why connected few low t e f h =
    own_stop_at net k (lists rows) why connected few low t
    (subst (λ ys. IsRowFault (k + 1) (k + 1) (length ys) (λ j. IsWide (quotients ys (number_at ys k) j)) why)
    (sym (read_row rows k row xs e f (rows_count rows net.vertices k t.many low))) h)

pub own_done : (net : Net) (k : ℕ) (rows : List (Vec Fraction Global)) (row new : Vec Fraction Global) (xs : List Fraction) → IsConnectedNet net
    → suc k < net.vertices → IsTable net k (lists rows) → row ≡ get_or rows k row → xs ≡ row.items
    → AreMade (quotients xs (number_at xs k)) (λ j. IsWide (quotients xs (number_at xs k) j)) (length xs) new.items → IsMidway net k 0 (lists (set rows k new))
own_done net k rows row new xs connected low t e f made =
    subst (IsMidway net k 0) (sym (map-set items_of rows k new))
    (midway_first net k (lists rows) new.items connected low t (own_row net k xs new.items connected low (pivot_row net k rows row xs low t e f) made))

-- ## The other rows

pub left_row : (net : Net) (k m : ℕ) (rows : List (Vec Fraction Global)) (row : Vec Fraction Global) (xs : List Fraction) → suc m < net.vertices → m ≢ k
    → IsMidway net k m (lists rows) → row ≡ get_or rows m row → xs ≡ row.items → IsRowOf net k (suc m) xs
left_row net k m rows row xs low other h e f =
    let l = rows_count rows net.vertices m h.many low in
    subst (IsRowOf net k (suc m)) (read_row rows m row xs e f l) (h.left m (let n = length-map rows items_of in omega arith) (omega arith) other)

pub done_row : (net : Net) (k m : ℕ) (rows : List (Vec Fraction Global)) (row : Vec Fraction Global) (xs : List Fraction) → suc k < net.vertices
    → IsMidway net k m (lists rows) → row ≡ get_or rows k row → xs ≡ row.items → IsRowOf net (suc k) (suc k) xs
done_row net k m rows row xs low h e f =
    let l = rows_count rows net.vertices k h.many low in
    subst (IsRowOf net (suc k) (suc k)) (read_row rows k row xs e f l) (h.done k (let n = length-map rows items_of in omega arith) (inr refl))

other_stop_at : (net : Net) (k m : ℕ) (rows : List (List Fraction)) (xs ys : List Fraction) (why : PlaceFault) → IsConnectedNet net → net.vertices ≤ 96
    → suc k < net.vertices → suc m < net.vertices → m ≢ k → IsMidway net k m rows → row_at rows m ≡ xs → row_at rows k ≡ ys
    → IsRowFault (k + 1) (m + 1) (length xs) (AreWideRemainders xs (number_at xs k) ys) why → IsPlaceFault net why
other_stop_at net k m rows xs ys (TooManyVertices count) connected few low inside other h e f fault = absurd fault
other_stop_at net k m rows xs ys (TooWide s r c) connected few low inside other h e f fault = (
  few,
  subst (λ n. IsFirstWide net (place_at n r c)) (sym (fault.0 ∙ add-one k))
      (subst (λ n. IsFirstWide net (place_at (suc k) n c)) (sym (fault.1 ∙ add-one m))
      (other_fault net k m c rows connected low other (let n = h.many in omega arith) h at)),
)
  where
    at : IsFirstColumn (length (row_at rows m)) (AreWideRemainders (row_at rows m) (number_at (row_at rows m) k) (row_at rows k)) c
    at = subst (λ zs. IsFirstColumn (length zs) (AreWideRemainders zs (number_at zs k) (row_at rows k)) c) (sym e)
        (subst (λ zs. IsFirstColumn (length xs) (AreWideRemainders xs (number_at xs k) zs) c) (sym f) fault.2)
other_stop_at net k m rows xs ys Memory connected few low inside other h e f fault = tt

pub other_stop : (net : Net) (k m : ℕ) (rows : List (Vec Fraction Global)) (row top : Vec Fraction Global) (xs ys : List Fraction) (why : PlaceFault) → IsConnectedNet net
    → net.vertices ≤ 96 → suc k < net.vertices → suc m < net.vertices → m ≢ k → IsMidway net k m (lists rows) → row ≡ get_or rows m row → xs ≡ row.items
    → top ≡ get_or rows k top → ys ≡ top.items → IsRowFault (k + 1) (m + 1) (length xs) (AreWideRemainders xs (number_at xs k) ys) why → IsPlaceFault net why
other_stop net k m rows row top xs ys why connected few low inside other h e f e' f' fault =
    other_stop_at net k m (lists rows) xs ys why connected few low inside other h
    (read_row rows m row xs e f (rows_count rows net.vertices m h.many inside)) (read_row rows k top ys e' f' (rows_count rows net.vertices k h.many low)) fault

pub other_done : (net : Net) (k m : ℕ) (rows : List (Vec Fraction Global)) (row top new : Vec Fraction Global) (xs ys : List Fraction) → IsConnectedNet net
    → suc k < net.vertices → suc m < net.vertices → m ≢ k → IsMidway net k m (lists rows) → row ≡ get_or rows m row → xs ≡ row.items
    → top ≡ get_or rows k top → ys ≡ top.items
    → AreMade (remainders xs (number_at xs k) ys) (AreWideRemainders xs (number_at xs k) ys) (length xs) new.items → IsMidway net k (m + 1) (lists (set rows m new))
other_done net k m rows row top new xs ys connected low inside other h e f e' f' made =
    let is = left_row net k m rows row xs inside other h e f in
    let above = done_row net k m rows top ys low h e' f' in
    let away : suc m ≢ suc k = λ s. other (omega arith) in
    subst (IsMidway net k (m + 1)) (sym (map-set items_of rows m new))
    (midway_more net k m (lists rows) new.items other (let n = h.many in omega arith) h (other_row net k (suc m) xs ys new.items connected low away is above made)
    (λ j l. other_not_wide net k (suc m) j xs ys connected low away is above l (let n = is.many in made.none_wide j (omega arith))))

-- ## The first table

pub begun_row : (net : Net) (n : ℕ) (rows rows' : List (Vec Fraction Global)) (new : Vec Fraction Global) → rows' ≡ rows ++ new ∷ [] → IsBegun net n (lists rows)
    → AreMade (λ j. whole (first_entry net (n + 1) (suc j))) (λ j. IsWide (whole (first_entry net (n + 1) (suc j)))) (net.vertices + 1) new.items
    → IsBegun net (n + 1) (lists rows')
begun_row net n rows rows' new e begun made =
    begun_more net n (lists rows) (lists rows') new.items (ap lists e ∙ map_push items_of rows new) begun
    (subst (λ i. IsRowOf net zero i new.items) (add-one n) (first_row_of net (n + 1) new.items made))

pub first_stop : (net : Net) (n : ℕ) (rows : List (Vec Fraction Global)) (why : PlaceFault) → IsConnectedNet net → net.vertices ≤ 96 → suc n < net.vertices
    → IsBegun net n (lists rows) → IsRowFault 0 (n + 1) (net.vertices + 1) (λ j. IsWide (whole (first_entry net (n + 1) (suc j)))) why → IsPlaceFault net why
first_stop net n rows (TooManyVertices count) connected few low begun h = absurd h
first_stop net n rows (TooWide s r c) connected few low begun h = (
  few,
  subst (λ m. IsFirstWide net (place_at m r c)) (sym h.0) (subst (λ m. IsFirstWide net (place_at zero m c)) (sym (h.1 ∙ add-one n))
      (first_fault net n c (lists rows) connected low begun
      (subst (λ m. IsFirstColumn (net.vertices + 1) (λ j. IsWide (whole (first_entry net m (suc j)))) c) (add-one n) h.2))),
)
first_stop net n rows Memory connected few low begun h = tt

-- ## Rows of a slice

pub slice_row : (rows : List (Vec Fraction Global)) (n k : ℕ) (row : Vec Fraction Global) (xs : List Fraction)
    → ((i : ℕ) → i < length rows → length (row_at (lists rows) i) ≡ n) → k < length rows → row ≡ get_or rows k row → xs ≡ row.items
    → (row_at (lists rows) k ≡ xs) × (length xs ≡ n)
slice_row rows n k row xs all l e f = (read_row rows k row xs e f l, ap length (sym (read_row rows k row xs e f l)) ∙ all k l)

pub rows_long : (net : Net) (k : ℕ) (rows items : List (Vec Fraction Global)) → rows ≡ items → IsTable net k (lists items)
    → (i : ℕ) → i < length rows → length (row_at (lists rows) i) ≡ net.vertices + 1
rows_long net k rows items e t i l =
    let h = subst (λ r. IsTable net k (lists r)) (sym e) t in
    (h.each i (let n = length-map rows items_of in omega arith)).many
