-- How a list of degrees is laid on the cells.
use Rattle.std.proofs.Common.{◌≡◌, ℕ, zero, suc, ◌+◌, ◌-◌, ◌<◌, ◌≤◌, List, [], ◌∷◌, length, get_or, set, take, drop, refl, sym, ap, ◌∙◌, subst, ⊎_elim, arith}
use Rattle.std.specs.Prelude.{map, Result, Ok, Err, IfOk, Vec}
use Rattle.std.specs.Global.{Global}
use Rattle.dd_text.specs.declared.faults.Fault.{Fault}
use Rattle.std.specs.List.Sorted.{IsStrictlyIncreasing}
use Rattle.std.proofs.lemmas.Bool.{cases_lt}
use Rattle.std.proofs.lemmas.List.{get_or-set_same, get_or-set_other, length-set, get_or-map, get_or_read, ext_get_or}
use Rattle.std.proofs.lemmas.List.Elements.{Contains-get_or}
use Rattle.std.proofs.lemmas.List.Kept.{AllPairs-from_increasing}
use Rattle.dd_model.specs.declared.pair.Pair.{Pair}
use Rattle.dd_model.specs.declared.tokens.Numeral.{Numeral}
use Rattle.dd_model.specs.Symbol.{Symbol, AreInvolutions, item}
use Rattle.dd_model.specs.Cell.{IsLeastOfCell, AreCells}
use Rattle.dd_model.specs.Spelling.{Told, values}
use Rattle.dd_model.proofs.CellWalks.{in_cell-trans}
use Rattle.dd_model.proofs.Transport.{in_cell_within}
use Rattle.dd_symbol.specs.Cells.{IsLeastFor, AreLeast}
use Rattle.dd_symbol.proofs.CellMarks.{own_least, least_for_unique}
use Rattle.dd_text.specs.ToldImages.{numbers_of}
use Rattle.dd_text.specs.ListFaults.{IsBeyondCells}
use Rattle.dd_text.specs.Images.{AreDegrees, IsWithin}
use Rattle.dd_text.proofs.ListSteps.{cut_at}

abbrev at_index : List Numeral → ℕ → Numeral
at_index xs i = get_or xs i (record { at = 0; value = 0 })

-- the first k numbers stand at the first k chambers
pub record AreAtCells (n k : ℕ) (cells : List ℕ) (numbers : List Numeral) (told : List ℕ) : Type 0 where
  pub length_is : length told ≡ n
  pub told_is : (j : ℕ) → j < k → item told (get_or cells j 0) ≡ (at_index numbers j).value

pub one_at_cells : (n k : ℕ) (cells : List ℕ) (numbers : List Numeral) (told : List ℕ) → IsStrictlyIncreasing cells
    → ((j : ℕ) → j < length cells → IsWithin n (get_or cells j 0)) → k < length cells → AreAtCells n k cells numbers told
    → AreAtCells n (k + 1) cells numbers (set told (get_or cells k 0 - 1) (at_index numbers k).value)
one_at_cells n k cells numbers told up within h a =
    let here = within k h in
    let len = a.length_is in
    record {
      length_is = length-set told (get_or cells k 0 - 1) (at_index numbers k).value ∙ a.length_is;
      told_is = λ j high. ⊎_elim
          (λ early.
          let there = within j (omega arith) in
          let below : get_or cells j 0 < get_or cells k 0 = AllPairs-from_increasing cells up j k 0 early h in
          get_or-set_other told (get_or cells k 0 - 1) (get_or cells j 0 - 1) (at_index numbers k).value 0 (λ same. let p = here.0 in let q = there.0 in absurd (omega arith)) ∙ a.told_is j early)
          (λ late. let e : k ≡ j = omega arith in
          subst (λ z. item (set told (get_or cells k 0 - 1) (at_index numbers k).value) (get_or cells z 0) ≡ (at_index numbers z).value) e
          (get_or-set_same told (get_or cells k 0 - 1) (at_index numbers k).value 0 (let p = here.0 in let q = here.1 in omega arith)))
          (cases_lt j k);
    }

pub length-numbers_of : (xs : List Numeral) → length (numbers_of xs) ≡ length xs
length-numbers_of [] = refl
length-numbers_of (x ∷ xs) = ap suc (length-numbers_of xs)

numbers_of-at : (xs : List Numeral) (i : ℕ) → i < length xs → get_or (numbers_of xs) i 0 ≡ (at_index xs i).value
numbers_of-at [] i h = absurd (omega arith)
numbers_of-at (x ∷ xs) zero h = refl
numbers_of-at (x ∷ xs) (suc i) h = numbers_of-at xs i (omega arith)

pub length-mapped : (f : ℕ → ℕ) (xs : List ℕ) → length (map f xs) ≡ length xs
length-mapped f [] = refl
length-mapped f (x ∷ xs) = ap suc (length-mapped f xs)

pub all_at_cells : (n k : ℕ) (cells : List ℕ) (numbers : List Numeral) (told : List ℕ) → length numbers ≡ length cells → length cells ≤ k → AreAtCells n k cells numbers told
    → map (item told) cells ≡ numbers_of numbers
all_at_cells n k cells numbers told same past a =
    let l = length-mapped (item told) cells in
    let m = length-numbers_of numbers in
    ext_get_or 0 (map (item told) cells) (numbers_of numbers) (omega arith)
    (λ j h. get_or-map (item told) cells j 0 0 (omega arith) ∙ a.told_is j (omega arith) ∙ sym (numbers_of-at numbers j (omega arith)))

-- ---- what is spread

spread_at : (n : ℕ) (told least : List ℕ) → length least ≡ n → (d : ℕ) → (1 ≤ d) × (d ≤ n) → item (map (item told) least) d ≡ item told (item least d)
spread_at n told least len d h = get_or-map (item told) least (d - 1) 0 0 (let a = h.0 in let b = h.1 in omega arith)

pub chamber_of_cell : (s : Symbol) (p : Pair) (cells : List ℕ) → AreCells s p cells → (k : ℕ) → k < length cells → IsLeastOfCell s p (get_or cells k 0)
chamber_of_cell s p cells are k h = (are.members (get_or cells k 0)).0 (Contains-get_or cells k 0 h)

map_same : (f g : ℕ → ℕ) (cells : List ℕ) → ((k : ℕ) → k < length cells → f (get_or cells k 0) ≡ g (get_or cells k 0)) → map f cells ≡ map g cells
map_same f g [] same = refl
map_same f g (x ∷ xs) same = ap (λ z. z ∷ map f xs) (same 0 (omega arith)) ∙ ap (λ zs. g x ∷ zs) (map_same f g xs (λ k h. same (suc k) (omega arith)))

pub are_degrees : (s : Symbol) → AreInvolutions s → (p : Pair) (values least cells told : List ℕ) → AreLeast s p least → AreCells s p cells
    → map (item told) cells ≡ values → AreDegrees s p values (map (item told) least)
are_degrees s inv p values least cells told is are at = record {
  length_is = length-mapped (item told) least ∙ is.whole;
  cells = cells;
  are_cells = are;
  at_cells = map_same (item (map (item told) least)) (item told) cells
      (λ k h.
      let l = chamber_of_cell s p cells are k h in
      let own = own_least s inv p (get_or cells k 0) (item least (get_or cells k 0)) (is.each (get_or cells k 0) l.0) l in
      spread_at s.size told least is.whole (get_or cells k 0) l.0 ∙ ap (item told) own) ∙ at;
  same = λ d e h there.
      let he = in_cell_within s inv p d e h there in
      let far = is.each e he in
      let least_d : IsLeastFor s p d (item least e) = record { in_cell = in_cell-trans s p d e (item least e) there far.in_cell; is_least = far.is_least } in
      let one = least_for_unique s inv p d (item least d) (item least e) h (is.each d h) least_d in
      spread_at s.size told least is.whole d h ∙ ap (item told) one ∙ sym (spread_at s.size told least is.whole e he);
}

length-take : (xs : List Numeral) (i : ℕ) → i ≤ length xs → length (take i xs) ≡ i
length-take [] zero h = refl
length-take [] (suc i) h = absurd (omega arith)
length-take (x ∷ xs) zero h = refl
length-take (x ∷ xs) (suc i) h = ap suc (length-take xs i (omega arith))

pub beyond_cells : (s : Symbol) (p : Pair) (l : Told) (cells : List ℕ) → AreCells s p cells → length cells < length l.numbers → IsBeyondCells s p l (at_index l.numbers (length cells)).at
beyond_cells s p l cells are long = record {
  cells = cells;
  are_cells = are;
  before = take (length cells) l.numbers;
  number = at_index l.numbers (length cells);
  after = drop (suc (length cells)) l.numbers;
  numbers = cut_at l.numbers (length cells) (record { at = 0; value = 0 }) long;
  enough = length-take l.numbers (length cells) (omega arith);
  place = refl;
}

-- the least chambers of cells are chambers
pub within_cells : (s : Symbol) (p : Pair) (cells : List ℕ) → AreCells s p cells → (k : ℕ) → k < length cells → IsWithin s.size (get_or cells k 0)
within_cells s p cells are k h = (chamber_of_cell s p cells are k h).0

pub within_least : (s : Symbol) (p : Pair) (least : List ℕ) → AreLeast s p least → (k : ℕ) → k < length least → IsWithin s.size (get_or least k 0)
within_least s p least is k h =
    let len = is.whole in
    let e : k + 1 - 1 ≡ k = omega arith in
    let far = is.each (k + 1) (omega arith, omega arith) in
    subst (λ z. IsWithin s.size (get_or least z 0)) e far.is_least.0

pub degrees_if : (s : Symbol) (p : Pair) (values m : List ℕ) (r : Result (Vec ℕ Global) Fault) → AreDegrees s p values m → IfOk r (λ v. v.items ≡ m) → IfOk r (λ v. AreDegrees s p values v.items)
degrees_if s p values m (Ok v) a e = subst (AreDegrees s p values) (sym e) a
degrees_if s p values m (Err f) a e = tt

pub beyond_at : (s : Symbol) (p : Pair) (l : Told) (cells : List ℕ) (n : ℕ) (x : Numeral) → AreCells s p cells → n ≡ length cells → n < length l.numbers
    → x ≡ get_or l.numbers n x → IsBeyondCells s p l x.at
beyond_at s p l cells n x are same long read =
    let number : x ≡ at_index l.numbers (length cells) = get_or_read l.numbers n x long read (record { at = 0; value = 0 }) ∙ ap (at_index l.numbers) same in
    subst (λ (z : Numeral). IsBeyondCells s p l z.at) (sym number) (beyond_cells s p l cells are (subst (λ z. z < length l.numbers) same long))
