-- Sheets whose shifts are undone by the way back, and add up to whole rounds by as many turns as the degree, are a symbol.
use Rattle.std.proofs.Common.{◌≡◌, ℕ, zero, suc, ◌+◌, ◌-◌, ◌*◌, ◌%◌, ◌/◌, ◌<◌, ◌≤◌, List, [], ◌∷◌, ◌++◌, length, get_or, map, refl, sym, ap, ◌∙◌, subst, ⊎_elim, arith}
use Rattle.std.proofs.Math.Nat.{add-mul-mod_self_right, mod-add-div'}
use Rattle.std.proofs.lemmas.Bool.{cases_lt}
use Rattle.std.proofs.lemmas.List.{get_or_append_left, get_or-append_right, length-map, length-append}
use Rattle.std.proofs.lemmas.Nat.{mod_below}
use Rattle.std.specs.List.{flat_map}
use Rattle.dd_model.specs.declared.index.Index.{Index}
use Rattle.dd_model.specs.declared.index.Index.TheVariants.{Zero, One, Two}
use Rattle.dd_model.specs.declared.pair.Pair.{Pair}
use Rattle.dd_model.specs.declared.pair.Pair.TheVariants.{Tile, Vertex, Edge}
use Rattle.dd_model.specs.Symbol.{Symbol, AreInvolutions, IsChamber, IsTable, IsSymbol, HasDegree, Word, item, operation, op, act, power, turn, first, second, degree}
use Rattle.dd_model.specs.Code.{chambers, count_from}
use Rattle.dd_model.specs.Isomorphic.{IsMorphism}
use Rattle.dd_model.proofs.CountFrom.{length-count_from, item-count_from, item-map-count_from}
use Rattle.dd_model.proofs.Numbers.{positive_product}
use Rattle.dd_cells.proofs.ColoringLemmas.{by_index}
use Rattle.dd_covers.specs.TorusCover.{sum_along}
use Rattle.dd_covers.specs.Sheets.{all_sheets, alike, image_in, sheet_images, sheets_of, below_sheets, all_images_in}

-- ## Numbers

pub mod_sum : (a b k : ℕ) → (a % k + b) % k ≡ (a + b) % k
mod_sum a b k =
    let split : a % k + a / k * k ≡ a = mod-add-div' a k in
    let e : a % k + b + a / k * k ≡ a + b = omega arith in
    sym (add-mul-mod_self_right (a % k + b) (a / k) k) ∙ ap (λ z. z % k) e

pub mod_same : (a k : ℕ) → a < k → a % k ≡ a
mod_same a k below = grind arith

-- whole rounds lead back
pub mod_round : (a z k : ℕ) → a < k → z % k ≡ 0 → (a + z) % k ≡ a
mod_round a z k below whole =
    let e : z + a ≡ a + z = omega arith in
    let none : 0 + a ≡ a = omega arith in
    ap (λ y. y % k) (sym e) ∙ sym (mod_sum z a k) ∙ ap (λ y. (y + a) % k) whole ∙ ap (λ y. y % k) none ∙ mod_same a k below

sheet_end : (a k n : ℕ) → a < k → a * n + n ≤ k * n
sheet_end a k n below = grind arith

-- ## Chambers of sheets

pub chamber_in : (s : Symbol) (k d a : ℕ) → IsChamber s d → a < k → (1 ≤ d + a * s.size) × (d + a * s.size ≤ k * s.size)
chamber_in s k d a h below = let end = sheet_end a k s.size below in (omega (arith, h.0), omega (arith, h.1, end))

-- a chamber of k sheets, as one of a sheet
pub record HasPlace (s : Symbol) (k e : ℕ) : Type 0 where
  pub chamber : ℕ
  pub is_chamber : IsChamber s chamber
  pub sheet : ℕ
  pub is_sheet : sheet < k
  pub place : chamber + sheet * s.size ≡ e

pub place_in : (s : Symbol) (k e : ℕ) → 1 ≤ e → e ≤ k * s.size → HasPlace s k e
place_in s zero e low high = absurd (omega arith)
place_in s (suc k) e low high =
    ⊎_elim
    (λ here. record { chamber = e; is_chamber = (low, omega arith); sheet = 0; is_sheet = omega arith; place = omega arith })
    (λ above.
    let p = place_in s k (e - s.size) (omega arith) (omega arith) in
    let there = p.place in
    let sheet = p.is_sheet in
    record { chamber = p.chamber; is_chamber = p.is_chamber; sheet = suc p.sheet; is_sheet = omega arith; place = omega arith })
    (cases_lt e (suc s.size))

-- ## Lists of sheets

length-from : (n : ℕ) (f : ℕ → List ℕ) → ((a : ℕ) → length (f a) ≡ n) → (j k : ℕ) → length (flat_map f (count_from j k)) ≡ k * n
length-from n f each j zero = omega arith
length-from n f each j (suc k) =
    let e = length-append (f j) (flat_map f (count_from (j + 1) k)) in
    let here = each j in
    let rest = length-from n f each (j + 1) k in
    omega arith

item-from : (n : ℕ) (f : ℕ → List ℕ) → ((a : ℕ) → length (f a) ≡ n) → (j k a d : ℕ) → a < k → 1 ≤ d → d ≤ n
    → item (flat_map f (count_from j k)) (d + a * n) ≡ item (f (j + a)) d
item-from n f each j zero a d below low high = absurd (omega arith)
item-from n f each j (suc k) zero d below low high =
    let size = each j in
    let e : d + 0 * n ≡ d = omega arith in
    let same : j + 0 ≡ j = omega arith in
    ap (item (f j ++ flat_map f (count_from (j + 1) k))) e
    ∙ get_or_append_left (f j) (flat_map f (count_from (j + 1) k)) 0 (d - 1) (omega arith)
    ∙ ap (λ i. item (f i) d) (sym same)
item-from n f each j (suc k) (suc a) d below low high =
    let size = each j in
    let e : d + suc a * n - 1 - n ≡ d + a * n - 1 = omega arith in
    let same : j + 1 + a ≡ j + suc a = omega arith in
    get_or-append_right (f j) (flat_map f (count_from (j + 1) k)) n (d + suc a * n - 1) 0 size (omega arith)
    ∙ ap (λ i. get_or (flat_map f (count_from (j + 1) k)) i 0) e
    ∙ item-from n f each (j + 1) k a d (omega arith) low high
    ∙ ap (λ i. item (f i) d) same

pub length-sheets : (n k : ℕ) (f : ℕ → List ℕ) → ((a : ℕ) → length (f a) ≡ n) → length (all_sheets k f) ≡ k * n
length-sheets n k f each = length-from n f each 0 k

pub item-sheets : (n k : ℕ) (f : ℕ → List ℕ) → ((a : ℕ) → length (f a) ≡ n) → (a d : ℕ) → a < k → 1 ≤ d → d ≤ n
    → item (all_sheets k f) (d + a * n) ≡ item (f a) d
item-sheets n k f each a d below low high =
    let none : 0 + a ≡ a = omega arith in
    item-from n f each 0 k a d below low high ∙ ap (λ b. item (f b) d) none

-- ## Images, degrees and words

length-images : (s : Symbol) (k : ℕ) (x : ℕ → ℕ) (i : Index) (a : ℕ) → length (sheet_images s k x i a) ≡ s.size
length-images s k x i a = length-map (chambers s) (image_in s k x i a) ∙ length-count_from 1 s.size

op_of_images : (s : Symbol) (k : ℕ) (x : ℕ → ℕ) (i : Index) (d a : ℕ) → IsChamber s d → a < k
    → item (all_sheets k (sheet_images s k x i)) (d + a * s.size) ≡ op s i d + (a + x d) % k * s.size
op_of_images s k x i d a h below =
    item-sheets s.size k (sheet_images s k x i) (length-images s k x i) a d below h.0 h.1
    ∙ item-map-count_from (image_in s k x i a) s.size d h.0 h.1

pub op_in : (s : Symbol) (k : ℕ) (x : Index → ℕ → ℕ) (i : Index) (d a : ℕ) → IsChamber s d → a < k
    → op (sheets_of s k x) i (d + a * s.size) ≡ op s i d + (a + x i d) % k * s.size
op_in s k x i d a h below =
    by_index (λ j. op (sheets_of s k x) j (d + a * s.size) ≡ op s j d + (a + x j d) % k * s.size)
    (op_of_images s k (x Zero) Zero d a h below) (op_of_images s k (x One) One d a h below) (op_of_images s k (x Two) Two d a h below) i

pub degree_in : (s : Symbol) → IsTable s → (k : ℕ) (x : Index → ℕ → ℕ) (p : Pair) (d a : ℕ) → IsChamber s d → a < k
    → degree (sheets_of s k x) p (d + a * s.size) ≡ degree s p d
degree_in s table k x Tile d a h below = item-sheets s.size k (alike s.m01) (λ b. table.m01_length) a d below h.0 h.1
degree_in s table k x Vertex d a h below = item-sheets s.size k (alike s.m12) (λ b. table.m12_length) a d below h.0 h.1
degree_in s table k x Edge d a h below = refl

pub below_in : (s : Symbol) (k d a : ℕ) → IsChamber s d → a < k → item (below_sheets s k) (d + a * s.size) ≡ d
below_in s k d a h below =
    item-sheets s.size k (alike (chambers s)) (λ b. length-count_from 1 s.size) a d below h.0 h.1 ∙ item-count_from s.size d h.0 h.1

pub sheet_below : (a x k : ℕ) → a < k → (a + x) % k < k
sheet_below a x k below = mod_below (a + x) k (omega arith)

pub act_in : (s : Symbol) → AreInvolutions s → (k : ℕ) (x : Index → ℕ → ℕ) (w : Word) (d a : ℕ) → IsChamber s d → a < k
    → act (sheets_of s k x) w (d + a * s.size) ≡ act s w d + (a + sum_along s x w d) % k * s.size
act_in s inv k x [] d a h below =
    let e : a + 0 ≡ a = omega arith in
    ap (λ b. d + b * s.size) (sym (mod_same a k below) ∙ ap (λ b. b % k) (sym e))
act_in s inv k x (i ∷ w) d a h below =
    let rest = sum_along s x w (op s i d) in
    let e : a + x i d + rest ≡ a + (x i d + rest) = omega arith in
    ap (act (sheets_of s k x) w) (op_in s k x i d a h below)
    ∙ act_in s inv k x w (op s i d) ((a + x i d) % k) ((inv i).within d h) (sheet_below a (x i d) k below)
    ∙ ap (λ b. act s w (op s i d) + b * s.size) (mod_sum (a + x i d) rest k ∙ ap (λ b. b % k) e)

-- ## The symbol

-- The way back undoes a shift, and as many turns as the degree lead round whole times.
pub record AreJoining (s : Symbol) (k : ℕ) (x : Index → ℕ → ℕ) : Type 0 where
  pub some : 1 ≤ k
  pub undone : (i : Index) (d : ℕ) → IsChamber s d → (x i d + x i (op s i d)) % k ≡ 0
  pub round : (p : Pair) (d : ℕ) → IsChamber s d → sum_along s x (power (turn p) (degree s p d)) d % k ≡ 0

-- a property of the chambers of all sheets
pub in_sheets : (s : Symbol) (k : ℕ) (P : ℕ → Type 0) → ((d a : ℕ) → IsChamber s d → a < k → P (d + a * s.size)) → (e : ℕ) → 1 ≤ e → e ≤ k * s.size → P e
in_sheets s k P each e low high = let at = place_in s k e low high in subst P at.place (each at.chamber at.sheet at.is_chamber at.is_sheet)

involution_within : (s : Symbol) → AreInvolutions s → (k : ℕ) (x : Index → ℕ → ℕ) (i : Index) (d a : ℕ) → IsChamber s d → a < k
    → IsChamber (sheets_of s k x) (op (sheets_of s k x) i (d + a * s.size))
involution_within s inv k x i d a h below =
    subst (IsChamber (sheets_of s k x)) (sym (op_in s k x i d a h below))
    (chamber_in s k (op s i d) ((a + x i d) % k) ((inv i).within d h) (sheet_below a (x i d) k below))

involution_back : (s : Symbol) → AreInvolutions s → (k : ℕ) (x : Index → ℕ → ℕ) → AreJoining s k x → (i : Index) (d a : ℕ) → IsChamber s d → a < k
    → op (sheets_of s k x) i (op (sheets_of s k x) i (d + a * s.size)) ≡ d + a * s.size
involution_back s inv k x joining i d a h below =
    let t = sheets_of s k x in
    let e : a + x i d + x i (op s i d) ≡ a + (x i d + x i (op s i d)) = omega arith in
    ap (op t i) (op_in s k x i d a h below)
    ∙ op_in s k x i (op s i d) ((a + x i d) % k) ((inv i).within d h) (sheet_below a (x i d) k below)
    ∙ ap (λ c. c + ((a + x i d) % k + x i (op s i d)) % k * s.size) ((inv i).involutive d h)
    ∙ ap (λ b. d + b * s.size)
    (mod_sum (a + x i d) (x i (op s i d)) k ∙ ap (λ b. b % k) e ∙ mod_round a (x i d + x i (op s i d)) k below (joining.undone i d h))

involutions-sheets : (s : Symbol) → AreInvolutions s → (k : ℕ) (x : Index → ℕ → ℕ) → AreJoining s k x → AreInvolutions (sheets_of s k x)
involutions-sheets s inv k x joining i = record {
  within = λ e h. in_sheets s k (λ c. IsChamber (sheets_of s k x) (op (sheets_of s k x) i c)) (λ d a. involution_within s inv k x i d a) e h.0 h.1;
  involutive = λ e h. in_sheets s k (λ c. op (sheets_of s k x) i (op (sheets_of s k x) i c) ≡ c) (λ d a. involution_back s inv k x joining i d a) e h.0 h.1;
}

pub lengths-sheets : (s : Symbol) (k : ℕ) (x : Index → ℕ → ℕ) (i : Index) → length (operation (sheets_of s k x) i) ≡ k * s.size
lengths-sheets s k x i =
    by_index (λ j. length (operation (sheets_of s k x) j) ≡ k * s.size)
    (length-sheets s.size k (sheet_images s k (x Zero) Zero) (length-images s k (x Zero) Zero))
    (length-sheets s.size k (sheet_images s k (x One) One) (length-images s k (x One) One))
    (length-sheets s.size k (sheet_images s k (x Two) Two) (length-images s k (x Two) Two)) i

table-sheets : (s : Symbol) → IsTable s → (k : ℕ) (x : Index → ℕ → ℕ) → AreJoining s k x → IsTable (sheets_of s k x)
table-sheets s table k x joining = record {
  chambers = positive_product k s.size joining.some table.chambers;
  lengths = lengths-sheets s k x;
  m01_length = length-sheets s.size k (alike s.m01) (λ a. table.m01_length);
  m12_length = length-sheets s.size k (alike s.m12) (λ a. table.m12_length);
  involutions = involutions-sheets s table.involutions k x joining;
}

-- the degree is the same at the image
degree_beside : (s : Symbol) → IsSymbol s → (k : ℕ) (x : Index → ℕ → ℕ) (p : Pair) (i : Index) (d a : ℕ) → IsChamber s d → a < k
    → degree s p (op s i d) ≡ degree s p d → degree (sheets_of s k x) p (op (sheets_of s k x) i (d + a * s.size)) ≡ degree (sheets_of s k x) p (d + a * s.size)
degree_beside s is k x p i d a h below same =
    ap (degree (sheets_of s k x) p) (op_in s k x i d a h below)
    ∙ degree_in s is.table k x p (op s i d) ((a + x i d) % k) ((is.table.involutions i).within d h) (sheet_below a (x i d) k below)
    ∙ same ∙ sym (degree_in s is.table k x p d a h below)

degrees_in : (s : Symbol) → IsSymbol s → (k : ℕ) (x : Index → ℕ → ℕ) → AreJoining s k x → (p : Pair) (d a : ℕ) → IsChamber s d → a < k
    → HasDegree (sheets_of s k x) p (d + a * s.size)
degrees_in s is k x joining p d a h below =
    let t = sheets_of s k x in
    let has = is.degrees p d h in
    let e = degree_in s is.table k x p d a h below in
    let m = degree s p d in
    let turned : act t (power (turn p) m) (d + a * s.size) ≡ d + a * s.size =
    act_in s is.table.involutions k x (power (turn p) m) d a h below
    ∙ ap (λ c. c + (a + sum_along s x (power (turn p) m) d) % k * s.size) has.turns
    ∙ ap (λ b. d + b * s.size) (mod_round a (sum_along s x (power (turn p) m) d) k below (joining.round p d h)) in
    record {
      positive = subst (λ n. 1 ≤ n) (sym e) has.positive;
      along_first = degree_beside s is k x p (first p) d a h below has.along_first;
      along_second = degree_beside s is k x p (second p) d a h below has.along_second;
      turns = subst (λ n. act t (power (turn p) n) (d + a * s.size) ≡ d + a * s.size) (sym e) turned;
    }

pub symbol-sheets : (s : Symbol) → IsSymbol s → (k : ℕ) (x : Index → ℕ → ℕ) → AreJoining s k x → IsSymbol (sheets_of s k x)
symbol-sheets s is k x joining = record {
  table = table-sheets s is.table k x joining;
  degrees = λ p e h. in_sheets s k (HasDegree (sheets_of s k x) p) (λ d a. degrees_in s is k x joining p d a) e h.0 h.1;
}

-- the chambers below are those of a morphism
pub morphism-sheets : (s : Symbol) → IsSymbol s → (k : ℕ) (x : Index → ℕ → ℕ) → IsMorphism (sheets_of s k x) s (below_sheets s k)
morphism-sheets s is k x =
    let t = sheets_of s k x in
    let f = below_sheets s k in
    record {
      images = length-sheets s.size k (alike (chambers s)) (λ b. length-count_from 1 s.size);
      within = λ e h. in_sheets s k (λ c. IsChamber s (item f c)) (λ d a here below. subst (IsChamber s) (sym (below_in s k d a here below)) here) e h.0 h.1;
      op = λ i e h. in_sheets s k (λ c. item f (op t i c) ≡ op s i (item f c))
          (λ d a here below. ap (item f) (op_in s k x i d a here below)
          ∙ below_in s k (op s i d) ((a + x i d) % k) ((is.table.involutions i).within d here) (sheet_below a (x i d) k below)
          ∙ ap (op s i) (sym (below_in s k d a here below))) e h.0 h.1;
      m01 = λ e h. in_sheets s k (λ c. item s.m01 (item f c) ≡ item t.m01 c)
          (λ d a here below. ap (item s.m01) (below_in s k d a here below) ∙ sym (degree_in s is.table k x Tile d a here below)) e h.0 h.1;
      m12 = λ e h. in_sheets s k (λ c. item s.m12 (item f c) ≡ item t.m12 c)
          (λ d a here below. ap (item s.m12) (below_in s k d a here below) ∙ sym (degree_in s is.table k x Vertex d a here below)) e h.0 h.1;
    }

-- ## Equal shifts

map_same : (f g : ℕ → ℕ) (j n : ℕ) → ((d : ℕ) → j ≤ d → d < j + n → f d ≡ g d) → map f (count_from j n) ≡ map g (count_from j n)
map_same f g j zero same = refl
map_same f g j (suc n) same =
    let rest = map_same f g (j + 1) n (λ d low high. same d (omega arith) (omega arith)) in
    let here = same j (omega arith) (omega arith) in
    λ i. here i ∷ rest i

sheets_same : (f g : ℕ → List ℕ) → ((a : ℕ) → f a ≡ g a) → (xs : List ℕ) → flat_map f xs ≡ flat_map g xs
sheets_same f g same xs = ap (λ (h : ℕ → List ℕ). flat_map h xs) (λ i a. same a i)

images_same : (s : Symbol) (k : ℕ) (x y : ℕ → ℕ) → ((d : ℕ) → IsChamber s d → x d ≡ y d) → (i : Index) → all_images_in s k x i ≡ all_images_in s k y i
images_same s k x y same i =
    sheets_same (sheet_images s k x i) (sheet_images s k y i)
    (λ a. map_same (image_in s k x i a) (image_in s k y i a) 1 s.size
    (λ d low high. ap (λ z. op s i d + (a + z) % k * s.size) (same d (low, omega arith))))
    (count_from 0 k)

-- Shifts that are equal at all chambers make one symbol.
pub shifts_same : (s : Symbol) (k : ℕ) (x y : Index → ℕ → ℕ) → ((i : Index) (d : ℕ) → IsChamber s d → x i d ≡ y i d) → sheets_of s k x ≡ sheets_of s k y
shifts_same s k x y same =
    let a = images_same s k (x Zero) (y Zero) (same Zero) Zero in
    let b = images_same s k (x One) (y One) (same One) One in
    let c = images_same s k (x Two) (y Two) (same Two) Two in
    λ i. record { size = k * s.size; s0 = a i; s1 = b i; s2 = c i; m01 = all_sheets k (alike s.m01); m12 = all_sheets k (alike s.m12) }
