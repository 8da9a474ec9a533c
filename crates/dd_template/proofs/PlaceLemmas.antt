-- Where the parts of a chamber stand in the lists of the symbol that a table makes.
use Rattle.std.proofs.Common.{◌≡◌, ℕ, zero, suc, ◌+◌, ◌-◌, ◌*◌, ◌/◌, ◌%◌, ◌<◌, ◌≤◌, List, map, length, get_or, ap, ◌∙◌, arith}
use Rattle.std.proofs.Math.Nat.{mul_comm, suc-mul}
use Rattle.std.proofs.lemmas.List.{length-append, length-map, get_or-map, get_or_append_left, get_or-append-add}
use Rattle.std.proofs.lemmas.Nat.{mul-add-lt, same_from_place, div_below, div-add-mod', mod_below}
use Rattle.std.specs.List.{flat_map}
use Rattle.dd_model.specs.declared.index.Index.{Index}
use Rattle.dd_model.specs.declared.index.Index.TheVariants.{Zero, One, Two}
use Rattle.dd_model.specs.Symbol.{Symbol, IsChamber, item, op}
use Rattle.dd_model.specs.Code.{count_from}
use Rattle.dd_model.proofs.CountFrom.{length-count_from, get_or-count_from}
use Rattle.dd_template.specs.Table.{Table, IsPart, move}
use Rattle.dd_template.specs.Made.{chamber_of, moved, of_parts, made, IsPlace, SamePlace}

-- what a function gives for the parts of one chamber
abbrev pub block : ℕ → (ℕ → ℕ → ℕ) → ℕ → List ℕ
block k f d = map (f d) (count_from 0 k)

-- what it gives for the parts of n chambers from b on
abbrev pub blocks : ℕ → (ℕ → ℕ → ℕ) → ℕ → ℕ → List ℕ
blocks k f b n = flat_map (block k f) (count_from b n)

pub length-block : (k : ℕ) (f : ℕ → ℕ → ℕ) (d : ℕ) → length (block k f d) ≡ k
length-block k f d = length-map (count_from 0 k) (f d) ∙ length-count_from 0 k

get_or-block : (k : ℕ) (f : ℕ → ℕ → ℕ) (d x : ℕ) → x < k → get_or (block k f d) x 0 ≡ f d x
get_or-block k f d x inside =
    let long = length-count_from 0 k in
    let at : get_or (count_from 0 k) x 0 ≡ x = get_or-count_from 0 k x inside ∙ omega arith in
    get_or-map (f d) (count_from 0 k) x 0 0 (omega arith) ∙ ap (f d) at

pub length-blocks : (k : ℕ) (f : ℕ → ℕ → ℕ) (b n : ℕ) → length (blocks k f b n) ≡ n * k
length-blocks k f b zero = omega arith
length-blocks k f b (suc n) =
    let here = length-block k f b in
    let rest = length-blocks k f (b + 1) n in
    let e = suc-mul n k in
    length-append (block k f b) (blocks k f (b + 1) n) ∙ omega arith

get_or-blocks : (k : ℕ) (f : ℕ → ℕ → ℕ) (b n j x : ℕ) → j < n → x < k → get_or (blocks k f b n) (j * k + x) 0 ≡ f (b + j) x
get_or-blocks k f b zero j x low inside = absurd (omega arith)
get_or-blocks k f b (suc n) zero x low inside =
    let long = length-block k f b in
    let place : zero * k + x ≡ x = omega arith in
    let same : b ≡ b + zero = omega arith in
    ap (λ i. get_or (blocks k f b (suc n)) i 0) place
    ∙ get_or_append_left (block k f b) (blocks k f (b + 1) n) 0 x (omega arith)
    ∙ get_or-block k f b x inside
    ∙ ap (λ d. f d x) same
get_or-blocks k f b (suc n) (suc j) x low inside =
    let long = length-block k f b in
    let e = suc-mul j k in
    let place : suc j * k + x ≡ length (block k f b) + (j * k + x) = omega arith in
    let same : b + 1 + j ≡ b + suc j = omega arith in
    ap (λ i. get_or (blocks k f b (suc n)) i 0) place
    ∙ get_or-append-add (block k f b) (blocks k f (b + 1) n) (j * k + x) 0
    ∙ get_or-blocks k f (b + 1) n j x (omega arith) inside
    ∙ ap (λ d. f d x) same

pub length-of_parts : (t : Table) (s : Symbol) (f : ℕ → ℕ → ℕ) → length (of_parts t s f) ≡ s.size * t.parts
length-of_parts t s f = length-blocks t.parts f 1 s.size

-- the item at a part of a chamber
pub item-of_parts : (t : Table) (s : Symbol) (f : ℕ → ℕ → ℕ) (d x : ℕ) → IsChamber s d → IsPart t x → item (of_parts t s f) (chamber_of t d x) ≡ f d x
item-of_parts t s f d x h inside =
    let place : (d - 1) * t.parts + x + 1 - 1 ≡ (d - 1) * t.parts + x = omega arith in
    let below : d - 1 < s.size = omega arith in
    let same : 1 + (d - 1) ≡ d = omega arith in
    ap (λ i. get_or (of_parts t s f) i 0) place ∙ get_or-blocks t.parts f 1 s.size (d - 1) x below inside ∙ ap (λ e. f e x) same

pub chamber_of_within : (t : Table) (s : Symbol) (d x : ℕ) → IsChamber s d → IsPart t x → IsChamber (made t s) (chamber_of t d x)
chamber_of_within t s d x h inside =
    let below : d - 1 < s.size = omega arith in
    let l = mul-add-lt (d - 1) t.parts x s.size below inside in
    let e = mul_comm t.parts s.size in
    (omega arith, omega arith)

-- a chamber of the symbol that is made, as a part of a chamber
pub place_of : (t : Table) (s : Symbol) (e : ℕ) → 1 ≤ t.parts → IsChamber (made t s) e → IsPlace t s e
place_of t s e some h =
    let row = div_below (e - 1) t.parts s.size (omega arith) (omega arith) in
    let split = div-add-mod' (e - 1) t.parts in
    let back : (e - 1) / t.parts + 1 - 1 ≡ (e - 1) / t.parts = omega arith in
    let first : ((e - 1) / t.parts + 1 - 1) * t.parts ≡ (e - 1) / t.parts * t.parts = ap (λ q. q * t.parts) back in
    record {
      chamber = (e - 1) / t.parts + 1;
      part = (e - 1) % t.parts;
      is_chamber = (omega arith, omega arith);
      is_part = mod_below (e - 1) t.parts (omega arith);
      place = omega arith;
    }

-- two places are one
pub same_place : (t : Table) (d e x y : ℕ) → 1 ≤ d → 1 ≤ e → IsPart t x → IsPart t y → chamber_of t d x ≡ chamber_of t e y → SamePlace d e x y
same_place t d e x y pd pe px py same =
    let equal : (d - 1) * t.parts + x ≡ (e - 1) * t.parts + y = omega arith in
    let parts = same_from_place (d - 1) x (e - 1) y t.parts px py equal in
    let rows : d - 1 ≡ e - 1 = parts.0 in
    record { chamber = omega arith; part = parts.1 }

-- the image of a part of a chamber
pub op-made : (t : Table) (s : Symbol) (i : Index) (d x : ℕ) → IsChamber s d → IsPart t x
    → op (made t s) i (chamber_of t d x) ≡ chamber_of t (moved s (move t i x).by d) (move t i x).to
op-made t s Zero d x h inside = item-of_parts t s (λ e y. chamber_of t (moved s (move t Zero y).by e) (move t Zero y).to) d x h inside
op-made t s One d x h inside = item-of_parts t s (λ e y. chamber_of t (moved s (move t One y).by e) (move t One y).to) d x h inside
op-made t s Two d x h inside = item-of_parts t s (λ e y. chamber_of t (moved s (move t Two y).by e) (move t Two y).to) d x h inside
