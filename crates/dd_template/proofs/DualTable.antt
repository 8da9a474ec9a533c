-- What the table of the dual makes, and how many parts the four tables have.
use Rattle.std.proofs.Common.{◌≡◌, ℕ, ◌*◌, ◌≤◌, List, length, sym, ap, ◌∙◌, arith}
use Rattle.dd_model.specs.declared.index.Index.TheVariants.{Zero, One, Two}
use Rattle.dd_model.specs.Symbol.{Symbol, IsTable, IsChamber, item, op}
use Rattle.dd_model.proofs.Codes.{same_items}
use Rattle.dd_template.specs.Table.{Table, table_of}
use Rattle.dd_template.specs.Made.{chamber_of, image_of, degree_from, of_parts, made}
use Rattle.dd_template.specs.Dual.{exchanged}
use Rattle.dd_template.specs.declared.constants.TheConstants.{DUAL}
use Rattle.dd_template.proofs.PlaceLemmas.{item-of_parts, length-of_parts}

abbrev table : Table
table = table_of DUAL

-- the only part of a chamber has its number
number : (d : ℕ) → 1 ≤ d → chamber_of table d 0 ≡ d
number d low = omega arith

one_part : (s : Symbol) (f : ℕ → ℕ → ℕ) (xs : List ℕ) → length xs ≡ s.size → ((d : ℕ) → IsChamber s d → f d 0 ≡ item xs d) → of_parts table s f ≡ xs
one_part s f xs long same =
    same_items (of_parts table s f) xs s.size (length-of_parts table s f ∙ omega arith) long (λ d low high.
    let h : IsChamber s d = (low, omega arith) in
    ap (item (of_parts table s f)) (sym (number d low)) ∙ item-of_parts table s f d 0 h (omega arith) ∙ same d h)

-- The table DUAL exchanges s0 and s2, and the degrees.
pub made_by_dual : (s : Symbol) → IsTable s → made (table_of DUAL) s ≡ exchanged s
made_by_dual s is =
    let inv = is.involutions in
    let size : s.size * 1 ≡ s.size = omega arith in
    let s0 = one_part s (image_of table s Zero) s.s2 (is.lengths Two) (λ d h. number (op s Two d) ((inv Two).within d h).0) in
    let s1 = one_part s (image_of table s One) s.s1 (is.lengths One) (λ d h. number (op s One d) ((inv One).within d h).0) in
    let s2 = one_part s (image_of table s Two) s.s0 (is.lengths Zero) (λ d h. number (op s Zero d) ((inv Zero).within d h).0) in
    let m01 = one_part s (degree_from s table.face) s.m12 is.m12_length (λ d h. let e : 1 * item s.m12 d ≡ item s.m12 d = omega arith in e) in
    let m12 = one_part s (degree_from s table.degree) s.m01 is.m01_length (λ d h. let e : 1 * item s.m01 d ≡ item s.m01 d = omega arith in e) in
    λ i. record { size = size i; s0 = s0 i; s1 = s1 i; s2 = s2 i; m01 = m01 i; m12 = m12 i }
