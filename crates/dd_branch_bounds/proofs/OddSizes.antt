-- An involution that fixes no chamber needs an even number of them.
use Rattle.std.proofs.Common.{◌≡◌, ℕ, suc, ◌-◌, ◌%◌, ◌<◌, ◌++◌, ◌∷◌, eqb, false, sym, ap, ◌∙◌, arith}
use Rattle.std.specs.Ordering.{nat_cmp, ordering_then}
use Rattle.std.specs.Cmp.Lexicographic.{slice_cmp}
use Rattle.std.specs.List.{flat_map}
use Rattle.std.specs.declared.cmp.Ordering.TheVariants.{Greater, Equal}
use Rattle.dd_model.specs.declared.index.Index.{Index}
use Rattle.dd_model.specs.declared.index.Index.TheVariants.{Zero, One, Two}
use Rattle.dd_model.specs.Symbol.{Symbol, IsTable, AreInvolutions, IsChamber, item, op}
use Rattle.dd_model.specs.Connected.{Connected}
use Rattle.dd_model.specs.Code.{chambers, code, images, count_from, code_cmp}
use Rattle.dd_model.specs.FirstVisit.{LeastTable}
use Rattle.dd_model.proofs.Numberings.{numbered_from}
use Rattle.dd_cells.specs.Surface.{fixed_chambers}
use Rattle.dd_cells.proofs.CellSums.{sum_by_none, listed_chamber}
use Rattle.dd_cells.proofs.FixedFlags.{one_if, fixed_flag}
use Rattle.dd_cells.proofs.OrbitCounts.{twice_orbits}

-- An involution of an odd number of chambers fixes one of them.
pub odd_fixes : (s : Symbol) → AreInvolutions s → (i : Index) → s.size % 2 ≡ 1 → ((d : ℕ) → IsChamber s d → op s i d ≡ d → ⊥) → ⊥
odd_fixes s inv i odd free =
    let none : fixed_chambers s i ≡ 0 = sum_by_none (fixed_flag s i) (chambers s) (λ d listed. let no = free d (listed_chamber s d listed) in let e : eqb (op s i d) d ≡ false = grind (arith, no) in ap one_if e) in
    let twice = twice_orbits s inv i in
    omega (arith, none, twice, odd)

-- a symbol whose code begins with more than that of another of its size is above it
above_first : (s t : Symbol) (n : ℕ) → s.size ≡ suc n → t.size ≡ suc n → op t Zero 1 < op s Zero 1 → code_cmp s t ≡ Greater
above_first s t n es et more =
    let sizes : nat_cmp s.size t.size ≡ Equal = grind (arith, es, et) in
    let first : nat_cmp (op s Zero 1) (op t Zero 1) ≡ Greater = grind (arith, more) in
    let codes : slice_cmp nat_cmp (code s) (code t) ≡ Greater =
    ap (λ k. slice_cmp nat_cmp (flat_map (images s) (count_from 1 k) ++ s.m01 ++ s.m12) (code t)) es
    ∙ ap (λ k. slice_cmp nat_cmp (flat_map (images s) (count_from 1 (suc n)) ++ s.m01 ++ s.m12) (flat_map (images t) (count_from 1 k) ++ t.m01 ++ t.m12)) et
    ∙ ap (λ o. ordering_then o (slice_cmp nat_cmp
    (op s One 1 ∷ op s Two 1 ∷ (flat_map (images s) (count_from 2 n) ++ s.m01 ++ s.m12))
    (op t One 1 ∷ op t Two 1 ∷ (flat_map (images t) (count_from 2 n) ++ t.m01 ++ t.m12)))) first in
    ap (λ o. ordering_then o (slice_cmp nat_cmp (code s) (code t))) sizes ∙ codes

-- A least table of odd size begins with 1.
pub odd_first : (s : Symbol) → IsTable s → Connected s → LeastTable s → s.size % 2 ≡ 1 → 1 < op s Zero 1 → ⊥
odd_first s table connected least odd more =
    odd_fixes s table.involutions Zero odd
    (λ d h fixed.
    let numbered = numbered_from s d table connected h in
    let t = numbered.0 in
    let from = numbered.1 in
    let start = from.start_first in
    let is_one : op t Zero 1 ≡ 1 =
    ap (op t Zero) (sym start) ∙ sym (from.isomorphism.morphism.op Zero d h) ∙ ap (λ x. item from.map x) fixed ∙ start in
    let size = from.isomorphism.size in
    let some = table.chambers in
    least t from.table (from.map, from.isomorphism)
    (above_first s t (s.size - 1) (omega (arith, some)) (omega (arith, some, size)) (omega (arith, is_one, more))))
