-- An isomorphism that moves no chamber leads to the same symbol.
use Rattle.std.proofs.Common.{◌≡◌, ℕ, ◌+◌, ◌<◌, ◌≤◌, List, sym, ap, ◌∙◌, arith}
use Rattle.dd_model.specs.declared.index.Index.{Index}
use Rattle.dd_model.specs.declared.index.Index.TheVariants.{Zero, One, Two}
use Rattle.dd_model.specs.Symbol.{Symbol, IsTable, IsChamber, item, op, operation}
use Rattle.dd_model.specs.Isomorphic.{IsIsomorphism}
use Rattle.dd_model.proofs.Codes.{same_items}
use Rattle.dd_model.proofs.Fields.{same_fields}

pub same_by_fixed_map : (s t : Symbol) (f : List ℕ) → IsTable s → IsTable t → IsIsomorphism s t f → ((d : ℕ) → IsChamber s d → item f d ≡ d) → s ≡ t
same_by_fixed_map s t f is it iso fixed =
    let n : s.size ≡ t.size = sym iso.size in
    let inside : (d : ℕ) → 1 ≤ d → d < 1 + s.size → IsChamber s d = λ d low high. (low, omega arith) in
    let lists : (i : Index) → operation s i ≡ operation t i = λ i.
    same_items (operation s i) (operation t i) s.size (is.lengths i) (it.lengths i ∙ iso.size) (λ d low high.
    let h = inside d low high in
    sym (fixed (op s i d) ((is.involutions i).within d h)) ∙ iso.morphism.op i d h ∙ ap (op t i) (fixed d h)) in
    let s0 : s.s0 ≡ t.s0 = lists Zero in
    let s1 : s.s1 ≡ t.s1 = lists One in
    let s2 : s.s2 ≡ t.s2 = lists Two in
    let m01 : s.m01 ≡ t.m01 = same_items s.m01 t.m01 s.size is.m01_length (it.m01_length ∙ iso.size) (λ d low high.
    let h = inside d low high in sym (iso.morphism.m01 d h) ∙ ap (item t.m01) (fixed d h)) in
    let m12 : s.m12 ≡ t.m12 = same_items s.m12 t.m12 s.size is.m12_length (it.m12_length ∙ iso.size) (λ d low high.
    let h = inside d low high in sym (iso.morphism.m12 d h) ∙ ap (item t.m12) (fixed d h)) in
    same_fields s t n s0 s1 s2 m01 m12
