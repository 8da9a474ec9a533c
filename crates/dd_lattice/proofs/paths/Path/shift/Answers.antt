use Rattle.std.proofs.Common.{◌≡◌, ℕ, ◌+◌, ◌≤◌, Bool, true, false, cond, List, ℤ, pos, ◌+ℤ◌, ◌-ℤ◌, w64, FitsSigned, to_z, of_z, ap, ◌∙◌, arith}
use Rattle.std.proofs.lemmas.Int.{ints}
use Rattle.dd_model.specs.declared.index.Index.TheVariants.{Zero, Two}
use Rattle.dd_model.specs.Symbol.{op}
use Rattle.dd_lattice.specs.Paths.{mark}
use Rattle.dd_lattice.specs.Steps.{flag}
use Rattle.dd_lattice.proofs.paths.Path.shift.Goals as goal

few : (exits : List Bool) (d : ℕ) → mark exits d ≤ 1
few exits d = elim (flag exits d) as (λ b. cond b 1 0 ≤ 1) [ true ↦ omega arith | false ↦ omega arith ]

difference : (x y z w : ℤ) (a b c d : ℕ) → x ≡ pos a → y ≡ pos b → z ≡ pos c → w ≡ pos d → a ≤ 1 → b ≤ 1 → c ≤ 1 → d ≤ 1
    → to_z w64 (of_z w64 (to_z w64 (of_z w64 (to_z w64 (of_z w64 x) +ℤ to_z w64 (of_z w64 y))) -ℤ to_z w64 (of_z w64 (to_z w64 (of_z w64 z) +ℤ to_z w64 (of_z w64 w))))) ≡ pos (a + b) -ℤ pos (c + d)
difference x y z w a b c d ea eb ec ed la lb lc ld = omega (arith, ints)

fits : (x y z w : ℤ) (a b c d : ℕ) → x ≡ pos a → y ≡ pos b → z ≡ pos c → w ≡ pos d → a ≤ 1 → b ≤ 1 → c ≤ 1 → d ≤ 1
    → FitsSigned w64 (to_z w64 (of_z w64 (to_z w64 (of_z w64 x) +ℤ to_z w64 (of_z w64 y))) -ℤ to_z w64 (of_z w64 (to_z w64 (of_z w64 z) +ℤ to_z w64 (of_z w64 w))))
fits x y z w a b c d ea eb ec ed la lb lc ld = omega (arith, ints)

pub overflow_sub-result : goal.overflow_sub-result
overflow_sub-result c =
    let xs = c.args.self.now.exits.items in
    fits c.mark.result c.mark-2.result c.mark-3.result c.mark-4.result (mark xs _) (mark xs _) (mark xs _) (mark xs _) c.mark.ensures c.mark-2.ensures c.mark-3.ensures c.mark-4.ensures
    (few xs c.args.chamber) (few xs c.op-beyond.result) (few xs c.op.result) (few xs c.op-2.result)

pub returns : goal.returns
returns c =
    let t = c.args.symbol.now in
    let d = c.args.chamber in
    let xs = c.args.self.now.exits.items in
    let beyond = c.op-beyond.ensures.image in
    difference c.mark.result c.mark-2.result c.mark-3.result c.mark-4.result (mark xs d) (mark xs (op t Two d)) (mark xs (op t Zero d)) (mark xs (op t Zero (op t Two d)))
    c.mark.ensures (c.mark-2.ensures ∙ ap (λ n. pos (mark xs n)) beyond) (c.mark-3.ensures ∙ ap (λ n. pos (mark xs n)) c.op.ensures.image)
    (c.mark-4.ensures ∙ ap (λ n. pos (mark xs n)) (c.op-2.ensures.image ∙ ap (op t Zero) beyond))
    (few xs d) (few xs (op t Two d)) (few xs (op t Zero d)) (few xs (op t Zero (op t Two d)))
