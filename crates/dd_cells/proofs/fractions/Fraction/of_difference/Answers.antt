use Rattle.std.proofs.Common.{◌≡◌, ℕ, zero, suc, ◌/◌, ℤ, SFits, pos, neg_ℤ, ◌-ℤ◌, nat_abs, to_z, of_z, refl, ap, ◌∙◌, subst, arith}
use Rattle.std.specs.Int.{IsGcd, abs_diff, w128}
use Rattle.std.proofs.lemmas.Int.{ints, to_z-of_z}
use Rattle.dd_cells.specs.declared.fractions.Fraction.{Fraction}
use Rattle.dd_cells.proofs.FractionLemmas.{divisor_positive, reduced_quotient, quotient_value}
use Rattle.dd_cells.proofs.fractions.Fraction.of_difference.Goals as goal
use Rattle.dd_cells.proofs.fractions.Fraction.of_difference.Goals.{then-gain-loss, else-gain-loss}

-- a positive number is read back as it was written
read_back : (z : ℤ) (q : ℕ) → SFits w128 z → z ≡ pos q → to_z w128 (of_z w128 z) ≡ pos q
read_back z q fits e = to_z-of_z w128 z fits ∙ e

negated_fits : (q : ℕ) → SFits w128 (pos q) → SFits w128 (neg_ℤ (pos q))
negated_fits zero fits = fits
negated_fits (suc q) fits = record { sfits = let t = fits.sfits in omega arith }

negated : (q : ℕ) → pos 0 -ℤ pos q ≡ neg_ℤ (pos q)
negated q = omega (arith, ints)

-- so is its negation
read_negated : (z : ℤ) (q : ℕ) → SFits w128 z → z ≡ pos q → to_z w128 (of_z w128 (pos 0 -ℤ to_z w128 (of_z w128 z))) ≡ neg_ℤ (pos q)
read_negated z q fits e =
    ap (λ y. to_z w128 (of_z w128 (pos 0 -ℤ y))) (read_back z q fits e)
    ∙ ap (λ y. to_z w128 (of_z w128 y)) (negated q)
    ∙ to_z-of_z w128 (neg_ℤ (pos q)) (negated_fits q (subst (SFits w128) e fits))

size_of_negated : (q : ℕ) → nat_abs (neg_ℤ (pos q)) ≡ q
size_of_negated zero = refl
size_of_negated (suc q) = refl

pub nonzero_div-size : goal.nonzero_div-size
nonzero_div-size c = divisor_positive c.abs_diff-size.result c.args.den c.gcd-divisor.result c.gcd-divisor.ensures c.requires

pub nonzero_div-den : goal.nonzero_div-den
nonzero_div-den c = divisor_positive c.abs_diff-size.result c.args.den c.gcd-divisor.result c.gcd-divisor.ensures c.requires

pub returns-clause-reduced : goal.returns-clause-reduced
returns-clause-reduced c =
    let q = c.abs_diff-size.result / c.gcd-divisor.result in
    let fits : SFits w128 c.from-num.result = record { sfits = c.from-num.type_inv } in
    let bottom = read_back c.from.result (c.args.den / c.gcd-divisor.result) (record { sfits = c.from.type_inv }) c.from.ensures in
    let x : Fraction = record { num = to_z w128 c.if-gain-loss.result-bits; den = to_z w128 (of_z w128 c.from.result) } in
    let reduced = λ (num : nat_abs x.num ≡ q).
    reduced_quotient c.abs_diff-size.result c.args.den c.gcd-divisor.result x c.gcd-divisor.ensures c.requires num bottom in
    elim c.if-gain-loss.branch [
      | then-gain-loss w ↦ reduced (ap nat_abs (w.result-is ∙ read_negated c.from-num.result q fits c.from-num.ensures) ∙ size_of_negated q)
      | else-gain-loss w ↦ reduced (ap nat_abs (w.result-is ∙ read_back c.from-num.result q fits c.from-num.ensures))
    ]

pub returns-clause-value : goal.returns-clause-value
returns-clause-value c =
    let q = c.abs_diff-size.result / c.gcd-divisor.result in
    let size = c.abs_diff-size.ensures in
    let fits : SFits w128 c.from-num.result = record { sfits = c.from-num.type_inv } in
    let bottom = read_back c.from.result (c.args.den / c.gcd-divisor.result) (record { sfits = c.from.type_inv }) c.from.ensures in
    let divisor = subst (λ n. IsGcd n c.args.den c.gcd-divisor.result) size c.gcd-divisor.ensures in
    let from : q ≡ abs_diff c.args.gain c.args.loss / c.gcd-divisor.result = ap (λ n. n / c.gcd-divisor.result) size in
    elim c.if-gain-loss.branch [
      | then-gain-loss w ↦
          let high = w.if-gain-loss.true in
          quotient_value c.args.gain c.args.loss c.args.den c.gcd-divisor.result _ divisor
          (λ low. absurd (omega arith))
          (λ _. w.result-is ∙ read_negated c.from-num.result q fits c.from-num.ensures ∙ ap (λ n. neg_ℤ (pos n)) from)
          bottom
      | else-gain-loss w ↦
          let low = w.if-gain-loss.false in
          quotient_value c.args.gain c.args.loss c.args.den c.gcd-divisor.result _ divisor
          (λ _. w.result-is ∙ read_back c.from-num.result q fits c.from-num.ensures ∙ ap pos from)
          (λ high. absurd (omega arith))
          bottom
    ]
