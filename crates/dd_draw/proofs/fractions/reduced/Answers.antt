use Rattle.std.proofs.Common.{◌/◌, inl, inr, ◌∙◌, sym, ⊎_elim}
use Rattle.dd_draw.proofs.LowestTerms.{gcd_positive, sizes, size_read, signed-negative, signed-positive, read_wide, read_narrow, read_size, read_negated, read_negative, read_positive}
use Rattle.dd_cells.specs.declared.fractions.Fraction.{Fraction}
use Rattle.dd_draw.specs.Elimination.{Ratio}
use Rattle.dd_draw.specs.Limit.{IsWithin, IsNarrow}
use Rattle.dd_draw.proofs.fractions.reduced.Goals as goal
use Rattle.dd_draw.proofs.fractions.reduced.Goals.{then-num-lt0, else-num-lt0}

within_of : (x : Fraction) (r : Ratio) → IsNarrow x r → IsWithin x
within_of x r is = is.within

pub nonzero_div-top : goal.nonzero_div-top
nonzero_div-top c =
    gcd_positive c.args.num c.args.den c.gcd-divisor.result c.requires
    (sizes c.args.num c.args.den c.unsigned_abs-size.result c.unsigned_abs-whole.result c.gcd-divisor.result
    (size_read c.args.num c.unsigned_abs-size.result c.ranges.num c.unsigned_abs-size.ensures.value)
    (size_read c.args.den c.unsigned_abs-whole.result c.ranges.den c.unsigned_abs-whole.ensures.value) c.gcd-divisor.ensures)

pub nonzero_div-bottom : goal.nonzero_div-bottom
nonzero_div-bottom c =
    gcd_positive c.args.num c.args.den c.gcd-divisor.result c.requires
    (sizes c.args.num c.args.den c.unsigned_abs-size.result c.unsigned_abs-whole.result c.gcd-divisor.result
    (size_read c.args.num c.unsigned_abs-size.result c.ranges.num c.unsigned_abs-size.ensures.value)
    (size_read c.args.den c.unsigned_abs-whole.result c.ranges.den c.unsigned_abs-whole.ensures.value) c.gcd-divisor.ensures)

pub returns-then-top-gt-LIMIT : goal.returns-then-top-gt-LIMIT
returns-then-top-gt-LIMIT c =
    read_wide c.args.num c.args.den c.unsigned_abs-size.result c.unsigned_abs-whole.result c.gcd-divisor.result c.requires
    (size_read c.args.num c.unsigned_abs-size.result c.ranges.num c.unsigned_abs-size.ensures.value)
    (size_read c.args.den c.unsigned_abs-whole.result c.ranges.den c.unsigned_abs-whole.ensures.value) c.gcd-divisor.ensures
    (⊎_elim (λ h. inl h) (λ h. inr h.1) c.then-top-gt-LIMIT.either)

pub returns : goal.returns
returns c =
    let q = c.unsigned_abs-size.result / c.gcd-divisor.result in
    let whole = read_narrow c.args.num c.args.den c.unsigned_abs-size.result c.unsigned_abs-whole.result c.gcd-divisor.result _ c.requires
    (size_read c.args.num c.unsigned_abs-size.result c.ranges.num c.unsigned_abs-size.ensures.value)
    (size_read c.args.den c.unsigned_abs-whole.result c.ranges.den c.unsigned_abs-whole.ensures.value) c.gcd-divisor.ensures
    c.if-top-gt-LIMIT.false c.if-bottom-gt-LIMIT.false in
    let bottom = read_size (c.unsigned_abs-whole.result / c.gcd-divisor.result) c.if-bottom-gt-LIMIT.false in
    elim c.if-num-lt0.branch [
      | then-num-lt0 w ↦ whole
          (w.num-is ∙ read_negated q c.if-top-gt-LIMIT.false ∙ sym (signed-negative c.args.num q (read_negative c.args.num c.ranges.num w.if-num-lt0.true)))
          bottom
      | else-num-lt0 w ↦ whole
          (w.num-is ∙ read_size q c.if-top-gt-LIMIT.false ∙ sym (signed-positive c.args.num q (read_positive c.args.num c.ranges.num w.if-num-lt0.false)))
          bottom
    ]

pub invariant_of-result : goal.invariant_of-result
invariant_of-result c =
    let q = c.unsigned_abs-size.result / c.gcd-divisor.result in
    let whole = read_narrow c.args.num c.args.den c.unsigned_abs-size.result c.unsigned_abs-whole.result c.gcd-divisor.result _ c.requires
    (size_read c.args.num c.unsigned_abs-size.result c.ranges.num c.unsigned_abs-size.ensures.value)
    (size_read c.args.den c.unsigned_abs-whole.result c.ranges.den c.unsigned_abs-whole.ensures.value) c.gcd-divisor.ensures
    c.if-top-gt-LIMIT.false c.if-bottom-gt-LIMIT.false in
    let bottom = read_size (c.unsigned_abs-whole.result / c.gcd-divisor.result) c.if-bottom-gt-LIMIT.false in
    within_of _ (record { over = c.args.num; under = c.args.den }) (elim c.if-num-lt0.branch [
      | then-num-lt0 w ↦ whole
          (w.num-is ∙ read_negated q c.if-top-gt-LIMIT.false ∙ sym (signed-negative c.args.num q (read_negative c.args.num c.ranges.num w.if-num-lt0.true)))
          bottom
      | else-num-lt0 w ↦ whole
          (w.num-is ∙ read_size q c.if-top-gt-LIMIT.false ∙ sym (signed-positive c.args.num q (read_positive c.args.num c.ranges.num w.if-num-lt0.false)))
          bottom
    ])
