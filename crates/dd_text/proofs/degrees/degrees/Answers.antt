use Rattle.std.proofs.Common.{◌≡◌, ◌<◌, ℕ, List, length, map, sym, ap, ◌∙◌, subst, arith, slice_index}
use Rattle.std.specs.Prelude.{IfOk}
use Rattle.dd_model.specs.Symbol.{item}
use Rattle.dd_model.specs.Spelling.{values}
use Rattle.dd_model.specs.declared.tokens.Numeral.{Numeral}
use Rattle.dd_text.specs.Texts.{told_of}
use Rattle.dd_text.specs.Images.{IsWithin}
use Rattle.dd_text.proofs.CellReads.{within_cells, within_least, beyond_at, are_degrees, degrees_if}
use Rattle.dd_text.proofs.degrees.degrees.Goals as goal

pub returns-then-len-2-clause-why : goal.returns-then-len-2-clause-why
returns-then-len-2-clause-why c =
    let count : c.len-then-len-2.result ≡ length c.in_ok-cells.cells.items = omega (arith, c.len-then-len-2.ensures) in
    beyond_at c.args.involutions.now c.args.pair (told_of c.args.list.now) c.in_ok-cells.cells.items c.len-then-len-2.result c.index.result.now
    c.in_ok-cells.ensures count (omega (arith, c.len-3.ensures, c.len-4.ensures)) c.index.ensures

pub at_cells-requires-clause-chambers : goal.at_cells-requires-clause-chambers
at_cells-requires-clause-chambers c =
    subst (λ n. (k : ℕ) → k < length c.deref.result.now → IsWithin n (slice_index c.deref.result.now k)) (sym c.size.ensures.size)
    (subst (λ (zs : List ℕ). (k : ℕ) → k < length zs → IsWithin c.args.involutions.now.size (slice_index zs k)) (sym c.deref.ensures.value)
    (within_cells c.args.involutions.now c.args.pair c.in_ok-cells.cells.items c.in_ok-cells.ensures))

pub spread-requires : goal.spread-requires
spread-requires c = record {
  chambers =
      subst (λ n. (k : ℕ) → k < length c.deref-3.result.now → IsWithin n (slice_index c.deref-3.result.now k))
      (sym (ap length c.deref-4.ensures.value ∙ c.in_ok-told.ensures.length ∙ c.size.ensures.size))
      (subst (λ (zs : List ℕ). (k : ℕ) → k < length zs → IsWithin c.args.involutions.now.size (slice_index zs k)) (sym c.deref-3.ensures.value)
      (within_least c.args.involutions.now c.args.pair c.in_ok-least.least.items c.in_ok-least.ensures));
}

pub returns-clause-ok : goal.returns-clause-ok
returns-clause-ok c =
    let at_cells : map (item c.deref-4.result.now) c.in_ok-cells.cells.items ≡ values (told_of c.args.list.now) =
    ap (λ xs. map (item xs) c.in_ok-cells.cells.items) c.deref-4.ensures.value
    ∙ ap (map (item c.in_ok-told.told.items)) (sym c.deref.ensures.value)
    ∙ c.in_ok-told.ensures.told
    ∙ ap (λ (xs : List Numeral). map (λ x. x.value) xs) c.deref-2.ensures.value in
    degrees_if c.args.involutions.now c.args.pair (values (told_of c.args.list.now)) (map (item c.deref-4.result.now) c.in_ok-least.least.items) c.spread.result
    (are_degrees c.args.involutions.now c.size.ensures.three.involutions c.args.pair (values (told_of c.args.list.now)) c.in_ok-least.least.items c.in_ok-cells.cells.items
    c.deref-4.result.now c.in_ok-least.ensures c.in_ok-cells.ensures at_cells)
    (subst (λ (zs : List ℕ). IfOk c.spread.result (λ v. v.items ≡ map (item c.deref-4.result.now) zs)) c.deref-3.ensures.value c.spread.ensures.ok)
