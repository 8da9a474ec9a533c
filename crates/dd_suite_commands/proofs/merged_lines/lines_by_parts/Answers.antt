use Rattle.std.proofs.Common.{◌≡◌, ◌+◌, ◌*◌, ◌/◌, ◌%◌, ◌++◌, min, ◌∷◌, get_or, ap, sym, ◌∙◌, subst, length, arith}
use Rattle.std.specs.Vec.Iter.{into_iter_items}
use Rattle.std.proofs.lemmas.List.{nil_from_length}
use Rattle.dd_suite_commands.proofs.LinesInParts.{IsMadeFrom, none_lined, one_lined, all_lined}
use Rattle.dd_suite_commands.proofs.merged_lines.lines_by_parts.Goals as goal

pub loop-lines-init : goal.loop-lines-init
loop-lines-init g c =
    let gives = c.into_iter-lines-iterator.ensures.into_iter_gives in
    let symbols = c.args.symbols.now in
    let size = c.max-size.result in
    let left = into_iter_items c.into_iter-lines-iterator.result in
    let same : length left ≡ length c.in_ok-parts.parts.items = ap length gives.0 in
    let count : length left ≡ length symbols / size + min 1 (length symbols % size) = omega (arith, same, c.in_ok-parts.ensures.len) in (
      gives.1 ∙ omega (arith, same),
      none_lined symbols size left c.new-text.result.items count c.new-text.ensures.items (λ k d low.
          let given = (c.in_ok-parts.ensures.each k d (omega (arith, low, same))).1 in
          subst (λ rs. IsMadeFrom symbols size (k * size) (get_or rs k d)) (sym gives.0)
          (record { part = given.argument.now; value = given.argument_is.value; within = (let inside = given.argument_is.in_bounds in omega (arith, inside)); is = given.call })),
    )

pub loop-lines-preserved : goal.loop-lines-preserved
loop-lines-preserved g c =
    let steps = c.in-Some.ensures.steps in
    let ih = c.loop-lines.invariant in (
      omega (arith, ih.0, ap length steps.0, steps.1),
      one_lined _ _ _ _ _ _ _ (steps.0 ∙ ap (λ r. r ∷ into_iter_items c.next.new.self) c.in_ok-lines.was)
          (c.in_ok-put_bytes.ensures.bytes ∙ ap (λ xs. c.loop-lines.text.items ++ xs) c.deref.ensures.value) ih.1,
    )

pub returns : goal.returns
returns g c =
    let ih = c.loop-lines.invariant in
    all_lined _ _ _ _ (let large = c.max-size.ensures in omega (arith, large)) (nil_from_length _ (omega (arith, ih.0, c.in-None.ensures.steps.0))) ih.1
