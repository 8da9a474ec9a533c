use Rattle.std.proofs.Common.{◌∷◌, ap, sym, ◌∙◌, subst, length, arith}
use Rattle.std.specs.Vec.Iter.{into_iter_items}
use Rattle.std.proofs.lemmas.List.{nil_from_length}
use Rattle.dd_shard.specs.Members.{lists_of}
use Rattle.dd_suite_commands.specs.Merges.{bytes_of, AreReadEach, IsReadRefusal}
use Rattle.dd_suite_commands.specs.Stops.{IsStop}
use Rattle.dd_suite_commands.proofs.MergedTexts.{none_read, one_read, one_unread, all_read, handed_on}
use Rattle.dd_suite_commands.proofs.merged.read_files.Goals as goal

pub loop-symbols-init : goal.loop-symbols-init
loop-symbols-init g c =
    let gives = c.into_iter-symbols-iterator.ensures.into_iter_gives in (
      gives.1 ∙ omega (arith, ap length gives.0),
      none_read _ _ _ (subst (AreReadEach (bytes_of c.args.files.now)) (sym gives.0) c.in_ok-symbols-items.ensures) (ap lists_of c.new-lists.ensures.items),
    )

pub returns-in_err-symbols-clause-why : goal.returns-in_err-symbols-clause-why
returns-in_err-symbols-clause-why g c =
    let steps = c.in-Some.ensures.steps in
    handed_on (IsStop (IsReadRefusal (bytes_of c.args.files.now))) c.from_residual-in_err-symbols.result c.in_err-symbols.field-0.0 c.from_residual-in_err-symbols.ensures.1
    (one_unread _ _ _ _ _ (steps.0 ∙ ap (λ r. r ∷ into_iter_items c.next.new.self) c.in_err-symbols.was) c.loop-symbols.invariant.1)

pub loop-symbols-preserved : goal.loop-symbols-preserved
loop-symbols-preserved g c =
    let steps = c.in-Some.ensures.steps in
    let ih = c.loop-symbols.invariant in (
      omega (arith, ih.0, ap length steps.0, steps.1),
      one_read _ _ _ _ _ _ (steps.0 ∙ ap (λ r. r ∷ into_iter_items c.next.new.self) c.in_ok-symbols.was) c.in_ok-push.ensures.items ih.1,
    )

pub returns-clause-read : goal.returns-clause-read
returns-clause-read g c =
    let ih = c.loop-symbols.invariant in
    all_read _ _ _ (nil_from_length _ (omega (arith, ih.0, c.in-None.ensures.steps.0))) ih.1
