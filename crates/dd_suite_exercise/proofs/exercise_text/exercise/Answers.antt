use Rattle.std.proofs.Common.{◌≡◌, length, subst, arith}
use Rattle.std.proofs.lemmas.Result.{IfOk-weaker}
use Rattle.dd_model.specs.Small.{IsSmallSymbol}
use Rattle.dd_suite_commands.specs.Totals.{counted_in}
use Rattle.dd_suite_exercise.specs.Exercise.{tally_text, IsExerciseText}
use Rattle.dd_suite_exercise.specs.Items.{IsItem}
use Rattle.dd_suite_exercise.proofs.TallyLemmas.{IsTold, none_told, told_short, one_more_told, told_text}
use Rattle.dd_suite_exercise.proofs.exercise_text.exercise.Goals as goal

pub loop-init : goal.loop-init
loop-init c = (
  c.in_ok-seeds.ensures.seeds,
  none_told c.in_ok-seeds.seeds.items c.args.start c.start-generator.result c.new-tally.result c.start-generator.ensures
      c.new-tally.ensures.chambers c.new-tally.ensures.classes c.new-tally.ensures.groups,
)

pub add-requires : goal.add-requires
add-requires c = told_short c.in_ok-seeds.seeds.items c.args.start c.loop.counter c.loop.generator c.loop.tally (omega (arith, c.requires.count, c.loop-test.true)) c.loop.invariant.1

pub loop-preserved : goal.loop-preserved
loop-preserved c =
    let seeds = c.in_ok-seeds.seeds.items in
    let form = c.in_ok-form.form in
    let item : IsItem seeds c.loop.generator form = subst (λ ss. IsItem ss c.loop.generator form) c.deref.ensures.value c.in_ok-form.ensures.item in
    let small : IsSmallSymbol form = subst IsSmallSymbol c.form.view_is c.form.invariant.1 in (
      c.loop.invariant.0,
      one_more_told seeds c.args.start c.loop.counter c.loop.generator c.next_item.new.generator c.loop.tally c.add.new.self form
          c.loop.invariant.1 item c.in_ok-form.ensures.draws small c.in_ok-add.ensures,
    )

pub returns : goal.returns
returns c =
    let seeds = c.in_ok-seeds.seeds.items in
    let all : c.loop.counter ≡ c.args.count = omega (arith, c.loop-test.false, c.loop.auto.counter-end) in
    let told : IsTold seeds c.args.start c.args.count c.loop.generator c.loop.tally =
    subst (λ n. IsTold seeds c.args.start n c.loop.generator c.loop.tally) all c.loop.invariant.1 in
    IfOk-weaker c.text.result (λ text. text.items ≡ tally_text c.args.count c.loop.tally.chambers (length (counted_in c.loop.tally.classes)) (counted_in c.loop.tally.groups))
    (λ text. IsExerciseText c.args.start c.args.count text.items)
    (λ text is. told_text seeds c.args.start c.args.count c.loop.generator c.loop.tally text.items c.loop.invariant.0 told is) c.text.ensures
