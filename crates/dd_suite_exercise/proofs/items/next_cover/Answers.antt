use Rattle.std.proofs.Common.{arith}
use Rattle.std.proofs.lemmas.Result.{IfOk-weaker}
use Rattle.dd_suite_exercise.specs.Choices.{IsCoverBy}
use Rattle.dd_suite_exercise.specs.Items.{IsCover}
use Rattle.dd_suite_exercise.proofs.CoverLemmas.{picked, picked_base, first_base, second_base, cover_made}
use Rattle.dd_suite_exercise.proofs.SeedLemmas.{some_seeds}
use Rattle.dd_suite_exercise.proofs.items.next_cover.Goals as goal

pub below-requires : goal.below-requires
below-requires c = some_seeds c.args.seeds.now c.requires

pub made_of-requires : goal.made_of-requires
made_of-requires c =
    let base = picked_base c.args.seeds.now c.below.result c.index-seeds-below.result c.requires c.below.ensures.below c.index-seeds-below.is in
    let few = base.accepted.within in
    omega (arith, few)

pub made_of-requires-2 : goal.made_of-requires-2
made_of-requires-2 c =
    let seed = picked_base c.args.seeds.now c.below.result c.index-seeds-below.result c.requires c.below.ensures.below c.index-seeds-below.is in
    let base = first_base c.index-seeds-below.result c.in_ok-first.first c.picked_by.result seed c.in_ok-first.ensures in
    let few = base.accepted.within in
    omega (arith, few)

pub of-requires-clause-few : goal.of-requires-clause-few
of-requires-clause-few c =
    let seed = picked_base c.args.seeds.now c.below.result c.index-seeds-below.result c.requires c.below.ensures.below c.index-seeds-below.is in
    let first = first_base c.index-seeds-below.result c.in_ok-first.first c.picked_by.result seed c.in_ok-first.ensures in
    let base = second_base c.in_ok-first.first c.in_ok-second.second c.picked_by-2.result first c.in_ok-second.ensures in
    let few = base.accepted.within in
    omega (arith, few)

pub of-requires-clause-flat : goal.of-requires-clause-flat
of-requires-clause-flat c =
    let seed = picked_base c.args.seeds.now c.below.result c.index-seeds-below.result c.requires c.below.ensures.below c.index-seeds-below.is in
    let first = first_base c.index-seeds-below.result c.in_ok-first.first c.picked_by.result seed c.in_ok-first.ensures in
    (second_base c.in_ok-first.first c.in_ok-second.second c.picked_by-2.result first c.in_ok-second.ensures).flat

pub returns-clause-cover : goal.returns-clause-cover
returns-clause-cover c =
    let seeds = c.args.seeds.now in
    IfOk-weaker c.of.result (IsCoverBy c.picked_by-3.result c.in_ok-second.second) (IsCover seeds c.args.generator.now)
    (λ cover is. cover_made seeds c.args.generator.now c.below.new.self c.below-2.new.self c.below-3.new.self c.below.result c.below-2.result c.below-3.result c.below-4.result
    c.index-seeds-below.result c.in_ok-first.first c.in_ok-second.second cover c.picked_by.result c.picked_by-2.result c.picked_by-3.result
    (picked seeds c.below.result c.index-seeds-below.result c.below.ensures.below c.index-seeds-below.is) c.below.ensures.answer c.below.ensures.next
    c.below-2.ensures.answer c.below-2.ensures.next c.picked_by.ensures c.in_ok-first.ensures
    c.below-3.ensures.answer c.below-3.ensures.next c.picked_by-2.ensures c.in_ok-second.ensures
    c.below-4.ensures.answer c.picked_by-3.ensures is)
    c.of.ensures
