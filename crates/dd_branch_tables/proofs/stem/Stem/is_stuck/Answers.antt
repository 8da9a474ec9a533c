use Rattle.std.proofs.Common.{◌<◌, ◌+◌, ◌*◌, ◌/◌, length, arith}
use Rattle.std.proofs.lemmas.Bool.{ltb-true}
use Rattle.dd_front_jobs.specs.FirstVisit.{greatest}
use Rattle.dd_branch_tables.specs.Stem.{prefix_of, size_of}
use Rattle.dd_branch_tables.proofs.Prefixes.{not_whole}
use Rattle.dd_branch_tables.proofs.Stems.{none_unmet}
use Rattle.dd_branch_tables.proofs.stem.Stem.is_stuck.Goals as goal

pub returns : goal.returns
returns c past s under =
    let stem = c.args.self.now in
    let room = not_whole c.is_whole.result (length (prefix_of stem)) (3 * size_of stem) c.if-is_whole.false c.is_whole.ensures.whole c.requires.short in
    let test : c.greatest.result < 1 + c.len.result / 3 = ltb-true _ _ past in
    let most : greatest (prefix_of stem) < 1 + length (prefix_of stem) / 3 = omega arith in
    let none = none_unmet stem 0 room most s under in
    absurd (omega arith)
