use Rattle.std.proofs.Common.{◌≡◌, ℕ, suc, ◌+◌, ◌<◌, List, [], ◌∷◌, ◌++◌, take, length, ap, sym, ◌∙◌, subst, arith}
use Rattle.std.specs.List.{AllByRecursion}
use Rattle.std.proofs.Math.Seq.{take-suc}
use Rattle.std.proofs.lemmas.List.{length-take-le}
use Rattle.dd_suite_commands.specs.Totals.{counted_in}
use Rattle.dd_suite_commands.specs.InfoSteps.{AddsInfoLine}
use Rattle.dd_suite_commands.proofs.TotalsLemmas.{totals_few}
use Rattle.dd_suite_commands.proofs.InfoLemmas.{IsToldSoFar, groups_length, told_more}
use Rattle.dd_suite_commands.proofs.info.info_of.Goals as goal

pub put_info_line-requires : goal.put_info_line-requires
put_info_line-requires c =
    let told = c.loop-before.invariant in
    let ss = take c.loop-before.before c.args.symbols.now in
    let count = groups_length 0 ss told.groups c.loop-before.text.items told.are_lines in
    let taken : length ss ≡ c.loop-before.before = length-take-le c.loop-before.before c.args.symbols.now (omega arith) in
    let few : length told.groups < 1000000000 = omega (arith, c.requires, c.loop-before-test.true) in
    subst (AllByRecursion (λ (e : List ℕ × ℕ). e.1 < 1000000000)) (sym told.counts) (totals_few told.groups few)

pub loop-before-preserved : goal.loop-before-preserved
loop-before-preserved c =
    let ss = c.args.symbols.now in
    let i = c.loop-before.before in
    let s = c.index-symbols-before.result in
    let new = c.put_info_line.new.out.items in
    let totals = counted_in c.loop-before.totals in
    let after = counted_in c.put_info_line.new.totals in
    let next : i + 1 ≡ suc i = omega arith in
    let taken : take i ss ++ s ∷ [] ≡ take (i + 1) ss = ap (λ t. take i ss ++ t ∷ []) c.index-symbols-before.is ∙ sym (take-suc ss i s c.loop-before-test.true) ∙ ap (λ j. take j ss) (sym next) in
    let count : length (take i ss) ≡ i = length-take-le i ss (omega arith) in
    let line : AddsInfoLine (length (take i ss) + 1) s totals after c.loop-before.text.items new =
    subst (λ n. AddsInfoLine (n + 1) s totals after c.loop-before.text.items new) (sym count) c.in_ok-put_info_line.ensures in
    subst (λ xs. IsToldSoFar xs new after) taken (told_more (take i ss) c.loop-before.text.items new totals after s c.loop-before.invariant line)
