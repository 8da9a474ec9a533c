use Rattle.std.proofs.Common.{◌≡◌, sym, ap, ◌∙◌}
use Rattle.dd_branch_tables.specs.Rows.{depth_of}
use Rattle.dd_branch_tables.specs.Stem.{shortened}
use Rattle.dd_branch_tables.specs.declared.stem.Stem.{Stem}
use Rattle.dd_test_search.proofs.table_tests.+count_whole.Goals as goal
use Rattle.dd_test_search.proofs.table_tests.+count_whole.Goals.{then-enter, else-enter}

pub loop-number-preserved : goal.loop-number-preserved
loop-number-preserved t c =
    let i = c.loop-number.invariant in
    let mark = i.mark ∙ ap (λ (s : Stem). depth_of s.rows) (sym i.same) in
    elim c.if-enter.branch [
      | then-enter w ↦ record {
        same = w.stem-is ∙ w.leave.ensures ∙ ap (λ (s : Stem). shortened s c.mark-mark.result) w.count_whole.ensures.stem ∙ ap (shortened c.enter.new.self) mark ∙ w.if-enter.ensures.undone ∙ i.same;
        stem = i.stem;
        short = i.short;
        mark = i.mark;
      }
      | else-enter w ↦ record {
        same = w.stem-is ∙ w.if-enter.ensures.same ∙ i.same;
        stem = i.stem;
        short = i.short;
        mark = i.mark;
      }
    ]
