use Rattle.std.proofs.Common.{◌≡◌, ◌+◌, length, sym, ap, ◌∙◌, subst, arith}
use Rattle.std.proofs.lemmas.List.{length_push}
use Rattle.dd_branch_tables.specs.Rows.{partial_of, depth_of}
use Rattle.dd_branch_tables.specs.Stem.{prefix_of, size_of, shortened}
use Rattle.dd_branch_tables.specs.declared.stem.Stem.{Stem}
use Rattle.dd_branch_bounds.specs.Kept.{AreSides}
use Rattle.dd_branch_bounds.proofs.EndGrowth.{kept_of_longer}
use Rattle.dd_test_search.proofs.share_trials.+count_nodes.Goals as goal
use Rattle.dd_test_search.proofs.share_trials.+count_nodes.Goals.{then-enter, else-enter}

pub count_nodes-requires : goal.count_nodes-requires
count_nodes-requires t c =
    let i = c.loop-number.invariant in
    let entered = c.if-enter.ensures in
    let classes = c.args.classes.now in
    let sides = c.learn.new.self in
    let kept : AreSides classes (partial_of c.loop-number.stem.rows) sides = subst (λ (s : Stem). AreSides classes (partial_of s.rows) sides) (sym i.same) i.kept in
    let size : size_of c.enter.new.self ≡ size_of c.args.stem.now = entered.size ∙ ap size_of i.same in
    let more : length (prefix_of c.enter.new.self) ≡ length (prefix_of c.args.stem.now) + 1 =
    ap length entered.longer ∙ length_push (prefix_of c.loop-number.stem) c.loop-number.number ∙ ap (λ (s : Stem). length (prefix_of s) + 1) i.same in
    let short = i.short in
    (omega (arith, size, more, short), (entered.stem, kept_of_longer c.loop-number.stem.rows c.enter.new.self.rows (record { classes = classes; sides = sides }) entered.size (ap (λ (s : Stem). s.rows) entered.undone) kept))

pub loop-number-preserved : goal.loop-number-preserved
loop-number-preserved t c =
    let i = c.loop-number.invariant in
    let here = i.here ∙ ap (λ (s : Stem). depth_of s.rows) (sym i.same) in
    elim c.if-enter.branch [
      | then-enter w ↦ record {
        same = w.stem-is ∙ w.leave.ensures ∙ ap (λ (s : Stem). shortened s c.mark-here.result) w.count_nodes.ensures.stem ∙ ap (shortened c.enter.new.self) here ∙ w.if-enter.ensures.undone ∙ i.same;
        stem = i.stem;
        kept = i.kept;
        short = i.short;
        here = i.here;
      }
      | else-enter w ↦ record {
        same = w.stem-is ∙ w.if-enter.ensures.same ∙ i.same;
        stem = i.stem;
        kept = i.kept;
        short = i.short;
        here = i.here;
      }
    ]
