use Rattle.dd_branch_tables.specs.Rows.{partial_of}
use Rattle.dd_branch_bounds.proofs.FilledLemmas.{filled_image}
use Rattle.dd_branch_bounds.proofs.table_paths.TablePaths.learn.Goals as goal

pub loop-place-preserved : goal.loop-place-preserved
loop-place-preserved c =
    let before = c.loop-place.invariant in record {
      kept = c.join.ensures.kept (partial_of c.args.table.now)
          (filled_image c.args.table.now c.filled-place-items.ensures.ready c.args.mark c.loop-place.place-index c.number_at.result c.filled-place-items.result.now c.filled-place-items.ensures.places c.loop-place-test.true
          c.number_at.ensures.number c.told-link.result c.told-link.ensures.index c.told-link.ensures.chamber c.told-link.ensures.image)
          before.kept;
    }

pub returns-then-not-join-clause-kept : goal.returns-then-not-join-clause-kept
returns-then-not-join-clause-kept c =
    c.join.ensures.kept (partial_of c.args.table.now)
    (filled_image c.args.table.now c.filled-place-items.ensures.ready c.args.mark c.loop-place.place-index c.number_at.result c.filled-place-items.result.now c.filled-place-items.ensures.places c.loop-place-test.true
    c.number_at.ensures.number c.told-link.result c.told-link.ensures.index c.told-link.ensures.chamber c.told-link.ensures.image)
    c.loop-place.invariant.kept

pub returns-then-not-join-clause-dead : goal.returns-then-not-join-clause-dead
returns-then-not-join-clause-dead c _ =
    c.join.ensures.dead c.if-not-join.true (partial_of c.args.table.now)
    (filled_image c.args.table.now c.filled-place-items.ensures.ready c.args.mark c.loop-place.place-index c.number_at.result c.filled-place-items.result.now c.filled-place-items.ensures.places c.loop-place-test.true
    c.number_at.ensures.number c.told-link.result c.told-link.ensures.index c.told-link.ensures.chamber c.told-link.ensures.image)
    c.loop-place.invariant.kept
