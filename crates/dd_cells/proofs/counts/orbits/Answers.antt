use Rattle.std.proofs.Common.{◌≡◌, ◌+◌, ◌<◌, ◌≤◌, sym, subst, arith}
use Rattle.dd_model.specs.Symbol.{op}
use Rattle.dd_cells.proofs.CountLemmas.{IsOrbitCount, orbit_more, orbit_same, whole_orbit_count}
use Rattle.dd_cells.proofs.counts.orbits.Goals as goal
use Rattle.dd_cells.proofs.counts.orbits.Goals.{then-chamber-op, else-chamber-op}

pub loop-k-preserved : goal.loop-k-preserved
loop-k-preserved c =
    let s = c.args.symbol.now in
    let i = c.args.i in
    let k = c.loop-k.k in
    let image : c.op.result ≡ op s i (k + 1) = c.op.ensures.image in
    elim c.if-chamber-op.branch [
      | then-chamber-op w ↦
          record {
            counted = subst (IsOrbitCount s i (k + 1)) (sym w.orbits-is)
                (orbit_more s i k c.loop-k.orbits (omega arith) c.loop-k.invariant.counted (subst (λ x. k + 1 ≤ x) image w.if-chamber-op.true));
            small = omega arith;
          }
      | else-chamber-op w ↦
          record {
            counted = subst (IsOrbitCount s i (k + 1)) (sym w.orbits-is)
                (orbit_same s i k c.loop-k.orbits (omega arith) c.loop-k.invariant.counted (subst (λ x. x < k + 1) image w.if-chamber-op.false));
            small = omega arith;
          }
    ]

pub returns-clause-orbits : goal.returns-clause-orbits
returns-clause-orbits c = whole_orbit_count c.args.symbol.now c.args.i c.loop-k.k c.loop-k.orbits (omega arith) c.loop-k.invariant.counted
