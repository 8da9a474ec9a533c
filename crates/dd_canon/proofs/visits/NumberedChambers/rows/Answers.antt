use Rattle.std.proofs.Common.{◌≡◌, suc, [], ◌+◌, ◌-◌, refl, ◌∙◌, subst, arith}
use Rattle.std.specs.declared.cmp.Ordering.TheVariants.{Equal}
use Rattle.dd_model.specs.FirstVisit.{rows}
use Rattle.dd_canon.specs.Traversal.{IsTraversal}
use Rattle.dd_canon.specs.Standing.{IsOngoing}
use Rattle.dd_canon.proofs.VisitLemmas.{fallen_row, going_on, last_row}
use Rattle.dd_canon.proofs.visits.NumberedChambers.rows.Goals as goal

pub loop-k-init : goal.loop-k-init
loop-k-init g c =
    let s = c.args.s.now in
    let e : s.size ≡ s.size - 0 = omega arith in
    record {
      ready = c.requires.ready;
      traversal = subst (λ n. IsTraversal s c.args.form.now c.args.self.now.order.items c.args.self.now.number.items 1 (λ u. rows u 1 n) Equal) e c.requires.traversal;
      start = refl;
      count = omega arith;
    }

pub row-so_far-requires-clause-traversal : goal.row-so_far-requires-clause-traversal
row-so_far-requires-clause-traversal g c =
    let s = c.args.s.now in
    let k = c.loop-k.k in
    let e : s.size - k ≡ suc (s.size - (k + 1)) = omega arith in
    subst (λ n. IsTraversal s c.args.form.now c.loop-k.self.order.items c.loop-k.self.number.items (k + 1) (λ u. rows u (k + 1) n) c.loop-k.so_far) e c.loop-k.invariant.traversal

pub returns-then-is_gt-clause-ongoing : goal.returns-then-is_gt-clause-ongoing
returns-then-is_gt-clause-ongoing g c =
    let s = c.args.s.now in
    let k = c.loop-k.k in
    let ongoing = subst (λ first. IsOngoing s c.args.form.now first c.row-so_far.new.self.order.items c.row-so_far.new.self.number.items (k + 1 + 1) (λ u. rows u (k + 1 + 1) (s.size - (k + 1))) c.row-so_far.result)
    c.loop-k.invariant.start c.row-so_far.ensures.ongoing in
    fallen_row s c.args.form.now _ c.row-so_far.new.self.order.items c.row-so_far.new.self.number.items (k + 1 + 1) (s.size - (k + 1)) (s.size + 1) (λ u. []) c.row-so_far.result ongoing (cc)

pub loop-k-preserved : goal.loop-k-preserved
loop-k-preserved g c =
    let s = c.args.s.now in
    let k = c.loop-k.k in
    let on = going_on s c.args.form.now _ c.row-so_far.new.self.order.items c.row-so_far.new.self.number.items (k + 1 + 1) (λ u. rows u (k + 1 + 1) (s.size - (k + 1))) c.row-so_far.result c.row-so_far.ensures.ongoing (cc) in
    record {
      ready = c.row-so_far.ensures.ready;
      traversal = on.0;
      start = on.1 ∙ c.loop-k.invariant.start;
      count = let a = c.loop-k.invariant.count in let b = c.row-so_far.ensures.count in omega arith;
    }

pub returns-clause-ongoing : goal.returns-clause-ongoing
returns-clause-ongoing g c =
    let s = c.args.s.now in
    let k = c.loop-k.k in
    last_row s c.args.form.now _ c.loop-k.self.order.items c.loop-k.self.number.items k c.loop-k.so_far c.loop-k.invariant.traversal (omega arith) c.loop-k.invariant.start
