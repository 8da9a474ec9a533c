use Rattle.std.proofs.Common.{length, ap, ◌∙◌, subst, sym, arith}
use Rattle.dd_covers.specs.Settling.{AreReady, IsSettled}
use Rattle.dd_covers.specs.Shifts.{AreZeros}
use Rattle.dd_covers.specs.TorusCover.{AreColors}
use Rattle.dd_covers.proofs.SettleLemmas.{IsUnderWay, nothing_popped, ready_on, settled_on, settled_all}
use Rattle.dd_covers.proofs.SettledFirst.{under_way}
use Rattle.dd_covers.specs.Joins.{AreWholeJoins}
use Rattle.dd_covers.proofs.torus_shifts.torus_shifts.Goals as goal

pub loop-join-init : goal.loop-join-init
loop-join-init c =
    let s = c.base.inside.symbol.now in
    let same = c.symbol-symbol.ensures.same in
    let white = c.as_slice-white.ensures.value in
    rw (← c.base.view_is)
    (under_way s c.symbol-symbol.ensures.symbol c.symbol-symbol.ensures.connected c.base.invariant.oriented c.base.invariant.flat c.args.k (rw c.base.view_is c.requires)
    c.in_ok-wants.wants.items c.in_ok-wants.ensures c.as_slice-white.result.now
    (subst (AreColors s) (sym white) c.in_ok-visits.ensures.colors)
    (ap length white ∙ c.in_ok-visits.ensures.whites)
    c.in_ok-visits.visits.number.items c.in_ok-visits.ensures.order
    c.in_ok-shifts.shifts (subst (λ t. AreZeros t c.in_ok-shifts.shifts) same c.in_ok-shifts.ensures)
    c.in_ok-joins.joins.items (subst (λ f. AreWholeJoins s f c.in_ok-joins.joins.items) c.as_slice-numbers.ensures.value c.in_ok-joins.ensures))

pub settle-requires : goal.settle-requires
settle-requires c =
    let s = c.args.base.now in
    let white = c.as_slice-white.result.now in
    let u = subst (IsUnderWay s c.args.k white c.loop-join.shifts c.loop-join.wants.items) c.in-Some.ensures.items c.loop-join.invariant in
    subst (λ t. AreReady t white c.args.k c.in-Some.join c.loop-join.shifts c.loop-join.wants.items) (sym (c.symbol-symbol.ensures.same ∙ c.base.view_is))
    (ready_on s c.args.k white c.loop-join.shifts c.loop-join.wants.items c.pop.new.self.items c.in-Some.join u)

pub loop-join-preserved : goal.loop-join-preserved
loop-join-preserved c =
    let s = c.args.base.now in
    let white = c.as_slice-white.result.now in
    let u = subst (IsUnderWay s c.args.k white c.loop-join.shifts c.loop-join.wants.items) c.in-Some.ensures.items c.loop-join.invariant in
    settled_on s c.args.k white c.loop-join.shifts c.loop-join.wants.items c.pop.new.self.items c.in-Some.join u c.settle.new.shifts c.settle.new.wants.items
    (subst (λ t. IsSettled t white c.args.k c.in-Some.join c.loop-join.shifts c.loop-join.wants.items c.settle.new.shifts c.settle.new.wants.items) (c.symbol-symbol.ensures.same ∙ c.base.view_is) c.settle.ensures)

pub returns-clause-rules : goal.returns-clause-rules
returns-clause-rules c =
    let s = c.args.base.now in
    let white = c.as_slice-white.result.now in
    settled_all s c.args.k white c.loop-join.shifts c.loop-join.wants.items
    (subst (IsUnderWay s c.args.k white c.loop-join.shifts c.loop-join.wants.items) (nothing_popped c.loop-join.joins.items (λ some. c.in_default.ensures.variant.1 (omega arith))) c.loop-join.invariant)
