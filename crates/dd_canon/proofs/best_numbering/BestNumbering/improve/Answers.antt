use Rattle.std.proofs.Common.{length, sym, ap, ◌∙◌, arith}
use Rattle.std.specs.Ordering.{is_lt}
use Rattle.dd_model.specs.Isomorphic.{IsIsomorphism}
use Rattle.dd_canon.proofs.OrderLemmas.{greater_of, less_not_greater, equal_not_greater, tied}
use Rattle.dd_canon.proofs.FormLemmas.{whole_bijection, stays_best, becomes_best, reached}
use Rattle.dd_canon.proofs.OrbitLemmas.{left_out, joined_orbits, order_inside}
use Rattle.dd_canon.proofs.BestLemmas.{standing_less}
use Rattle.dd_canon.proofs.best_numbering.BestNumbering.improve.Goals as goal

pub returns-then-not-is_smallest-clause-best : goal.returns-then-not-is_smallest-clause-best
returns-then-not-is_smallest-clause-best g c =
    let s = c.args.s.now in
    let x = c.args.self.now in
    let b = c.requires.best in
    let joined = c.if-not-is_smallest.ensures.no in
    record {
      start = b.start;
      home = b.home;
      whole = b.whole;
      table = b.table;
      form = b.form;
      best = left_out s b.home.symbol.symbol.table b.home.connected x.form x.orbits c.args.start joined.0 b.orbits b.best c.requires.start joined.1 joined.2;
      there = b.there;
      orbits = b.orbits;
    }

pub returns-then-is_gt-clause-best : goal.returns-then-is_gt-clause-best
returns-then-is_gt-clause-best g c =
    let b = c.requires.best in
    record {
      start = b.start;
      home = b.home;
      whole = b.whole;
      table = b.table;
      form = b.form;
      best = stays_best c.args.s.now c.args.self.now.form c.args.start c.stand-order.result b.best c.stand-order.ensures.standing (ap is_lt (greater_of c.stand-order.result (cc)));
      there = c.stand-order.ensures.ready;
      orbits = b.orbits;
    }

pub renumber-requires : goal.renumber-requires
renumber-requires g c =
    let visit = c.stand-order.new.self in
    rw c.deref.ensures.value
    (whole_bijection c.args.s.now c.args.start visit.order.items visit.number.items (c.stand-order.ensures.whole (less_not_greater c.stand-order.result (cc))))

pub returns-then-better-clause-best : goal.returns-then-better-clause-best
returns-then-better-clause-best g c =
    let s = c.args.s.now in
    let b = c.requires.best in
    let visit = c.stand-order.new.self in
    let new = c.in_ok-self.ensures in
    let whole = c.stand-order.ensures.whole (less_not_greater c.stand-order.result (cc)) in
    let iso : IsIsomorphism s c.in_ok-self.field-0 visit.number.items = rw (← c.deref.ensures.value) new.isomorphism in
    rw (c.swap.ensures.x_after, c.swap.ensures.y_after)
    (record {
      start = c.args.start;
      home = c.stand-order.ensures.ready;
      whole = whole;
      table = new.symbol.symbol.table;
      form = iso;
      best = becomes_best s c.args.self.now.form c.in_ok-self.field-0 c.args.start visit.order.items visit.number.items c.stand-order.result
          b.home.symbol.symbol.table b.home.connected c.requires.start b.best c.stand-order.ensures.standing (cc) whole new.symbol.symbol.table iso;
      there = b.home;
      orbits = b.orbits;
    })

pub returns-then-better-clause-better : goal.returns-then-better-clause-better
returns-then-better-clause-better g c =
    let s = c.args.s.now in
    let visit = c.stand-order.new.self in
    let new = c.in_ok-self.ensures in
    let whole = c.stand-order.ensures.whole (less_not_greater c.stand-order.result (cc)) in
    let iso : IsIsomorphism s c.in_ok-self.field-0 visit.number.items = rw (← c.deref.ensures.value) new.isomorphism in
    standing_less s c.args.self.now.form c.in_ok-self.field-0 c.args.start visit.order.items visit.number.items c.stand-order.result c.stand-order.ensures.standing (cc) whole new.symbol.symbol.table iso

pub join_along-requires-clause-lengths : goal.join_along-requires-clause-lengths
join_along-requires-clause-lengths g c =
    let equal = tied c.stand-order.result (cc) (cc) in
    let whole = c.stand-order.ensures.whole (equal_not_greater c.stand-order.result equal) in
    ap length c.deref-3.ensures.value ∙ whole.inverse.back_images ∙ sym c.requires.best.whole.inverse.back_images ∙ sym (ap length c.deref-2.ensures.value)

pub join_along-requires-clause-ones : goal.join_along-requires-clause-ones
join_along-requires-clause-ones g c =
    let b = c.requires.best in
    let x = c.args.self.now in
    let many = b.whole.inverse.back_images in
    rw c.deref-2.ensures.value (λ k low. order_inside c.args.s.now b.start x.home.order.items x.home.number.items x.orbits k b.whole b.orbits (omega arith))

pub join_along-requires-clause-others : goal.join_along-requires-clause-others
join_along-requires-clause-others g c =
    let b = c.requires.best in
    let visit = c.stand-order.new.self in
    let equal = tied c.stand-order.result (cc) (cc) in
    let whole = c.stand-order.ensures.whole (equal_not_greater c.stand-order.result equal) in
    let many = b.whole.inverse.back_images in
    rw (c.deref-2.ensures.value, c.deref-3.ensures.value)
    (λ k low. order_inside c.args.s.now c.args.start visit.order.items visit.number.items c.args.self.now.orbits k whole b.orbits (omega arith))

pub returns-clause-best : goal.returns-clause-best
returns-clause-best g c =
    let s = c.args.s.now in
    let x = c.args.self.now in
    let b = c.requires.best in
    let visit = c.stand-order.new.self in
    let is = b.home.symbol.symbol.table in
    let equal = tied c.stand-order.result (cc) (cc) in
    let whole = c.stand-order.ensures.whole (equal_not_greater c.stand-order.result equal) in
    let there = reached s x.form c.args.start visit.order.items visit.number.items c.stand-order.result is b.table c.stand-order.ensures.standing equal whole in
    record {
      start = b.start;
      home = b.home;
      whole = b.whole;
      table = b.table;
      form = b.form;
      best = stays_best s x.form c.args.start c.stand-order.result b.best c.stand-order.ensures.standing (cc);
      there = c.stand-order.ensures.ready;
      orbits = joined_orbits s x.form is b.start c.args.start x.home.order.items x.home.number.items visit.order.items visit.number.items b.whole whole b.form there
          x.orbits c.join_along.new.self (length x.home.order.items) b.whole.inverse.back_images b.orbits (rw (← c.deref-2.ensures.value, ← c.deref-3.ensures.value) c.join_along.ensures);
    }
