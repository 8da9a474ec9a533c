use Rattle.std.proofs.Common.{◌≡◌}
use Rattle.std.specs.declared.cmp.Ordering.TheVariants.{Equal}
use Rattle.dd_model.proofs.Orders.{equal_of}
use Rattle.dd_canon.proofs.OrderLemmas.{equal_not_greater, not_equal_of}
use Rattle.dd_canon.proofs.SymmetryLemmas.{carries, carries_not, joins}
use Rattle.dd_canon.proofs.symmetries.Symmetries.carry.Goals as goal

pub returns-then-is_ne-clause-map : goal.returns-then-is_ne-clause-map
returns-then-is_ne-clause-map c =
    let s = c.args.s.now in
    let old = c.args.self.now in
    let ready = c.requires.of.ready in
    let visit = c.stand-order.new.self in
    carries_not s old.form ready.symbol.symbol.table old.home.order.items old.home.number.items c.requires.of.home c.requires.of.table c.requires.of.form
    c.args.to c.requires.to c.stand-order.result c.stand-order.ensures.standing visit.order.items visit.number.items (not_equal_of c.stand-order.result (cc))

pub joined-requires : goal.joined-requires
joined-requires c =
    let s = c.args.s.now in
    let old = c.args.self.now in
    let ready = c.requires.of.ready in
    let visit = c.stand-order.new.self in
    let equal : c.stand-order.result ≡ Equal = equal_of c.stand-order.result (cc) in
    record {
      within = rw (c.deref.ensures.value, c.deref-2.ensures.value)
          (joins s old.form ready.symbol.symbol.table old.home.order.items old.home.number.items c.requires.of.home c.requires.of.table c.requires.of.form
          c.args.to c.requires.to c.stand-order.result c.stand-order.ensures.standing visit.order.items visit.number.items equal
          (c.stand-order.ensures.whole (equal_not_greater c.stand-order.result equal)));
    }

pub returns-clause-map : goal.returns-clause-map
returns-clause-map c =
    let s = c.args.s.now in
    let old = c.args.self.now in
    let ready = c.requires.of.ready in
    let visit = c.stand-order.new.self in
    let equal : c.stand-order.result ≡ Equal = equal_of c.stand-order.result (cc) in
    rw (c.in_ok-joined.ensures, c.deref.ensures.value, c.deref-2.ensures.value)
    (carries s old.form ready.symbol.symbol.table old.home.order.items old.home.number.items c.requires.of.home c.requires.of.table c.requires.of.form
    c.args.to c.requires.to c.stand-order.result c.stand-order.ensures.standing visit.order.items visit.number.items equal
    (c.stand-order.ensures.whole (equal_not_greater c.stand-order.result equal)))
