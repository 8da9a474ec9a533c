use Rattle.std.proofs.Common.{◌≡◌, ◌+◌, drop, sym, ◌∙◌, arith}
use Rattle.std.specs.Ordering.{nat_cmp}
use Rattle.std.specs.Cmp.Lexicographic.{slice_cmp}
use Rattle.dd_model.specs.Symbol.{item, degree}
use Rattle.dd_canon.specs.Standing.{degree_list}
use Rattle.dd_canon.proofs.OrderLemmas.{then_second}
use Rattle.dd_model.proofs.Orders.{then_first}
use Rattle.dd_canon.proofs.StandingLemmas.{degree_step, degree_end}
use Rattle.dd_canon.proofs.visits.NumberedChambers.degrees.Goals as goal

pub degree-own-requires : goal.degree-own-requires
degree-own-requires g c =
    rw (c.item-chamber.ensures, c.deref.ensures.value)
    (c.requires.visit.within (c.loop-k.k + 1) (omega arith) (omega arith))

pub returns-then-is_ne-clause-order : goal.returns-then-is_ne-clause-order
returns-then-is_ne-clause-order g c t f ext =
    let s = c.args.s.now in
    let b = c.args.form.now in
    let p = c.args.pair in
    let k = c.loop-k.k in
    let order = c.args.self.now.order.items in
    let e : c.compare-order.result ≡ nat_cmp (degree s p (item order (k + 1))) (degree b p (k + 1)) = cc in
    then_first c.compare-order.result (slice_cmp nat_cmp (drop (k + 1) (degree_list t p)) (drop (k + 1) (degree_list b p))) (cc)
    ∙ sym (degree_step s b t p f order c.args.self.now.number.items k c.compare-order.result c.requires.visit c.requires.full c.requires.size ext (omega arith) e)
    ∙ c.loop-k.invariant.order t f ext

pub loop-k-preserved : goal.loop-k-preserved
loop-k-preserved g c = record {
  order = λ t f ext.
      let s = c.args.s.now in
      let b = c.args.form.now in
      let p = c.args.pair in
      let k = c.loop-k.k in
      let order = c.args.self.now.order.items in
      let e : c.compare-order.result ≡ nat_cmp (degree s p (item order (k + 1))) (degree b p (k + 1)) = cc in
      sym (then_second c.compare-order.result (slice_cmp nat_cmp (drop (k + 1) (degree_list t p)) (drop (k + 1) (degree_list b p))) (cc))
      ∙ sym (degree_step s b t p f order c.args.self.now.number.items k c.compare-order.result c.requires.visit c.requires.full c.requires.size ext (omega arith) e)
      ∙ c.loop-k.invariant.order t f ext;
  count = let a = c.loop-k.invariant.count in let b = c.compare-order.ensures.count in omega arith;
}

pub returns-clause-order : goal.returns-clause-order
returns-clause-order g c t f ext =
    let s = c.args.s.now in
    sym (degree_end s c.args.form.now t c.args.pair f c.args.self.now.order.items c.loop-k.k c.requires.size ext (omega arith))
    ∙ c.loop-k.invariant.order t f ext
