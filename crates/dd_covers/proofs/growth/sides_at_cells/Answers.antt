use Rattle.std.proofs.Common.{◌≡◌, ◌+◌, ◌-◌, length, get_or, set, ap, ◌∙◌, arith}
use Rattle.std.proofs.lemmas.List.{get_or_default, length-set, length_push}
use Rattle.std.proofs.lemmas.List.Elements.{Contains-get_or}
use Rattle.dd_model.specs.declared.index.Index.TheVariants.{Zero}
use Rattle.dd_covers.specs.Waiting.{places}
use Rattle.dd_covers.specs.declared.side.Side.{Side}
use Rattle.dd_covers.proofs.WaitLemmas.{none_noted, none_pushed, noted_at, noted_both}
use Rattle.dd_covers.proofs.growth.sides_at_cells.Goals as goal

abbrev none : Side
none = record { chamber = 0; index = Zero; from = 0; to = 0 }

pub loop-init : goal.loop-init
loop-init c = record {
  many = ap length c.new-at.ensures.items;
  none = λ n. ap (λ at. places at n) c.new-at.ensures.items;
}

pub loop-preserved : goal.loop-preserved
loop-preserved c = record {
  many = ap length c.in_ok-push.ensures.items ∙ length_push c.loop.at.items c.new.result ∙ ap (λ n. n + 1) c.loop.invariant.many;
  none = λ n. ap (λ at. places at n) c.in_ok-push.ensures.items ∙ none_pushed c.loop.at.items c.new.result c.new.ensures.items c.loop.invariant.none n;
}

pub loop-k-init : goal.loop-k-init
loop-k-init c = record {
  many = let e = c.loop.invariant.many in let low = c.loop.auto.counter-end in let high = c.loop-test.false in omega arith;
  sides = none_noted c.args.sides.now (places c.loop.at.items) c.loop.invariant.none;
}

pub index_mut-requires : goal.index_mut-requires
index_mut-requires c =
    let low = (c.requires _ (Contains-get_or c.args.sides.now c.loop-k.k none c.loop-k-test.true)).0 in
    let e = c.loop-k.invariant.many in
    let long = c.loop-k.at.ok.0 in
    omega arith

pub index_mut-requires-in-loop-k : goal.index_mut-requires-in-loop-k
index_mut-requires-in-loop-k c =
    let low = (c.requires _ (Contains-get_or c.args.sides.now c.loop-k.k none c.loop-k-test.true)).1 in
    let e = c.loop-k.invariant.many in
    let long = c.loop-k.at.ok.0 in
    omega arith

pub loop-k-preserved : goal.loop-k-preserved
loop-k-preserved c =
    let sides = c.args.sides.now in
    let at = c.loop-k.at.items in
    let k = c.loop-k.k in
    let x = get_or sides k none in
    let inside = c.loop-k-test.true in
    let ends = c.requires x (Contains-get_or sides k none inside) in
    let many = c.loop-k.invariant.many in
    let after = length sides - 1 - k in
    let middle = set at x.from c.push-in-loop-k.new.self in
    let long : length middle ≡ length at = length-set at x.from c.push-in-loop-k.new.self in
    record {
      many = length-set middle x.to c.push-in-loop-k-2.new.self ∙ long ∙ many;
      sides = noted_both sides k after x (places at) (places middle) (places (set middle x.to c.push-in-loop-k-2.new.self)) (omega arith) (get_or_default sides k x none inside)
          (noted_at at x.from after c.push-in-loop-k.new.self c.index_mut.result.now _ (omega (arith, ends.0)) c.index_mut.ensures.value c.in_ok-push-2.ensures.items)
          (noted_at middle x.to after c.push-in-loop-k-2.new.self c.index_mut-in-loop-k.result.now _ (omega (arith, ends.1)) c.index_mut-in-loop-k.ensures.value c.in_ok-push-3.ensures.items)
          c.loop-k.invariant.sides;
    }
