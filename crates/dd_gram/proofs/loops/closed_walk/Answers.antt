use Rattle.std.proofs.Common.{◌≡◌, ◌≤◌, ◌<◌, ℕ, ◌+◌, ◌-◌, List, [], ◌∷◌, ◌++◌, length, get_or, refl, sym, ap, ◌∙◌, subst, arith}
use Rattle.std.proofs.lemmas.List.{length_push, get_or_read}
use Rattle.dd_lattice.specs.declared.net_edge.NetEdge.{NetEdge}
use Rattle.dd_lattice.specs.Nets.{IsNetVertex}
use Rattle.dd_gram.specs.Spreading.{AreSteps}
use Rattle.dd_gram.specs.Tori.{Torus, IsWithNet}
use Rattle.dd_gram.proofs.NumberLemmas.{edges_of}
use Rattle.dd_gram.proofs.SpreadLemmas.{IsOnWay, back, elsewhere, one_more, way_begun, way_end}
use Rattle.dd_gram.proofs.loops.closed_walk.Goals.{then-step-place+in_ok-push, else-step-place}
use Rattle.dd_gram.proofs.loops.closed_walk.Goals as goal

pub loop-k-init : goal.loop-k-init
loop-k-init c =
    let o = c.args.torus.now in
    let told = subst (λ (z : Torus). IsWithNet z.symbol z.net z.edges) c.torus.view_is c.torus.invariant in
    let inside = c.requires in
    let listed : c.args.edge < length o.edges = subst (λ n. c.args.edge < n) (edges_of o.symbol o.net told.is_net o.edges told.cells) inside in
    let read = subst (λ (z : Torus). c.index.result.now ≡ get_or z.net.edges.items c.args.edge c.index.result.now) c.torus.view_is c.index.ensures in
    let whole = c.in_ok-steps.ensures in
    let t = o.symbol in
    let net = o.net in
    let first = get_or_read c.torus.inside.edges.items c.args.edge c.index-2.result.now (subst (λ (z : Torus). c.args.edge < length z.edges) (sym c.torus.view_is) listed) c.index-2.ensures 0
    ∙ ap (λ (z : Torus). get_or z.edges c.args.edge 0) c.torus.view_is in
    let items = c.in_ok-walk.ensures.items ∙ ap (λ d. d ∷ []) first in
    record {
      few = let size = ap (λ (xs : List ℕ). length xs) items in omega arith;
      way = λ is e m many.
          way_begun t net is told.torus.symbol.table.involutions o.edges told.cells c.args.edge e c.index.result.now listed (o.net.joined.to c.args.edge e inside)
          (one_more net.edges.items c.args.edge c.args.edge e c.index.result.now refl inside read) c.in_ok-steps.steps.items whole m (omega arith) c.in_ok-walk.walk.items items;
    }

pub loop-k-preserved : goal.loop-k-preserved
loop-k-preserved c =
    let o = c.args.torus.now in
    let told = subst (λ (z : Torus). IsWithNet z.symbol z.net z.edges) c.torus.view_is c.torus.invariant in
    let inside = c.requires in
    let listed : c.args.edge < length o.edges = subst (λ n. c.args.edge < n) (edges_of o.symbol o.net told.is_net o.edges told.cells) inside in
    let read = subst (λ (z : Torus). c.index.result.now ≡ get_or z.net.edges.items c.args.edge c.index.result.now) c.torus.view_is c.index.ensures in
    let whole = c.in_ok-steps.ensures in
    let t = o.symbol in
    let net = o.net in
    let inv = told.torus.symbol.table.involutions in
    let steps = c.in_ok-steps.steps.items in
    let k = c.loop-k.k in
    let x = c.index-step.result.now in
    let d = get_or o.edges c.args.edge 0 in
    let old = c.loop-k.walk.items in
    let many = c.len.ensures in
    let size = c.in_ok-steps.steps.ok in
    let at_place : (m : ℕ) → m + (k + 1) ≡ length steps → get_or steps m x ≡ x = λ m total.
    one_more steps m (c.len.result - 1 - k) x x (omega (arith, size)) (omega arith) c.index-step.ensures in
    let are : (e : NetEdge) → AreSteps t net (get_or net.edges.items c.args.edge e).from steps = λ e.
    subst (λ (z : NetEdge). AreSteps t net z.from steps) (sym (one_more net.edges.items c.args.edge c.args.edge e c.index.result.now refl inside read)) whole.are in
    elim c.if-step-place.branch [
      | then-step-place+in_ok-push w ↦ record {
        few = let more = ap (λ (xs : List ℕ). length xs) w.in_ok-push.ensures.items in let one = length_push old x.back in let few = c.loop-k.invariant.few in subst (λ (v : _). length v.items ≤ k + 1 + 1) (sym w.walk-is) (omega arith);
        way = λ is e m total.
            let y = get_or net.edges.items c.args.edge e in
            let way : IsOnWay t net is y.from steps d y.x y.y (m + 1) old c.loop-k.place = c.loop-k.invariant.way is e (m + 1) (omega arith) in
            let after_ = back t net is inv y.from steps (are e) d y.x y.y m (omega arith) old c.loop-k.place way x (at_place m total) w.if-step-place.true in
            subst (λ v. IsOnWay t net is y.from steps d y.x y.y m v.items c.if-step-place.place) (sym w.walk-is) (subst (λ ws. IsOnWay t net is y.from steps d y.x y.y m ws c.if-step-place.place) (sym w.in_ok-push.ensures.items) (subst (IsOnWay t net is y.from steps d y.x y.y m (old ++ x.back ∷ [])) (sym w.place-is) after_));
      }
      | else-step-place w ↦ record {
        few = let few = c.loop-k.invariant.few in subst (λ v. length v.items ≤ k + 1 + 1) (sym w.walk-is) (omega arith);
        way = λ is e m total.
            let y = get_or net.edges.items c.args.edge e in
            let way : IsOnWay t net is y.from steps d y.x y.y (m + 1) old c.loop-k.place = c.loop-k.invariant.way is e (m + 1) (omega arith) in
            let after_ = elsewhere t net is inv y.from steps (are e) d y.x y.y m (omega arith) old c.loop-k.place way x (at_place m total) w.if-step-place.false in
            subst (λ v. IsOnWay t net is y.from steps d y.x y.y m v.items c.if-step-place.place) (sym w.walk-is) (subst (IsOnWay t net is y.from steps d y.x y.y m old) (sym w.place-is) after_);
      }
    ]

pub returns-clause-is_loop : goal.returns-clause-is_loop
returns-clause-is_loop c is e =
    let o = c.args.torus.now in
    let told = subst (λ (z : Torus). IsWithNet z.symbol z.net z.edges) c.torus.view_is c.torus.invariant in
    let inside = c.requires in
    let listed : c.args.edge < length o.edges = subst (λ n. c.args.edge < n) (edges_of o.symbol o.net told.is_net o.edges told.cells) inside in
    let y = get_or o.net.edges.items c.args.edge e in
    let end = c.loop-k-test.false in
    let low = c.loop-k.auto.k-end in
    way_end o.symbol o.net is o.edges told.cells c.in_ok-steps.steps.items c.args.edge e y.x y.y c.loop-k.walk.items c.loop-k.place listed
    (c.loop-k.invariant.way is e 0 (omega arith))

pub returns-clause-few : goal.returns-clause-few
returns-clause-few c =
    let few = c.loop-k.invariant.few in
    let steps = c.in_ok-steps.ensures.are.few in
    let end = c.loop-k.auto.k-end in
    omega (arith, c.len-k-end.ensures, c.in_ok-steps.steps.ok)

pub index-requires-2 : goal.index-requires-2
index-requires-2 c =
    let o = c.args.torus.now in
    let told = subst (λ (z : Torus). IsWithNet z.symbol z.net z.edges) c.torus.view_is c.torus.invariant in
    let inside = c.requires in
    let listed : c.args.edge < length o.edges = subst (λ n. c.args.edge < n) (edges_of o.symbol o.net told.is_net o.edges told.cells) inside in
    let inside_ = subst (λ (z : Torus). c.args.edge < length z.edges) (sym c.torus.view_is) listed in
    omega (arith, c.torus.inside.edges.ok)

pub steps_from-requires : goal.steps_from-requires
steps_from-requires c =
    let o = c.args.torus.now in
    let read = subst (λ (z : Torus). c.index.result.now ≡ get_or z.net.edges.items c.args.edge c.index.result.now) c.torus.view_is c.index.ensures in
    subst (λ (x : NetEdge). IsNetVertex o.net x.from) (sym read) (o.net.joined.from c.args.edge c.index.result.now c.requires)
