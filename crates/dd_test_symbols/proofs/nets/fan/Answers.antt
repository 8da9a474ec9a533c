use Rattle.std.proofs.Common.{◌+◌, ◌≡◌, refl, subst, arith}
use Rattle.dd_test_symbols.specs.Spokes.{AreJoinedBelow}
use Rattle.dd_test_symbols.proofs.SpokeLemmas.{joined_more, joined_next, connected}
use Rattle.dd_test_symbols.proofs.nets.fan.Goals as goal

pub loop-to-preserved : goal.loop-to-preserved
loop-to-preserved c =
    joined_next c.args.vertices c.loop-to.to c.loop-to.edges.items c.push-in-loop-to.new.self.items _ c.in_ok-push-2.ensures.items c.loop-to.invariant refl refl
    (let low = c.loop-to.auto.to in omega arith) (omega (arith, c.loop-to-test.true))

pub loop-from-init : goal.loop-from-init
loop-from-init c =
    let end : c.loop-to.to ≡ c.args.vertices + 1 = omega (arith, c.requires.some, c.loop-to.auto.to-end, c.loop-to-test.false) in
    subst (λ m. AreJoinedBelow c.args.vertices m c.loop-to.edges.items) end c.loop-to.invariant

pub loop-from-preserved : goal.loop-from-preserved
loop-from-preserved c =
    joined_more c.args.vertices (c.args.vertices + 1) c.loop-from.edges.items c.push-in-loop-from.new.self.items _ c.in_ok-push-3.ensures.items c.loop-from.invariant
    (omega (arith, c.loop-from.auto.from)) (omega (arith, c.loop-from-test.true)) (omega arith) (omega (arith, c.loop-from-test.true))

pub invariant_of-result : goal.invariant_of-result
invariant_of-result c = record { joined = connected _ _ (omega (arith, c.requires.some)) c.loop-from.invariant }
