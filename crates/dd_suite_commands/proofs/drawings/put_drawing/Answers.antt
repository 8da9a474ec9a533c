use Rattle.std.proofs.lemmas.Result.{on_ok_weaker, IfErr-weaker}
use Rattle.dd_suite_commands.specs.Drawings.{IsWideNet, IsUndrawn}
use Rattle.dd_suite_commands.specs.Stops.{IsStop}
use Rattle.dd_suite_commands.proofs.DrawnOnce.{drawing_of_net, stop_of_net}
use Rattle.dd_suite_commands.proofs.drawings.put_drawing.Goals as goal

pub returns-clause-text : goal.returns-clause-text
returns-clause-text c =
    let s = c.args.s.now in
    let of = c.in_ok-of.ensures in
    on_ok_weaker c.put_net.result (λ told. drawing_of_net c.args.shape s c.in_ok-of.of c.args.out.now.items c.put_net.new.out.items of.least of.drawable told) c.put_net.ensures.text

pub returns-clause-why : goal.returns-clause-why
returns-clause-why c =
    let s = c.args.s.now in
    let net = c.in_ok-of.of.net in
    let of = c.in_ok-of.ensures in
    IfErr-weaker c.put_net.result (IsStop (IsWideNet net)) (IsStop (IsUndrawn s))
    (λ stop. stop_of_net s net stop (record { torus = c.in_ok-of.of.torus; least = of.least; is_net = of.drawable.net }) of.drawable.few) c.put_net.ensures.why
