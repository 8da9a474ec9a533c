use Rattle.std.proofs.Common.{◌<◌, ◌≤◌, arith}
use Rattle.std.proofs.lemmas.Result.{on_ok_weaker}
use Rattle.dd_text.proofs.OutlineMade.{first_told, one_told, outline_made}
use Rattle.dd_text.proofs.outline.Outline.make.Goals as goal

pub loop-k-init : goal.loop-k-init
loop-k-init c =
    let table = c.size-k-end.ensures.symbol.symbol.table in
    first_told c.args.symbol.now c.args.self.now c.begin.new.self table.involutions table.chambers c.in_ok-begin.ensures

pub loop-k-preserved : goal.loop-k-preserved
loop-k-preserved c =
    let s = c.args.symbol.now in
    let k = c.loop-k.k in
    let size = c.size-k-end.ensures.size in
    let test = c.loop-k-test.true in
    let here : k < s.size = omega arith in
    one_told s k c.begin.new.self c.loop-k.self c.tell.new.self here c.loop-k.invariant c.in_ok-tell.ensures

pub returns : goal.returns
returns c =
    let s = c.args.symbol.now in
    let k = c.loop-k.k in
    let table = c.size-k-end.ensures.symbol.symbol.table in
    let size = c.size-k-end.ensures.size in
    let test = c.loop-k-test.false in
    let whole : s.size ≤ k = omega arith in
    on_ok_weaker c.finish.result
    (λ finished n has. outline_made s table.involutions table.chambers k n c.args.self.now c.begin.new.self c.loop-k.self c.finish.new.self whole c.in_ok-begin.ensures c.loop-k.invariant finished has)
    c.finish.ensures
