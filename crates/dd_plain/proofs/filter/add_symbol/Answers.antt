use Rattle.std.proofs.lemmas.Result.{IfOk-weaker}
use Rattle.dd_plain.proofs.AddsLemmas.{one_added}
use Rattle.dd_plain.proofs.filter.add_symbol.Goals as goal

pub returns : goal.returns
returns c =
    IfOk-weaker c.insert.result _ _
    (λ unit members. one_added c.args.q.now c.args.symbol c.args.list.now c.insert.new.self members
    (record {
      wanted = c.in_ok-is_wanted.ensures.0 c.if-not-branch.false;
      least = c.in_ok-is_least.ensures.0 c.if-not-branch-2.false;
    }))
    c.insert.ensures
