use Rattle.std.proofs.Common.{sym, subst}
use Rattle.dd_model.specs.Symbol.{AreInvolutions}
use Rattle.dd_symbol.proofs.TableLemmas.{listed-from_rows, three_of_code}
use Rattle.dd_symbol.proofs.involutions.Involutions.from_known.Goals as goal

pub invariant_of-result-2 : goal.invariant_of-result-2
invariant_of-result-2 c =
    let same = listed-from_rows c.args.lists.now.s0.now c.args.lists.now.s1.now c.args.lists.now.s2.now _ c.args.lists.now.ones c.args.lists.now.twos c.in_ok-numbers.ensures in
    three_of_code _ c.in_ok-numbers.numbers c.args.lists.now.small (subst AreInvolutions (sym same) c.requires)

pub returns : goal.returns
returns c = listed-from_rows c.args.lists.now.s0.now c.args.lists.now.s1.now c.args.lists.now.s2.now _ c.args.lists.now.ones c.args.lists.now.twos c.in_ok-numbers.ensures
