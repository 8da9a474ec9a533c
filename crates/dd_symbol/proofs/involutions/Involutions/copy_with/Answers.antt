use Rattle.dd_symbol.proofs.TableLemmas.{followed_by, three_followed_by}
use Rattle.dd_symbol.proofs.involutions.Involutions.copy_with.Goals as goal

pub invariant_of-result-2 : goal.invariant_of-result-2
invariant_of-result-2 c =
    let r = c.self.inside.rows in
    three_followed_by r.size r.numbers c.in_ok-front_with.field-0 c.args.m01.now c.args.m12.now c.args.self.now r.length c.self.view_is c.requires.tiles
    c.in_ok-front_with.ensures c.self.invariant

pub returns : goal.returns
returns c =
    let r = c.self.inside.rows in
    followed_by r.size r.numbers c.in_ok-front_with.field-0 c.args.m01.now c.args.m12.now c.args.self.now r.length c.self.view_is c.requires.tiles
    c.in_ok-front_with.ensures
