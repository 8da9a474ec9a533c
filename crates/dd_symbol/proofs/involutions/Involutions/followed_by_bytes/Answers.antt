use Rattle.std.proofs.Common.{◌++◌, ap, ◌∙◌}
use Rattle.dd_symbol.proofs.TableLemmas.{followed_by, three_followed_by}
use Rattle.dd_symbol.proofs.involutions.Involutions.followed_by_bytes.Goals as goal

pub invariant_of-result-2 : goal.invariant_of-result-2
invariant_of-result-2 c =
    let r = c.self.inside.rows in
    let m01 = c.args.m01.now in
    let m12 = c.args.m12.now in
    three_followed_by r.size r.numbers c.extend_bytes-2.new.self m01 m12 c.args.self r.length c.self.view_is c.requires.tiles
    (c.in_ok-extend_bytes-2.ensures ∙ ap (λ xs. xs ++ m12) (c.in_ok-extend_bytes.ensures ∙ ap (λ xs. xs ++ m01) c.truncate.ensures)) c.self.invariant

pub returns : goal.returns
returns c =
    let r = c.self.inside.rows in
    let m01 = c.args.m01.now in
    let m12 = c.args.m12.now in
    followed_by r.size r.numbers c.extend_bytes-2.new.self m01 m12 c.args.self r.length c.self.view_is c.requires.tiles
    (c.in_ok-extend_bytes-2.ensures ∙ ap (λ xs. xs ++ m12) (c.in_ok-extend_bytes.ensures ∙ ap (λ xs. xs ++ m01) c.truncate.ensures))
