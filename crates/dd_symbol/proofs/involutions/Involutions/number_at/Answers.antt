use Rattle.std.proofs.Common.{length, get_or, sym, ap, ◌∙◌, arith}
use Rattle.dd_symbol.proofs.TableLemmas.{code_kept}
use Rattle.dd_symbol.proofs.involutions.Involutions.number_at.Goals as goal

pub get-requires : goal.get-requires
get-requires c =
    let r = c.self.inside.rows in
    let long = ap length (code_kept r.size r.numbers c.args.self.now r.length c.self.view_is) in
    omega arith

pub returns : goal.returns
returns c =
    let r = c.self.inside.rows in
    c.get.ensures ∙ ap (λ xs. get_or xs c.args.place 0) (sym (code_kept r.size r.numbers c.args.self.now r.length c.self.view_is))
