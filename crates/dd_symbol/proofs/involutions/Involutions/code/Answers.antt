use Rattle.std.proofs.Common.{sym, ◌∙◌}
use Rattle.dd_symbol.proofs.TableLemmas.{code_kept}
use Rattle.dd_symbol.proofs.involutions.Involutions.code.Goals as goal

pub returns : goal.returns
returns c =
    let r = c.self.inside.rows in
    c.from_vec.ensures ∙ c.in_ok-words.ensures ∙ sym (code_kept r.size r.numbers c.args.self.now r.length c.self.view_is)
