use Rattle.std.proofs.Common.{◌+◌, ◌-◌, ◌*◌, get_or, sym, ap, ◌∙◌}
use Rattle.dd_symbol.proofs.TableLemmas.{item-row}
use Rattle.dd_symbol.proofs.code_rows.CodeRows.image.Goals as goal

pub returns : goal.returns
returns c =
    let t = c.args.self.now in
    let d = c.args.chamber in
    c.get.ensures
    ∙ ap (λ j. get_or t.numbers (3 * (d - 1) + j) 0) (c.from.ensures ∙ c.number.ensures.number)
    ∙ sym (item-row t.size t.numbers c.args.i d c.requires.0 c.requires.1)
