use Rattle.dd_gram.proofs.Distinct.{same_form}
use Rattle.dd_gram.proofs.SizeLemmas.{sum_read}
use Rattle.dd_gram.proofs.forms.Gram.plus.Goals as goal

pub returns : goal.returns
returns c =
    let g = c.args.self in
    let h = c.args.other in
    same_form _ _ (sum_read g.a h.a c.requires.own.a c.requires.other.a) (sum_read g.b h.b c.requires.own.b c.requires.other.b) (sum_read g.c h.c c.requires.own.c c.requires.other.c)
