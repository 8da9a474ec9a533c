use Rattle.std.proofs.Common.{sym, ◌∙◌, subst}
use Rattle.dd_model.specs.Isomorphic.{IsIsomorphism}
use Rattle.dd_symbol.specs.Table.{symbol_of}
use Rattle.dd_symbol.proofs.RenumberLemmas.{isomorphism-carried}
use Rattle.dd_symbol.proofs.code_table.CodeTable.renumbered.Goals as goal

pub returns : goal.returns
returns c =
    let s = symbol_of c.args.self.now in
    subst (λ t. IsIsomorphism s t c.args.map.now) (sym c.in_ok-followed_by.ensures)
    (isomorphism-carried s c.in_ok-involutions.involutions c.args.map.now c.args.back.now c.deref.result.now c.deref-2.result.now
    c.args.self.now.three.involutions c.requires.maps c.in_ok-involutions.ensures.carried
    (c.deref.ensures.value ∙ c.in_ok-m01.ensures) (c.deref-2.ensures.value ∙ c.in_ok-m12.ensures))
