use Rattle.std.proofs.Common.{ap, ◌∙◌}
use Rattle.std.proofs.lemmas.List.{append-nil}
use Rattle.dd_model.specs.Code.{chambers}
use Rattle.dd_covers.specs.Sheets.{below_sheets}
use Rattle.dd_covers.proofs.KeptCovers.{oriented_by_itself}
use Rattle.dd_covers.proofs.oriented_cover.itself.Goals as goal

pub returns : goal.returns
returns c =
    let s = c.args.s.now in
    let each = ap (λ u. below_sheets u 1) c.symbol-symbol.ensures.same ∙ append-nil (chambers s) in
    oriented_by_itself s c.symbol-symbol.ensures.symbol.symbol.table c.symbol-symbol.ensures.connected c.requires
    _ c.in_ok-try_copy.ensures (c.in_ok-chambers.ensures ∙ each) (c.in_ok-turn.ensures ∙ each)
