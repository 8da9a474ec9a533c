use Rattle.std.proofs.Common.{sym, ◌∙◌, subst}
use Rattle.std.proofs.lemmas.Result.{IfOk-weaker}
use Rattle.dd_symbol.specs.Building.{IsConnectedSymbol}
use Rattle.dd_covers.specs.Shifts.{shift}
use Rattle.dd_covers.proofs.BuiltSheets.{listed-sheets}
use Rattle.dd_covers.proofs.sheets.sheets.Goals as goal

pub build_known_lists-requires : goal.build_known_lists-requires
build_known_lists-requires c =
    let is = c.symbol-symbol.ensures in
    let same = listed-sheets is.same is.symbol.symbol.table c.args.k (shift c.args.shifts.now)
    c.in_ok-images.ensures c.in_ok-images-2.ensures c.in_ok-images-3.ensures c.in_ok-m01.ensures c.in_ok-m12.ensures in
    subst IsConnectedSymbol (sym same) c.requires.symbol

pub returns : goal.returns
returns c =
    let is = c.symbol-symbol.ensures in
    let same = listed-sheets is.same is.symbol.symbol.table c.args.k (shift c.args.shifts.now)
    c.in_ok-images.ensures c.in_ok-images-2.ensures c.in_ok-images-3.ensures c.in_ok-m01.ensures c.in_ok-m12.ensures in
    IfOk-weaker c.build_known_lists.result _ _ (λ cover given. given ∙ same) c.build_known_lists.ensures
