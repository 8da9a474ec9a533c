use Rattle.std.proofs.Common.{◌∙◌}
use Rattle.std.proofs.lemmas.Result.{IfOk-weaker}
use Rattle.dd_quotient.proofs.DualLemmas.{listed-dual, accepted-dual}
use Rattle.dd_quotient.proofs.duals.dual.Goals as goal

pub build_known_lists-requires : goal.build_known_lists-requires
build_known_lists-requires c =
    let is = c.symbol-symbol.ensures in
    let same = listed-dual is.symbol.symbol.table is.same c.in_ok-images.ensures c.in_ok-images-2.ensures c.in_ok-images-3.ensures c.in_ok-m01.ensures c.in_ok-m12.ensures in
    let accepted = accepted-dual c.args.s.now _ is.symbol is.connected same in
    record { symbol = accepted.symbol; connected = accepted.connected }

pub returns : goal.returns
returns c =
    let is = c.symbol-symbol.ensures in
    let same = listed-dual is.symbol.symbol.table is.same c.in_ok-images.ensures c.in_ok-images-2.ensures c.in_ok-images-3.ensures c.in_ok-m01.ensures c.in_ok-m12.ensures in
    IfOk-weaker c.build_known_lists.result _ _ (λ dual given. given ∙ same) c.build_known_lists.ensures
