use Rattle.std.proofs.Common.{◌*◌, ◌≤◌, ap, ◌∙◌, arith}
use Rattle.dd_template.specs.Table.{table_of}
use Rattle.dd_template.proofs.ApplyLemmas.{listed-made, accepted-made}
use Rattle.dd_template.proofs.application.apply.Goals as goal

pub build_known_lists-requires : goal.build_known_lists-requires
build_known_lists-requires g c =
    let is = c.symbol-plain.ensures in
    let same = listed-made c.requires is.symbol is.same c.in_ok-images.ensures c.in_ok-images-2.ensures c.in_ok-images-3.ensures c.in_ok-m01.ensures c.in_ok-m12.ensures in
    let size : c.args.symbol.now.size * g.row.K ≤ 1024 =
    let n = c.size-n.ensures.size ∙ ap (λ u. u.size) is.same in
    let product = ap (λ m. m * g.row.K) n in
    let test = c.if-n.false in
    omega arith in
    let accepted = accepted-made (table_of c.args.template.now) c.args.symbol.now _ c.requires is.symbol is.connected size same in
    record { symbol = accepted.symbol; connected = accepted.connected }

pub returns-clause-made : goal.returns-clause-made
returns-clause-made g c =
    let is = c.symbol-plain.ensures in
    c.in_ok-build_known_lists.ensures
    ∙ listed-made c.requires is.symbol is.same c.in_ok-images.ensures c.in_ok-images-2.ensures c.in_ok-images-3.ensures c.in_ok-m01.ensures c.in_ok-m12.ensures
