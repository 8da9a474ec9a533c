use Rattle.std.proofs.Common.{sym, ap, ◌∙◌, subst, arith}
use Rattle.std.proofs.lemmas.Result.{err_from_is_err_and}
use Rattle.dd_model.specs.declared.pair.Pair.TheVariants.{Tile, Vertex}
use Rattle.dd_model.specs.Spelling.{Tells, values}
use Rattle.dd_symbol.specs.Images.{with_degrees}
use Rattle.dd_symbol.proofs.RefusalLemmas.{refused-from_fault}
use Rattle.dd_text.specs.Texts.{told_of}
use Rattle.dd_text.specs.Images.{AreDegrees}
use Rattle.dd_text.specs.ListFaults.{IsDegreesFault}
use Rattle.dd_text.specs.SymbolFaults.{IsShapeFault}
use Rattle.dd_text.proofs.SymbolReads.{fault_m01, fault_m12, are_told, lists_give, refusal_fault}
use Rattle.dd_text.proofs.file_reader.symbol_of.Goals as goal

pub returns-in_err-involutions-clause-why : goal.returns-in_err-involutions-clause-why
returns-in_err-involutions-clause-why c =
    let p = err_from_is_err_and c.from_residual.result c.from_residual.ensures.1 in
    rw (p.1, p.2) (c.in_err-involutions.ensures.why c.args.at)

pub returns-in_err-m01-clause-why : goal.returns-in_err-m01-clause-why
returns-in_err-m01-clause-why c =
    let p = err_from_is_err_and c.from_residual-in_err-m01.result c.from_residual-in_err-m01.ensures.1 in
    let i = c.in_ok-involutions.ensures.told in
    rw (p.1, p.2) (λ x e. fault_m01 c.args.text.now x c.args.at i.s0 i.s1 i.s2 _ _ e (are_told c.args.text.now x i.s0 i.s1 i.s2 e i.s0_told i.s1_told i.s2_told)
    (subst (λ s. IsDegreesFault s Tile (told_of c.args.text.now.m01) c.in_err-m01.field-0.0.why c.in_err-m01.field-0.0.at) i.same c.in_err-m01.ensures.why))

pub returns-in_err-m12-clause-why : goal.returns-in_err-m12-clause-why
returns-in_err-m12-clause-why c =
    let p = err_from_is_err_and c.from_residual-in_err-m12.result c.from_residual-in_err-m12.ensures.1 in
    let i = c.in_ok-involutions.ensures.told in
    rw (p.1, p.2) (λ x e. fault_m12 c.args.text.now x c.args.at i.s0 i.s1 i.s2 c.in_ok-m01.m01.items _ _ e (are_told c.args.text.now x i.s0 i.s1 i.s2 e i.s0_told i.s1_told i.s2_told)
    (subst (λ s. AreDegrees s Tile (values (told_of c.args.text.now.m01)) c.in_ok-m01.m01.items) i.same c.in_ok-m01.ensures.ok)
    (subst (λ s. IsDegreesFault s Vertex (told_of c.args.text.now.m12) c.in_err-m12.field-0.0.why c.in_err-m12.field-0.0.at) i.same c.in_err-m12.ensures.why))

pub returns-in-Ok-clause-tells : goal.returns-in-Ok-clause-tells
returns-in-Ok-clause-tells c x e =
    let i = c.in_ok-involutions.ensures.told in
    subst (Tells x) (sym c.in-Ok.ensures.symbol) (lists_give c.args.text.now x i.s0 i.s1 i.s2 c.in_ok-m01.m01.items c.in_ok-m12.m12.items c.in_ok-involutions.involutions e
    i.same i.s0_told i.s1_told i.s2_told c.in_ok-m01.ensures.ok c.in_ok-m12.ensures.ok).tells

pub returns-in-Ok-clause-readable : goal.returns-in-Ok-clause-readable
returns-in-Ok-clause-readable c =
    let ok = c.in-Ok.ensures.accepted in
    let i = c.in_ok-involutions.ensures.told in
    let size = ap (λ s. s.size) c.in-Ok.ensures.symbol ∙ ap (λ s. s.size) i.same ∙ i.s0_told.length_is in
    let small = c.requires in
    record { symbol = ok.symbol; connected = ok.connected; size = omega (arith, size, small) }

pub returns-in-Err-clause-why : goal.returns-in-Err-clause-why
returns-in-Err-clause-why c x e =
    let s = with_degrees c.in_ok-involutions.involutions c.in_ok-m01.m01.items c.in_ok-m12.m12.items in
    let i = c.in_ok-involutions.ensures.told in
    let size = ap (λ t. t.size) i.same ∙ i.s0_told.length_is in
    let small = c.requires in
    let gives = lists_give c.args.text.now x i.s0 i.s1 i.s2 c.in_ok-m01.m01.items c.in_ok-m12.m12.items c.in_ok-involutions.involutions e
    i.same i.s0_told i.s1_told i.s2_told c.in_ok-m01.ensures.ok c.in_ok-m12.ensures.ok in
    subst (λ w. IsShapeFault x c.args.at w c.args.at) (sym c.why_of.ensures)
    (refusal_fault x s c.args.at c.in-Err.refusal gives (refused-from_fault 1024 s (omega (arith, size, small)) c.in-Err.refusal c.in-Err.ensures.why))
