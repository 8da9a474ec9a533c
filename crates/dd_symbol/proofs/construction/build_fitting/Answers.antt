use Rattle.std.proofs.Common.{◌≡◌, ap, ◌∙◌, subst}
use Rattle.dd_symbol.specs.Images.{with_degrees}
use Rattle.dd_symbol.specs.Refusals.{IsFault}
use Rattle.dd_symbol.proofs.RefusalLemmas.{no_symbol}
use Rattle.dd_symbol.proofs.construction.build_fitting.Goals as goal

pub returns : goal.returns
returns c =
    let t = c.args.involutions in
    let why = c.in-Err.why in
    let same : c.in_ok-followed_by.field-0 ≡ with_degrees t c.args.m01.items c.args.m12.items =
    c.in_ok-followed_by.ensures ∙ ap (λ ms. with_degrees t ms c.deref-2.result.now) c.deref.ensures.value ∙ ap (with_degrees t c.args.m01.items) c.deref-2.ensures.value in
    no_symbol (with_degrees t c.args.m01.items c.args.m12.items) why (subst (λ s. IsFault s why) same c.in-Err.ensures.why) c.in_default.not-Memory
