use Rattle.std.proofs.Common.{◌≡◌, ◌≢◌, ap, ◌∙◌, subst}
use Rattle.dd_symbol.specs.Building.{IsConnectedSymbol}
use Rattle.dd_symbol.specs.Images.{with_degrees}
use Rattle.dd_symbol.specs.Refusals.{IsFault}
use Rattle.dd_symbol.specs.declared.refusals.Refusal.TheVariants.{Memory}
use Rattle.dd_symbol.proofs.RefusalLemmas.{handed_on, no_symbol}
use Rattle.dd_symbol.proofs.construction.build_on.Goals as goal

pub returns-in_err-check-clause-refused : goal.returns-in_err-check-clause-refused
returns-in_err-check-clause-refused c =
    let t = c.args.involutions in
    let s = with_degrees t c.args.m01.items c.args.m12.items in
    let why = c.in_err-check.field-0.0 in
    let same : c.in_ok-followed_by.field-0 ≡ s =
    c.in_ok-followed_by.ensures ∙ ap (λ ms. with_degrees t ms c.deref-2.result.now) c.deref.ensures.value ∙ ap (with_degrees t c.args.m01.items) c.deref-2.ensures.value in
    handed_on c.from_residual-in_err-check.result (λ y. y ≢ Memory → IsConnectedSymbol s → ⊥) why
    c.from_residual-in_err-check.ensures.1 (no_symbol s why (subst (λ u. IsFault u why) same c.in_err-check.ensures.why))
