use Rattle.std.proofs.Common.{◌≡◌, ◌≢◌, ◌≤◌, [], length, sym, ap, ◌∙◌, subst, arith}
use Rattle.std.proofs.lemmas.Result.{IfOk-weaker, IfErr-weaker}
use Rattle.dd_symbol.specs.Images.{with_degrees}
use Rattle.dd_symbol.specs.Building.{listed, given, IsConnectedSymbol, IsAccepted}
use Rattle.dd_symbol.specs.Refusals.{IsFault, IsRefused}
use Rattle.dd_symbol.specs.declared.refusals.Refusal.TheVariants.{Memory}
use Rattle.dd_symbol.proofs.TableLemmas.{with_same}
use Rattle.dd_symbol.proofs.RefusalLemmas.{refused-from_fault, fault_of_involutions, not_accepted, handed_on, both_hold, given-from_items}
use Rattle.dd_symbol.proofs.construction.build.Goals as goal
use Rattle.dd_symbol.proofs.construction.build.Goals.{After-array_drop-ops-in_err-involutions, After-array_drop-ops-2}

-- what the involutions refuse
refused : (c : After-array_drop-ops-in_err-involutions) → IsRefused c.args.limit (given c.args.ops c.args.m01.items c.args.m12.items) c.in_err-involutions.field-0.0
refused c =
    let m01 = c.args.m01.items in
    let m12 = c.args.m12.items in
    let why = c.in_err-involutions.field-0.0 in
    let t = listed c.deref.result.now c.deref-2.result.now c.deref-3.result.now [] [] in
    let s = with_degrees t m01 m12 in
    let n = c.deref.ensures.len in
    let m = c.len-n.ensures in
    subst (λ u. IsRefused c.args.limit u why)
    (given-from_items c.args.ops (omega (arith, c.well_formed)) c.index-ops-0.result c.index-ops-1.result c.index-ops-2.result
    c.deref.result.now c.deref-2.result.now c.deref-3.result.now m01 m12 c.deref.ensures.value c.deref-2.ensures.value c.deref-3.ensures.value)
    (refused-from_fault c.args.limit s (omega arith) why (fault_of_involutions t s (with_same t m01 m12) why c.in_err-involutions.ensures.why))

pub returns-in_err-involutions-clause-refused : goal.returns-in_err-involutions-clause-refused
returns-in_err-involutions-clause-refused c =
    let s = given c.args.ops c.args.m01.items c.args.m12.items in
    handed_on c.from_residual.result (λ y. y ≢ Memory → IsAccepted c.args.limit s → ⊥) c.in_err-involutions.field-0.0
    c.from_residual.ensures.1 (not_accepted c.args.limit s c.in_err-involutions.field-0.0 (refused c))

pub returns-in_err-involutions-clause-why : goal.returns-in_err-involutions-clause-why
returns-in_err-involutions-clause-why c =
    handed_on c.from_residual.result (IsRefused c.args.limit (given c.args.ops c.args.m01.items c.args.m12.items)) c.in_err-involutions.field-0.0
    c.from_residual.ensures.1 (refused c)

-- the lists that are handed on
same : (c : After-array_drop-ops-2) → with_degrees c.in_ok-involutions.involutions c.args.m01.items c.args.m12.items ≡ given c.args.ops c.args.m01.items c.args.m12.items
same c =
    ap (λ t. with_degrees t c.args.m01.items c.args.m12.items) c.in_ok-involutions.ensures.same
    ∙ given-from_items c.args.ops (omega (arith, c.well_formed)) c.index-ops-0.result c.index-ops-1.result c.index-ops-2.result
    c.deref.result.now c.deref-2.result.now c.deref-3.result.now c.args.m01.items c.args.m12.items c.deref.ensures.value c.deref-2.ensures.value c.deref-3.ensures.value

-- there are not too many chambers
few : (c : After-array_drop-ops-2) → (given c.args.ops c.args.m01.items c.args.m12.items).size ≤ c.args.limit
few c =
    let size : (given c.args.ops c.args.m01.items c.args.m12.items).size ≡ length c.deref.result.now =
    ap (λ u. u.size) (sym (same c)) ∙ ap (λ u. u.size) c.in_ok-involutions.ensures.same in
    let n = c.deref.ensures.len in
    let m = c.len-n.ensures in
    omega arith

pub returns-clause-symbol : goal.returns-clause-symbol
returns-clause-symbol c = IfOk-weaker c.build_on.result _ _ (λ it is. is ∙ same c) c.build_on.ensures.symbol

pub returns-clause-accepted : goal.returns-clause-accepted
returns-clause-accepted c =
    IfOk-weaker c.build_on.result _ _ (λ it both.
    let ok = subst IsConnectedSymbol (both.0 ∙ same c) both.1 in
    record { symbol = ok.symbol; connected = ok.connected; within = few c })
    (both_hold c.build_on.result _ _ c.build_on.ensures.symbol c.build_on.ensures.accepted)

pub returns-clause-refused : goal.returns-clause-refused
returns-clause-refused c =
    IfErr-weaker c.build_on.result _ _
    (λ why no some ok. no some (subst IsConnectedSymbol (sym (same c)) (record { symbol = ok.symbol; connected = ok.connected }))) c.build_on.ensures.refused

pub returns-clause-why : goal.returns-clause-why
returns-clause-why c =
    IfErr-weaker c.build_on.result _ _
    (λ why cause. refused-from_fault c.args.limit (given c.args.ops c.args.m01.items c.args.m12.items) (few c) why (subst (λ u. IsFault u why) (same c) cause)) c.build_on.ensures.why
