use Rattle.std.proofs.Common.{sym, subst}
use Rattle.dd_quotient.specs.Alike.{IsRefined}
use Rattle.dd_quotient.proofs.SumLemmas.{lists_equal, lists_differ}
use Rattle.dd_quotient.proofs.ClassLemmas.{finer_classes, stable_classes, sum_grows}
use Rattle.dd_quotient.proofs.classes.alike_classes.Goals as goal

pub returns-then-eq : goal.returns-then-eq
returns-then-eq c =
    let s = c.args.s.now in
    let classes = c.loop-classes.classes.items in
    let finer = c.in_ok-finer.finer.items in
    let told : IsRefined s classes finer =
    subst (λ t. IsRefined t classes finer) c.symbol-symbol.ensures.same (subst (λ xs. IsRefined c.symbol-symbol.result.now xs finer) c.deref.ensures.value c.in_ok-finer.ensures) in
    stable_classes s classes finer c.symbol-symbol.ensures.symbol.symbol.table.involutions c.loop-classes.invariant told
    (lists_equal _ _ finer classes c.as_slice.ensures.value c.as_slice-in-loop-classes.ensures.value (sym c.if-eq.ensures))

pub loop-classes-smaller : goal.loop-classes-smaller
loop-classes-smaller c =
    let s = c.args.s.now in
    let classes = c.loop-classes.classes.items in
    let finer = c.in_ok-finer.finer.items in
    let told : IsRefined s classes finer =
    subst (λ t. IsRefined t classes finer) c.symbol-symbol.ensures.same (subst (λ xs. IsRefined c.symbol-symbol.result.now xs finer) c.deref.ensures.value c.in_ok-finer.ensures) in
    sum_grows s classes finer c.loop-classes.invariant told
    (lists_differ _ _ finer classes c.as_slice.ensures.value c.as_slice-in-loop-classes.ensures.value (sym c.if-eq.ensures))

pub loop-classes-preserved : goal.loop-classes-preserved
loop-classes-preserved c =
    let s = c.args.s.now in
    let classes = c.loop-classes.classes.items in
    let finer = c.in_ok-finer.finer.items in
    let told : IsRefined s classes finer =
    subst (λ t. IsRefined t classes finer) c.symbol-symbol.ensures.same (subst (λ xs. IsRefined c.symbol-symbol.result.now xs finer) c.deref.ensures.value c.in_ok-finer.ensures) in
    finer_classes s classes finer c.symbol-symbol.ensures.symbol.symbol.table.involutions c.loop-classes.invariant told
