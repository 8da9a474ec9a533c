use Rattle.std.proofs.Common.{◌≡◌, ◌+◌, ◌-◌, refl, sym, ap, ◌∙◌, subst, arith}
use Rattle.std.specs.declared.cmp.Ordering.TheVariants.{Less, Equal}
use Rattle.dd_model.specs.Symbol.{Symbol}
use Rattle.dd_model.specs.Code.{code_cmp}
use Rattle.dd_model.proofs.Codes.{same_from_code_cmp}
use Rattle.dd_model.proofs.Orders.{equal_of}
use Rattle.dd_canon.specs.Best.{IsBestNumbering}
use Rattle.dd_canon.proofs.BestLemmas.{differs_from_first, not_least, least_itself}
use Rattle.dd_canon.proofs.forms.is_least.Goals as goal

pub returns-then-is_ne : goal.returns-then-is_ne
returns-then-is_ne c =
    let s = c.args.s.now in
    let best = c.in_ok-best.ensures in
    let compared : c.cmp_code.result ≡ code_cmp c.in_ok-best.best.form s = rw (← c.symbol.ensures.same, ← c.symbol-2.ensures.same) c.cmp_code.ensures in
    ((λ no. absurd (cc)), (λ least. absurd (differs_from_first s c.in_ok-best.best best.home.symbol.symbol best.home.connected best (cc) least)))

pub loop-k-init : goal.loop-k-init
loop-k-init c =
    let s = c.args.s.now in
    let best = c.in_ok-best.ensures in
    let compared : c.cmp_code.result ≡ code_cmp c.in_ok-best.best.form s = rw (← c.symbol.ensures.same, ← c.symbol-2.ensures.same) c.cmp_code.ensures in
    let equal : c.cmp_code.result ≡ Equal = equal_of c.cmp_code.result (cc) in
    record {
      best = best;
      same = same_from_code_cmp c.in_ok-best.best.form s best.table best.home.symbol.symbol.table (sym compared ∙ equal);
    }

pub improve-requires-clause-best : goal.improve-requires-clause-best
improve-requires-clause-best c =
    let k = c.loop-k.k in
    let e : k ≡ k + 1 - 1 = omega arith in
    subst (λ n. IsBestNumbering c.args.s.now n c.loop-k.best) e c.loop-k.invariant.best

pub returns-then-better : goal.returns-then-better
returns-then-better c =
    let s = c.args.s.now in
    let told = c.in_ok-better.ensures in
    let now = told.best in
    let less : code_cmp c.improve.new.self.form c.loop-k.best.form ≡ Less = rw c.if-better.true at told.better in
    ((λ no. absurd (cc)), (λ least. absurd (not_least s c.improve.new.self.form now.home.symbol.symbol now.table (c.improve.new.self.home.number.items, now.form) (subst (λ t. code_cmp c.improve.new.self.form t ≡ Less) c.loop-k.invariant.same less) least)))

pub returns : goal.returns
returns c =
    let s = c.args.s.now in
    let size : c.symbol-3.result.now.size ≡ s.size = ap (λ (t : Symbol). t.size) c.symbol-3.ensures.same in
    let end = c.size-k-end.ensures.size in
    let test = c.loop-k-test.false in
    let high = c.loop-k.auto.k-end in
    let some = c.symbol-3.ensures.symbol.symbol.table.chambers in
    let best = c.loop-k.invariant.best in
    ((λ _. least_itself s c.loop-k.k c.loop-k.best best.home.symbol.symbol best.home.connected (omega (arith, size, end, test, high, some)) best c.loop-k.invariant.same), (λ _. refl))
