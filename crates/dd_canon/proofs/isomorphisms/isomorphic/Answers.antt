use Rattle.std.proofs.Common.{◌≡◌, sym, ◌∙◌}
use Rattle.std.specs.declared.cmp.Ordering.TheVariants.{Equal}
use Rattle.dd_model.specs.Code.{code_cmp}
use Rattle.dd_model.proofs.Orders.{equal_of}
use Rattle.dd_canon.proofs.BestLemmas.{not_isomorphic, joins, maps}
use Rattle.dd_canon.proofs.isomorphisms.isomorphic.Goals as goal

pub returns-then-is_ne : goal.returns-then-is_ne
returns-then-is_ne c =
    let x = c.in_ok-one.one in
    let y = c.in_ok-other.other in
    let one = c.in_ok-one.ensures.best in
    let other = c.in_ok-other.ensures.best in
    let compared : c.cmp_code-order.result ≡ code_cmp x.form y.form = rw (← c.symbol-3.ensures.same, ← c.symbol-4.ensures.same) c.cmp_code-order.ensures in
    not_isomorphic c.args.a.now c.args.b.now x y one.home.symbol.symbol other.home.symbol.symbol one.home.connected other.home.connected one other (cc)

pub joined-requires : goal.joined-requires
joined-requires c =
    let x = c.in_ok-one.one in
    let y = c.in_ok-other.other in
    let one = c.in_ok-one.ensures.best in
    let other = c.in_ok-other.ensures.best in
    let compared : c.cmp_code-order.result ≡ code_cmp x.form y.form = rw (← c.symbol-3.ensures.same, ← c.symbol-4.ensures.same) c.cmp_code-order.ensures in
    let equal : c.cmp_code-order.result ≡ Equal = equal_of c.cmp_code-order.result (cc) in
    record {
      within = rw (c.deref.ensures.value, c.deref-2.ensures.value)
          (joins c.args.a.now c.args.b.now x y one.home.symbol.symbol other.home.symbol.symbol one.home.connected other.home.connected one other (sym compared ∙ equal));
    }

pub returns : goal.returns
returns c =
    let x = c.in_ok-one.one in
    let y = c.in_ok-other.other in
    let one = c.in_ok-one.ensures.best in
    let other = c.in_ok-other.ensures.best in
    let compared : c.cmp_code-order.result ≡ code_cmp x.form y.form = rw (← c.symbol-3.ensures.same, ← c.symbol-4.ensures.same) c.cmp_code-order.ensures in
    let equal : c.cmp_code-order.result ≡ Equal = equal_of c.cmp_code-order.result (cc) in
    rw (c.in_ok-joined.ensures, c.deref.ensures.value, c.deref-2.ensures.value)
    (maps c.args.a.now c.args.b.now x y one.home.symbol.symbol other.home.symbol.symbol one.home.connected other.home.connected one other (sym compared ∙ equal))
