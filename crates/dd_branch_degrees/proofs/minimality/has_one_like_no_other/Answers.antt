use Rattle.std.proofs.Common.{◌≡◌, ℕ, ◌+◌, ap, subst, arith}
use Rattle.dd_model.specs.Symbol.{Symbol, IsChamber}
use Rattle.dd_model.specs.Minimal.{Alike}
use Rattle.dd_branch_degrees.proofs.LikeNoOther.{like_no_other}
use Rattle.dd_branch_degrees.proofs.minimality.has_one_like_no_other.Goals as goal

pub returns-then-is_like_no_other : goal.returns-then-is_like_no_other
returns-then-is_like_no_other c _ =
    let s = c.args.s.now in
    let x = c.loop-k.k + 1 in
    let same = c.symbol-symbol.ensures.same in
    let sizes = ap (λ (t : Symbol). t.size) same in
    let size = c.size-k-end.ensures.size in
    let test = c.loop-k-test.true in
    like_no_other s c.symbol-symbol.ensures.symbol.symbol.table.involutions c.symbol-symbol.ensures.connected x (omega arith, omega (arith, sizes, size, test))
    (subst (λ (t : Symbol). (e : ℕ) → IsChamber t e → Alike t x e → x ≡ e) same (c.is_like_no_other.ensures c.if-is_like_no_other.true))
