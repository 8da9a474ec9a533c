use Rattle.std.proofs.Common.{◌≡◌, ℕ, ap, sym, ◌∙◌, arith}
use Rattle.std.specs.Ordering.{nat_cmp, ordering_then}
use Rattle.std.specs.Cmp.Lexicographic.{slice_cmp}
use Rattle.std.specs.FinMap.{nat_cmp-IsAntisymmetric}
use Rattle.std.specs.declared.cmp.Ordering.{Ordering}
use Rattle.dd_model.specs.Code.{code}
use Rattle.dd_symbol.specs.Table.{symbol_of}
use Rattle.dd_symbol.proofs.TableLemmas.{length-code_of}
use Rattle.dd_model.proofs.Orders.{then_first, equal_of}
use Rattle.dd_symbol.proofs.code_table.CodeTable.cmp_code.Goals as goal

sizes_compared : (o : Ordering) (a b m n : ℕ) → o ≡ nat_cmp a b → a ≡ m → b ≡ n → o ≡ nat_cmp m n
sizes_compared o a b m n is ea eb = is ∙ ap (λ x. nat_cmp x b) ea ∙ ap (nat_cmp m) eb

pub returns-then-is_ne : goal.returns-then-is_ne
returns-then-is_ne c =
    let s = symbol_of c.args.self.now in
    let t = symbol_of c.args.other.now in
    let codes = slice_cmp nat_cmp (code s) (code t) in
    let sizes = sizes_compared c.cmp-order.result c.size.result c.size-2.result s.size t.size c.cmp-order.ensures c.size.ensures.size c.size-2.ensures.size in
    then_first c.cmp-order.result codes (sym c.is_ne.ensures ∙ c.if-is_ne.true) ∙ ap (λ o. ordering_then o codes) sizes

pub cmp_code-requires : goal.cmp_code-requires
cmp_code-requires c =
    let own = length-code_of c.args.self.now in
    let others = length-code_of c.args.other.now in
    let same = nat_cmp-IsAntisymmetric c.size.result c.size-2.result (sym c.cmp-order.ensures ∙ equal_of c.cmp-order.result (sym c.is_ne.ensures ∙ c.if-is_ne.false)) in
    let m = c.size.ensures.size in
    let n = c.size-2.ensures.size in
    omega arith

pub returns : goal.returns
returns c =
    let s = symbol_of c.args.self.now in
    let t = symbol_of c.args.other.now in
    let sizes = sizes_compared c.cmp-order.result c.size.result c.size-2.result s.size t.size c.cmp-order.ensures c.size.ensures.size c.size-2.ensures.size in
    c.cmp_code.ensures ∙ ap (λ o. ordering_then o (slice_cmp nat_cmp (code s) (code t))) (sym (equal_of c.cmp-order.result (sym c.is_ne.ensures ∙ c.if-is_ne.false)) ∙ sizes)
