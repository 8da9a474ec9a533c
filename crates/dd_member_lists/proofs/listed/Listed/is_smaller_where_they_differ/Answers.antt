use Rattle.std.proofs.Common.{◌≡◌, ◌<◌, ◌≤◌, ◌⊎◌, length, get_or, sym, ap, ◌∙◌, inl, inr, ⊎_elim, arith}
use Rattle.std.proofs.lemmas.Bool.{cases_lt, ltb-true, lt-ltb}
use Rattle.dd_model.specs.Code.{code}
use Rattle.dd_model.proofs.Codes.{length-code}
use Rattle.dd_model.proofs.SmallerPlaces.{smaller_after, smaller_here, not_smaller_past}
use Rattle.dd_symbol.specs.Images.{with_degrees}
use Rattle.dd_member_lists.proofs.listed.Listed.is_smaller_where_they_differ.Goals as goal

pub returns-then-own-other : goal.returns-then-own-other
returns-then-own-other c =
    let s = with_degrees c.args.self.now.table.now c.args.self.now.m01.now c.args.self.now.m12.now in
    let xs = code s in
    let ys = c.args.others.now in
    let k = c.loop-k.k in
    let size = c.size.ensures.size in
    let sizes = ap (λ t. t.size) c.symbol.ensures.same in
    let long = length-code s c.requires.symbol.table in
    let own : c.number_at-own.result ≡ get_or xs k 0 = c.number_at-own.ensures in
    let other : c.from-other.result ≡ get_or ys k 0 = c.from-other.ensures in
    let here = smaller_here k xs ys (omega arith) (omega arith) (λ e. c.if-own-other.true (own ∙ e ∙ sym other)) in (
      (λ yes. let less = ltb-true c.number_at-own.result c.from-other.result yes in c.loop-k.invariant.1 (here.0 (omega arith))),
      (λ h. let less = here.1 (c.loop-k.invariant.0 h) in lt-ltb c.number_at-own.result c.from-other.result (omega arith)),
    )

pub loop-k-preserved : goal.loop-k-preserved
loop-k-preserved c =
    let s = with_degrees c.args.self.now.table.now c.args.self.now.m01.now c.args.self.now.m12.now in
    let xs = code s in
    let ys = c.args.others.now in
    let k = c.loop-k.k in
    let size = c.size.ensures.size in
    let sizes = ap (λ t. t.size) c.symbol.ensures.same in
    let long = length-code s c.requires.symbol.table in
    let own : c.number_at-own.result ≡ get_or xs k 0 = c.number_at-own.ensures in
    let other : c.from-other.result ≡ get_or ys k 0 = c.from-other.ensures in
    let after = smaller_after k xs ys (omega arith) (omega arith) (sym own ∙ c.if-own-other.false ∙ other) in
    ((λ h. after.0 (c.loop-k.invariant.0 h)), (λ h. c.loop-k.invariant.1 (after.1 h)))

pub returns : goal.returns
returns c =
    let s = with_degrees c.args.self.now.table.now c.args.self.now.m01.now c.args.self.now.m12.now in
    let xs = code s in
    let ys = c.args.others.now in
    let size = c.size.ensures.size in
    let sizes = ap (λ t. t.size) c.symbol.ensures.same in
    let long = length-code s c.requires.symbol.table in
    let ends : (length xs ≤ c.loop-k.k) ⊎ (length ys ≤ c.loop-k.k) =
    ⊎_elim (λ (less : length xs < length ys). inl (omega arith)) (λ (more : length ys ≤ length xs). inr (omega arith)) (cases_lt (length xs) (length ys)) in
    ((λ wrong. absurd cc), (λ h. absurd (not_smaller_past c.loop-k.k xs ys ends (c.loop-k.invariant.0 h))))
