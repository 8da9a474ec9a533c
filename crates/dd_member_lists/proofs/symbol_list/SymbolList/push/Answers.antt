use Rattle.std.proofs.Common.{◌+◌, ◌++◌, ◌∷◌, [], length, sym, subst, ap, ◌∙◌}
use Rattle.dd_member_lists.specs.Lists.{with_told, listed, AreListed, HasBegun}
use Rattle.dd_member_lists.proofs.Growth.{next_of, listed_after, symbols_after}
use Rattle.dd_member_lists.proofs.symbol_list.SymbolList.push.Goals as goal

pub invariant_of-self-2 : goal.invariant_of-self-2
invariant_of-self-2 c =
    let a = c.self.inside in
    let series = a.series.items in
    let more = c.begin.new.series.items in
    let bytes = a.degrees.items in
    let t = c.args.table.now in
    let grown = c.in_ok-extend_from_slice.ensures.items ∙ ap (λ bs. bs ++ c.args.degrees.now) c.reserve.ensures.items in
    let next = next_of t series more bytes a.count c.self.invariant
    (subst (λ n. HasBegun t a.count n series more) (c.len.ensures ∙ c.reserve.new.self.ok.0 ∙ ap length c.reserve.ensures.items) c.in_ok-begin.ensures.begun) in
    subst (λ end. AreListed more end (a.count + 1)) (sym grown)
    (listed_after t series more bytes c.args.degrees.now a.count c.self.invariant next c.requires c.begin.ensures.connected)

pub returns-clause-list : goal.returns-clause-list
returns-clause-list c =
    let a = c.self.inside in
    let series = a.series.items in
    let more = c.begin.new.series.items in
    let bytes = a.degrees.items in
    let t = c.args.table.now in
    let grown = c.in_ok-extend_from_slice.ensures.items ∙ ap (λ bs. bs ++ c.args.degrees.now) c.reserve.ensures.items in
    let next = next_of t series more bytes a.count c.self.invariant
    (subst (λ n. HasBegun t a.count n series more) (c.len.ensures ∙ c.reserve.new.self.ok.0 ∙ ap length c.reserve.ensures.items) c.in_ok-begin.ensures.begun) in
    ap (λ end. listed more end (a.count + 1)) grown
    ∙ symbols_after t series more bytes c.args.degrees.now a.count c.self.invariant next c.requires c.begin.ensures.connected
    ∙ ap (λ ss. ss ++ with_told t c.args.degrees.now ∷ []) c.self.view_is
