use Rattle.std.proofs.Common.{◌+◌, ◌-◌, ◌++◌, ◌∷◌, [], sym, subst, ap, ◌∙◌}
use Rattle.dd_member_lists.specs.Lists.{with_told, symbol_of, listed, AreListed}
use Rattle.dd_member_lists.proofs.Growth.{is_next, listed_after, symbols_after, last_symbol, only_last, is_connected}
use Rattle.dd_member_lists.proofs.symbol_list.SymbolList.push_alike.Goals as goal

pub invariant_of-self-2 : goal.invariant_of-self-2
invariant_of-self-2 c =
    let a = c.self.inside in
    let series = a.series.items in
    let bytes = a.degrees.items in
    let ss = c.args.self.now in
    let last = symbol_of series bytes (a.count - 1) in
    let is = c.self.invariant in
    let was = c.self.view_is in
    let some = c.requires.some in
    subst (λ end. AreListed series end (a.count + 1)) (sym c.in_ok-extend_from_slice.ensures.items)
    (listed_after last series series bytes c.args.degrees.now a.count is (is_next series bytes a.count ss is was some)
    (c.requires.small last (last_symbol series bytes a.count ss is was some)) (is_connected series bytes a.count ss is was some))

pub returns-clause-list : goal.returns-clause-list
returns-clause-list c s here =
    let a = c.self.inside in
    let series = a.series.items in
    let bytes = a.degrees.items in
    let ss = c.args.self.now in
    let last = symbol_of series bytes (a.count - 1) in
    let is = c.self.invariant in
    let was = c.self.view_is in
    let some = c.requires.some in
    ap (λ end. listed series end (a.count + 1)) c.in_ok-extend_from_slice.ensures.items
    ∙ symbols_after last series series bytes c.args.degrees.now a.count is (is_next series bytes a.count ss is was some)
    (c.requires.small last (last_symbol series bytes a.count ss is was some)) (is_connected series bytes a.count ss is was some)
    ∙ ap (λ old. old ++ with_told last c.args.degrees.now ∷ []) was
    ∙ ap (λ t. ss ++ with_told t c.args.degrees.now ∷ []) (only_last series bytes a.count ss is was some s here)
