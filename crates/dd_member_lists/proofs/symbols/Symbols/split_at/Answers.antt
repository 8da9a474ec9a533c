use Rattle.std.proofs.Common.{◌+◌, ◌-◌, ◌≡◌, length, take, drop, sym, ap, ◌∙◌, arith}
use Rattle.std.proofs.lemmas.List.{drop-take, drop-drop, length-drop, length-take-le}
use Rattle.dd_member_lists.proofs.symbols.Symbols.split_at.Goals as goal

pub returns-clause-others : goal.returns-clause-others
returns-clause-others c =
    let a = c.self.inside in
    let xs = a.list.now in
    let k = c.args.count in
    let rest = a.end - (a.start + k) in
    let within = ap length c.self.view_is in
    let all = length-drop a.start xs in
    let shown = length-take-le (a.end - a.start) (drop a.start xs) (omega arith) in
    let whole : k + rest ≡ a.end - a.start = omega arith in
    c.range-2.ensures ∙ ap (take rest) (sym (drop-drop k a.start xs)) ∙ sym (drop-take k rest (drop a.start xs))
    ∙ ap (λ n. drop k (take n (drop a.start xs))) whole ∙ ap (drop k) c.self.view_is
