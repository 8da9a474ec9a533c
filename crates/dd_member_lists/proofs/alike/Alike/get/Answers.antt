use Rattle.std.proofs.Common.{◌≡◌, ◌*◌, ◌≤◌, ◌<◌, drop, length, get_or, Fits, w64, sym, ap, ◌∙◌, subst, arith}
use Rattle.std.proofs.lemmas.List.{length-drop}
use Rattle.dd_model.specs.Small.{IsSmallSymbol}
use Rattle.dd_model.specs.Connected.{Connected}
use Rattle.dd_symbol.specs.Images.{with_degrees}
use Rattle.dd_member_lists.specs.Lists.{with_bytes}
use Rattle.dd_member_lists.proofs.Places.{alike_count, own_there, own_parts, own_symbol}
use Rattle.dd_member_lists.proofs.alike.Alike.get.Goals as goal

pub overflow_mul-size-2 : goal.overflow_mul-size-2
overflow_mul-size-2 c =
    let a = c.self.inside in
    let t = a.table.now in
    let low = alike_count t a.degrees.now a.count c.args.place c.args.self.now c.self.view_is c.requires in
    let size : t.size ≡ c.size-size.result = sym (c.size-size.ensures.size ∙ ap (λ s. s.size) c.symbol.ensures.same) in
    let there = own_there t a.degrees.now a.count c.args.place c.self.invariant low in
    let most = c.self.told.0 in
    subst (λ n. Fits w64 (2 * n * c.args.place)) size (record { fits = omega arith })

pub split_at-requires : goal.split_at-requires
split_at-requires c =
    let a = c.self.inside in
    let t = a.table.now in
    let low = alike_count t a.degrees.now a.count c.args.place c.args.self.now c.self.view_is c.requires in
    let size : t.size ≡ c.size-size.result = sym (c.size-size.ensures.size ∙ ap (λ s. s.size) c.symbol.ensures.same) in
    let there = own_there t a.degrees.now a.count c.args.place c.self.invariant low in
    subst (λ n. 2 * n * c.args.place ≤ length a.degrees.now) size (omega arith)

pub split_at-requires-2 : goal.split_at-requires-2
split_at-requires-2 c =
    let a = c.self.inside in
    let t = a.table.now in
    let low = alike_count t a.degrees.now a.count c.args.place c.args.self.now c.self.view_is c.requires in
    let size : t.size ≡ c.size-size.result = sym (c.size-size.ensures.size ∙ ap (λ s. s.size) c.symbol.ensures.same) in
    let there = own_there t a.degrees.now a.count c.args.place c.self.invariant low in
    let enough : t.size ≤ length (drop (2 * t.size * c.args.place) a.degrees.now) =
    omega (arith, length-drop (2 * t.size * c.args.place) a.degrees.now) in
    let own : length (drop (2 * c.size-size.result * c.args.place) a.degrees.now) ≡ length c.split_at.result.1.now = sym (ap length c.split_at.ensures.back) in
    omega (arith, own, subst (λ n. n ≤ length (drop (2 * n * c.args.place) a.degrees.now)) size enough)

pub split_at-requires-3 : goal.split_at-requires-3
split_at-requires-3 c =
    let a = c.self.inside in
    let t = a.table.now in
    let low = alike_count t a.degrees.now a.count c.args.place c.args.self.now c.self.view_is c.requires in
    let size : t.size ≡ c.size-size.result = sym (c.size-size.ensures.size ∙ ap (λ s. s.size) c.symbol.ensures.same) in
    let there = own_there t a.degrees.now a.count c.args.place c.self.invariant low in
    let own = drop (2 * t.size * c.args.place) a.degrees.now in
    let enough : t.size ≤ length (drop t.size own) =
    omega (arith, length-drop (2 * t.size * c.args.place) a.degrees.now, length-drop t.size own) in
    let later : length (drop c.size-size.result (drop (2 * c.size-size.result * c.args.place) a.degrees.now)) ≡ length c.split_at-2.result.1.now =
    ap (λ xs. length (drop c.size-size.result xs)) (sym c.split_at.ensures.back) ∙ sym (ap length c.split_at-2.ensures.back) in
    omega (arith, later, subst (λ n. n ≤ length (drop n (drop (2 * n * c.args.place) a.degrees.now))) size enough)

pub returns-clause-symbol : goal.returns-clause-symbol
returns-clause-symbol c =
    let a = c.self.inside in
    let t = a.table.now in
    let low = alike_count t a.degrees.now a.count c.args.place c.args.self.now c.self.view_is c.requires in
    let size = c.size-size.ensures.size ∙ ap (λ s. s.size) c.symbol.ensures.same in
    let own = own_parts t a.degrees.now a.count c.args.place c.self.invariant low c.size-size.result c.split_at.result.1.now c.split_at-2.result.0.now
    c.split_at-2.result.1.now c.split_at-3.result.0.now size c.split_at.ensures.back c.split_at-2.ensures.front c.split_at-2.ensures.back c.split_at-3.ensures.front in
    let s = with_degrees t c.split_at-2.result.0.now c.split_at-3.result.0.now in
    own ∙ sym (own_symbol t a.degrees.now a.count c.args.place c.self.invariant low s) ∙ ap (λ xs. get_or xs c.args.place s) c.self.view_is

pub returns-clause-small : goal.returns-clause-small
returns-clause-small c =
    let a = c.self.inside in
    let t = a.table.now in
    let low = alike_count t a.degrees.now a.count c.args.place c.args.self.now c.self.view_is c.requires in
    let size = c.size-size.ensures.size ∙ ap (λ s. s.size) c.symbol.ensures.same in
    let own = own_parts t a.degrees.now a.count c.args.place c.self.invariant low c.size-size.result c.split_at.result.1.now c.split_at-2.result.0.now
    c.split_at-2.result.1.now c.split_at-3.result.0.now size c.split_at.ensures.back c.split_at-2.ensures.front c.split_at-2.ensures.back c.split_at-3.ensures.front in
    let bytes = with_bytes a.degrees.now (2 * t.size * c.args.place) t in
    let there = c.self.invariant.small c.args.place bytes (subst (λ xs. c.args.place < length xs) (sym c.self.view_is) c.requires) in
    subst IsSmallSymbol (own_symbol t a.degrees.now a.count c.args.place c.self.invariant low bytes ∙ sym own) there

pub returns-clause-connected : goal.returns-clause-connected
returns-clause-connected c =
    let a = c.self.inside in
    let t = a.table.now in
    let low = alike_count t a.degrees.now a.count c.args.place c.args.self.now c.self.view_is c.requires in
    let size = c.size-size.ensures.size ∙ ap (λ s. s.size) c.symbol.ensures.same in
    let own = own_parts t a.degrees.now a.count c.args.place c.self.invariant low c.size-size.result c.split_at.result.1.now c.split_at-2.result.0.now
    c.split_at-2.result.1.now c.split_at-3.result.0.now size c.split_at.ensures.back c.split_at-2.ensures.front c.split_at-2.ensures.back c.split_at-3.ensures.front in
    let bytes = with_bytes a.degrees.now (2 * t.size * c.args.place) t in
    let there = c.self.invariant.connected c.args.place bytes (subst (λ xs. c.args.place < length xs) (sym c.self.view_is) c.requires) in
    subst Connected (own_symbol t a.degrees.now a.count c.args.place c.self.invariant low bytes ∙ sym own) there
