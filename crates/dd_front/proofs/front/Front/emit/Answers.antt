use Rattle.std.proofs.Common.{◌≡◌, ◌+◌, ◌<◌, ◌^◌, IfNone, ◌-◌, List, length, drop, refl, sym, ap, ◌∙◌, subst, arith}
use Rattle.std.proofs.lemmas.List.{length-drop}
use Rattle.dd_model.specs.Symbol.{Symbol}
use Rattle.dd_model.specs.Lists.{IsWithout}
use Rattle.dd_model.specs.Position.{IsBefore}
use Rattle.dd_front.specs.Allowed.{HasFirst}
use Rattle.dd_front.proofs.Lasting.{first_in_order, symbols_in_order}
use Rattle.dd_front.proofs.Telling.{first_of}
use Rattle.dd_front.proofs.Emitted.{emits_where, none_first}
use Rattle.dd_front.proofs.front.Front.emit.Goals as goal

pub returns-in_err-list-clause-none : goal.returns-in_err-list-clause-none
returns-in_err-list-clause-none c =
    let f = c.args.self.now in
    subst (λ r. IfNone r ((list : List Symbol) → ¬ HasFirst f list)) (sym c.from_residual.ensures)
    (none_first f c.self.inside.entries (ap (λ m. m.entries) c.self.view_is) c.in_err-list.ensures.1)

pub count_before-before-requires-clause-symbols : goal.count_before-before-requires-clause-symbols
count_before-before-requires-clause-symbols c =
    let q = c.self.inside.request in
    symbols_in_order q c.in_ok-list.list (first_in_order q c.self.inside.entries c.in_ok-list.list c.take_done.new.self c.self.invariant.lists c.in_ok-list.ensures).0

pub overflow_add-self : goal.overflow_add-self
overflow_add-self c =
    let f = c.args.self.now in
    let room : f.lines + length c.in_ok-list.list < 2 ^ 128 = c.requires c.in_ok-list.list
    (first_of f c.self.inside.entries c.in_ok-list.list c.take_done.new.self (ap (λ m. m.entries) c.self.view_is) c.in_ok-list.ensures) in
    let lines : c.self.inside.lines ≡ f.lines = ap (λ m. m.lines) c.self.view_is in
    let len : c.len.result ≡ length c.in_ok-list.list - c.count_before-before.result = c.len.ensures.count ∙ ap length c.skip.ensures ∙ length-drop c.count_before-before.result c.in_ok-list.list in
    omega arith

pub returns-clause-members : goal.returns-clause-members
returns-clause-members c =
    let k = c.count_before-before.result in
    let list = c.in_ok-list.list in
    let without : IsWithout (IsBefore c.self.inside.from) list (drop k list) = c.count_before-before.ensures.without in
    emits_where c.take_done.new.self list c.skip.new.self k (c.self.inside.lines + c.len.result) c.self.view_is c.in_ok-list.ensures without c.skip.ensures
    (ap (λ n. c.self.inside.lines + n) c.len.ensures.count) refl
