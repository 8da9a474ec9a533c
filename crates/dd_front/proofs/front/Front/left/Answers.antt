use Rattle.std.proofs.Common.{◌≡◌, drop, ap, ◌∙◌, subst}
use Rattle.dd_model.specs.Lists.{IsWithout}
use Rattle.dd_model.specs.Position.{IsBefore}
use Rattle.dd_front.specs.Taken.{BeginsDone}
use Rattle.dd_front.proofs.Lasting.{first_in_order, symbols_in_order}
use Rattle.dd_front.proofs.Emitted.{none_first, left_where}
use Rattle.dd_front.proofs.front.Front.left.Goals as goal

pub unreachable-requires : goal.unreachable-requires
unreachable-requires c =
    none_first c.args.self.now c.as_slice.result.now (c.as_slice.ensures.entries ∙ ap (λ m. m.entries) c.self.view_is) c.in_default.ensures c.requires.0 c.requires.1

pub count_before-requires-clause-symbols : goal.count_before-requires-clause-symbols
count_before-requires-clause-symbols c =
    let list = c.in-Some.list.now in
    let rest = c.in-Some.ensures.0 in
    let begins : BeginsDone c.self.inside.entries list rest = subst (λ es. BeginsDone es list rest) c.as_slice.ensures.entries c.in-Some.ensures.1 in
    symbols_in_order c.self.inside.request list (first_in_order c.self.inside.request c.self.inside.entries list rest c.self.invariant.lists begins).0

pub returns : goal.returns
returns c =
    let list = c.in-Some.list.now in
    let rest = c.in-Some.ensures.0 in
    let k = c.count_before.result in
    let begins : BeginsDone c.self.inside.entries list rest = subst (λ es. BeginsDone es list rest) c.as_slice.ensures.entries c.in-Some.ensures.1 in
    let without : IsWithout (IsBefore c.self.inside.from) list (drop k list) = c.count_before.ensures.without in
    let order = (first_in_order c.self.inside.request c.self.inside.entries list rest c.self.invariant.lists begins).0 in
    let is : c.skip.new.self ≡ drop k list = c.skip.ensures ∙ ap (drop k) c.in_ok-left.ensures in
    left_where rest list c.skip.new.self k c.self.view_is begins without order c.self.invariant.valid is
