use Rattle.std.proofs.Common.{◌↔◌, ◌-◌, ◌≤◌, IsTrue, nat_lt, length, drop, sym, ap, ◌∙◌, subst}
use Rattle.dd_model.specs.Lists.{IsWithout}
use Rattle.dd_model.specs.Position.{IsBefore}
use Rattle.dd_front.specs.declared.entry.State.TheVariants.{Open}
use Rattle.dd_front.specs.declared.event.Event.TheVariants.{Emit}
use Rattle.dd_front.specs.Allowed.{IsPermitted}
use Rattle.dd_front.specs.Taken.{BeginsDone}
use Rattle.dd_front.proofs.Lasting.{first_in_order, symbols_in_order}
use Rattle.dd_front.proofs.Telling.{state_told, look_told, emit_told, part_told, no_part}
use Rattle.dd_front.proofs.front.Front.allowed.Goals as goal

pub returns-in-Take : goal.returns-in-Take
returns-in-Take c =
    let f = c.args.self.now in
    let told = state_told f c.in-Take.entry Open c.self.inside.entries c.has_open.result (ap (λ m. m.entries) c.self.view_is) c.has_open.ensures in
    subst (λ e. IsTrue c.has_open.result ↔ IsPermitted f e) (sym c.in-Take.is) told

pub returns-in-Look : goal.returns-in-Look
returns-in-Look c =
    let f = c.args.self.now in
    let told = look_told (λ e. e.now) f c.self.inside.entries c.first_open.result c.is_none.result (ap (λ m. m.entries) c.self.view_is) c.first_open.ensures c.is_none.ensures in
    subst (λ e. IsTrue c.is_none.result ↔ IsPermitted f e) (sym c.in-Look.is) told

pub returns-in-Emit : goal.returns-in-Emit
returns-in-Emit c =
    let f = c.args.self.now in
    let es = c.as_slice-entries.ensures.entries ∙ ap (λ m. m.entries) c.self.view_is in
    let told = emit_told (λ list. list.now) f c.as_slice-entries.result.now c.first_list.result es c.first_list.ensures in
    subst (λ e. IsTrue c.is_some.result ↔ IsPermitted f e) (sym c.in-Emit.is) (subst (λ r. IsTrue r ↔ IsPermitted f Emit) (sym c.is_some.ensures) told)

pub returns-in-Some : goal.returns-in-Some
returns-in-Some c =
    let f = c.args.self.now in
    let es = c.as_slice-entries.ensures.entries ∙ ap (λ m. m.entries) c.self.view_is in
    let list = c.in-Some.list.now in
    let k = c.count_before-before.result in
    let rest = c.in-Some.ensures.0 in
    let within : k ≤ length list = c.count_before-before.ensures.within in
    let here : IsWithout (IsBefore c.self.inside.from) list (drop k list) = c.count_before-before.ensures.without in
    let without : IsWithout (IsBefore f.from) list (drop k list) = subst (λ m. IsWithout (IsBefore m.from) list (drop k list)) c.self.view_is here in
    let told = part_told f c.as_slice-entries.result.now list rest k c.len.result c.in-Part.count es c.in-Some.ensures.1 within without c.len.ensures.count in
    subst (λ e. IsTrue (nat_lt c.in-Part.count (c.len.result - k)) ↔ IsPermitted f e) (sym c.in-Part.is) told

pub returns-in-None : goal.returns-in-None
returns-in-None c =
    let f = c.args.self.now in
    let es = c.as_slice-entries.ensures.entries ∙ ap (λ m. m.entries) c.self.view_is in
    ((λ wrong. absurd cc), (λ may. absurd (no_part f c.as_slice-entries.result.now c.in-Part.count es c.in-None.ensures (subst (IsPermitted f) c.in-Part.is may))))

pub count_before-before-requires-clause-symbols : goal.count_before-before-requires-clause-symbols
count_before-before-requires-clause-symbols c =
    let list = c.in-Some.list.now in
    let rest = c.in-Some.ensures.0 in
    let begins : BeginsDone c.self.inside.entries list rest = subst (λ es. BeginsDone es list rest) c.as_slice-entries.ensures.entries c.in-Some.ensures.1 in
    (symbols_in_order c.self.inside.request list (first_in_order c.self.inside.request c.self.inside.entries list rest c.self.invariant.lists begins).0)
