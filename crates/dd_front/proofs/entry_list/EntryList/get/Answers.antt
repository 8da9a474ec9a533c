use Rattle.std.proofs.Common.{length, get_or, sym, ap, ◌∙◌, subst, arith}
use Rattle.dd_front.specs.Places.{IsEntryOf}
use Rattle.dd_front.proofs.Placed.{within, entry_at}
use Rattle.dd_front.proofs.entry_list.EntryList.get.Goals as goal

pub offset_bounds-as_slice-place : goal.offset_bounds-as_slice-place
offset_bounds-as_slice-place c =
    let low = within c.args.number c.args.self.now c.in_ok-place.place c.in_ok-place.ensures.place in
    omega (arith, ap length c.as_slice.ensures.entries, c.as_slice.type_inv)

pub bounds-as_slice-place : goal.bounds-as_slice-place
bounds-as_slice-place c =
    let low = within c.args.number c.args.self.now c.in_ok-place.place c.in_ok-place.ensures.place in
    omega (arith, ap length c.as_slice.ensures.entries)

pub returns : goal.returns
returns c =
    let e = c.index-as_slice-place.result in
    let read = c.index-as_slice-place.is ∙ ap (λ es. get_or es c.in_ok-place.place e) c.as_slice.ensures.entries in
    subst (IsEntryOf c.args.number c.args.self.now) (sym read) (entry_at c.args.number c.args.self.now c.in_ok-place.place e c.as_slice.ensures.numbers c.in_ok-place.ensures.place)
