use Rattle.std.proofs.Common.{◌+◌, ◌-◌, length, drop, take, sym, ap, ◌∙◌, subst}
use Rattle.std.proofs.lemmas.List.{take_rest, drop-drop}
use Rattle.dd_front.specs.Shut.{IsShutTo}
use Rattle.dd_front.proofs.Shutting.{open_where}
use Rattle.dd_front.proofs.entry_list.EntryList.first_open.Goals as goal

pub returns : goal.returns
returns c =
    let all = c.self.inside.all.items in
    let gone = c.self.inside.gone in
    let shut = c.self.inside.shut in
    let left = ap (λ ds. take (length ds - (gone + shut)) (drop (gone + shut) ds)) c.deref.ensures.value ∙ take_rest all (gone + shut) ∙ sym (drop-drop shut gone all) ∙ ap (drop shut) c.self.view_is in
    open_where (λ e. e.now) c.first_open.result shut c.args.self.now _ left (subst (IsShutTo shut) c.self.view_is c.self.invariant.shut) c.first_open.ensures
