use Rattle.std.proofs.Common.{◌+◌, sym, ◌∙◌, ap, subst}
use Rattle.std.proofs.lemmas.Result.{on_ok_weaker}
use Rattle.std.specs.List.{splice}
use Rattle.dd_front.specs.Numbers.{HaveOwnNumbers, AreBelow}
use Rattle.dd_front.specs.Places.{IsPlaceOf, HasNoneOf}
use Rattle.dd_front.proofs.Placed.{within}
use Rattle.dd_front.proofs.Replaced.{split_of_none}
use Rattle.dd_front.proofs.Kept.{splice_there, splice_kept}
use Rattle.dd_front.proofs.entry_list.EntryList.split.Goals as goal

pub replace-requires-clause-place : goal.replace-requires-clause-place
replace-requires-clause-place c = within c.args.number c.free_gone.new.self c.in-Some.place c.in-Some.ensures.place

pub replace-requires-clause-numbers : goal.replace-requires-clause-numbers
replace-requires-clause-numbers c =
    subst (λ es. HaveOwnNumbers (splice c.free_gone.new.self c.in-Some.place (c.in-Some.place + 1) es)) (sym c.in_ok-listed-in-Some.ensures)
    (splice_kept c.args.number c.in-Some.place c.args.next c.args.jobs.items c.free_gone.new.self c.in-Some.ensures.numbers
    (subst (AreBelow c.args.next) (sym c.free_gone.ensures) c.requires.below) c.in-Some.ensures.place)

pub returns-in_ok-listed-in-Some-clause-entries : goal.returns-in_ok-listed-in-Some-clause-entries
returns-in_ok-listed-in-Some-clause-entries c =
    on_ok_weaker c.replace.result
    (λ now. now ∙ ap (λ es. splice es c.in-Some.place (c.in-Some.place + 1) c.in_ok-listed-in-Some.field-0.items) c.free_gone.ensures
    ∙ ap (splice c.args.self.now c.in-Some.place (c.in-Some.place + 1)) c.in_ok-listed-in-Some.ensures
    ∙ splice_there c.args.number c.in-Some.place c.args.next c.args.jobs.items c.args.self.now (subst HaveOwnNumbers c.free_gone.ensures c.in-Some.ensures.numbers)
    (subst (λ es. IsPlaceOf c.args.number es c.in-Some.place) c.free_gone.ensures c.in-Some.ensures.place))
    c.replace.ensures.entries

pub returns-in-None-clause-entries : goal.returns-in-None-clause-entries
returns-in-None-clause-entries c = c.free_gone.ensures ∙ sym (split_of_none c.args.number c.args.next c.args.jobs.items c.args.self.now (subst (HasNoneOf c.args.number) c.free_gone.ensures c.in-None.ensures.place))
