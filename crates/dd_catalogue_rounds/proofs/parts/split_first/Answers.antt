use Rattle.std.proofs.Common.{◌≤◌, ◌∙◌, List, [], inr, refl, sym, subst, length, rules}
use Rattle.dd_model.specs.declared.jobs.Job.{Job}
use Rattle.dd_front.specs.Allowed.{MaySplit}
use Rattle.dd_front.specs.declared.event.Event.TheVariants.{Split}
use Rattle.dd_front.specs.Step.{IsStep}
use Rattle.dd_pages_and_checkpoints.specs.Rounds.{AreOpen}
use Rattle.dd_catalogue_rounds.proofs.Splits.{first_item, may_split, split_is}
use Rattle.dd_catalogue_rounds.proofs.parts.split_first.Goals as goal

pub step-requires-2-clause-allowed : goal.step-requires-2-clause-allowed
step-requires-2-clause-allowed g c =
    let f = c.args.front.now in
    let e = c.in-Some.entry.now in
    let q = g.F.Finder.request c.args.finder.now in
    let item = c.in-Some.ensures.item in
    let parts = first_item c.entries.result.now e item.3.0 item.1 in
    let whole = sym c.entries.ensures ∙ parts.1 in
    let waits = (subst AreOpen whole c.requires.ready.opens).0 in
    let may = may_split q f c.step.new.self e parts.0 c.in_ok-children.children.items whole waits c.requires.ready.numbered c.in_ok-children.ensures.children c.requires.ready.request (c.in_ok-step.ensures.step.1.0, refl) in
    inr (subst (MaySplit c.step.new.self e.number) (sym c.from_vec-jobs.ensures) may)

pub returns-clause-split : goal.returns-clause-split
returns-clause-split g c =
    let f = c.args.front.now in
    let e = c.in-Some.entry.now in
    let q = g.F.Finder.request c.args.finder.now in
    let item = c.in-Some.ensures.item in
    let parts = first_item c.entries.result.now e item.3.0 item.1 in
    let whole = sym c.entries.ensures ∙ parts.1 in
    let waits = (subst AreOpen whole c.requires.ready.opens).0 in
    let to = rw c.if-not-branch.false at c.in_ok-is_to_split.ensures in
    let h = c.step.new.self in
    let cs = c.in_ok-children.children.items in
    let split : IsStep h (Split 1 e.number cs) c.step-2.new.self [] =
    subst (λ (js : List Job). IsStep h (Split 1 e.number js) c.step-2.new.self []) c.from_vec-jobs.ensures (c.in_ok-step-2.ensures.step.1.0, refl) in
    let few : length cs ≤ 255 = search rules in
    split_is q f h e parts.0 cs whole waits c.requires.ready.numbered c.in_ok-children.ensures.children c.requires.ready.request (c.in_ok-step.ensures.step.1.0, refl) c.step-2.new.self split few to.at to.stands to.short
