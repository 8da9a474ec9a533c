use Rattle.std.proofs.Common.{◌≡◌, ◌+◌, ◌-◌, length, set, sym, ap, ◌∙◌, subst}
use Rattle.std.proofs.lemmas.List.{length_push}
use Rattle.dd_canon.specs.Traversal.{IsVisit}
use Rattle.dd_canon.proofs.Meetings.{met_visit}
use Rattle.dd_branch_tables.proofs.Traversing.{numbered_of, visit_of}
use Rattle.dd_branch_tables.proofs.traversal.FirstVisits.add.Goals as goal

pub invariant_of-self : goal.invariant_of-self
invariant_of-self c =
    let order = c.args.self.now.order.items in
    let number = c.args.self.now.number in
    let d = c.args.chamber in
    let e : c.len-number.result ≡ length order + 1 = c.len-number.ensures.value ∙ ap length c.push.ensures.items ∙ length_push order d in
    let v = met_visit 36 order number d (visit_of c.args.self.now) c.requires.chamber.0 c.requires.chamber.1 c.requires.none in
    let w = subst (λ xs. IsVisit 36 xs (set number (d - 1) (length order + 1))) (sym c.push.ensures.items) v in
    record { are_numbered = numbered_of _ _ (subst (λ x. IsVisit 36 c.push.new.self.items (set number (d - 1) x)) (sym e) w) }
