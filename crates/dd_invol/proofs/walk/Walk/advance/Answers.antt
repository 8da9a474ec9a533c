use Rattle.std.proofs.Common.{◌≡◌, ◌⊎◌, sym, ◌∙◌, subst}
use Rattle.dd_model.specs.Code.{all_images}
use Rattle.dd_invol.specs.NextTable.{IsAhead}
use Rattle.dd_branch_tables.specs.Walk.{HasAdvanced, Walking}
use Rattle.dd_invol.proofs.TableSearches.{still_searched, stood}
use Rattle.dd_invol.proofs.WalkTables.{ahead_some}
use Rattle.dd_invol.proofs.walk.Walk.advance.Goals as goal

pub invariant_of-self : goal.invariant_of-self
invariant_of-self c =
    let w = c.self.inside in
    still_searched w.request w.job w.last.items w.search c.come_past.new.self c.self.invariant (c.come_past.ensures.coming w.request w.job c.self.invariant.coming) c.if-not-come_past.ensures.same

pub invariant_of-self-2 : goal.invariant_of-self-2
invariant_of-self-2 c =
    let w = c.self.inside in
    let is = c.self.invariant in
    let last = c.as_slice.ensures.value in
    let ahead = subst (λ xs. IsAhead w.request w.job xs c.come_past.new.self.seen.items) last
    (c.if-not-come_past.ensures.found w.request w.job is.coming (subst (λ xs. (w.search.seen.items ≡ xs) ⊎ IsAhead w.request w.job xs w.search.seen.items) (sym last) is.seen)) in
    stood w.request w.job w.last.items c.kept-self-inside.result.items w.search c.come_past.new.self is (c.come_past.ensures.coming w.request w.job is.coming) ahead
    (c.kept-self-inside.ensures ∙ c.as_slice-2.ensures.value)

pub returns-clause-moved : goal.returns-clause-moved
returns-clause-moved c =
    let w = c.self.inside in
    let is = c.self.invariant in
    let last = c.as_slice.ensures.value in
    let images = c.kept-self-inside.result.items in
    let ahead = subst (λ xs. IsAhead w.request w.job xs c.come_past.new.self.seen.items) last
    (c.if-not-come_past.ensures.found w.request w.job is.coming (subst (λ xs. (w.search.seen.items ≡ xs) ⊎ IsAhead w.request w.job xs w.search.seen.items) (sym last) is.seen)) in
    let same : images ≡ all_images ahead.table = c.kept-self-inside.ensures ∙ c.as_slice-2.ensures.value ∙ sym ahead.images_are in
    let new : Walking = record { request = w.request; job = w.job; last = images } in
    subst (λ v. HasAdvanced v new) c.self.view_is (record { table = ahead.table; next = ahead.next; moved = λ i. record { request = w.request; job = w.job; last = same i } })

pub returns-clause-stands : goal.returns-clause-stands
returns-clause-stands c none =
    let w = c.self.inside in
    let is = c.self.invariant in
    let last = c.as_slice.ensures.value in
    let ahead = subst (λ xs. IsAhead w.request w.job xs c.come_past.new.self.seen.items) last
    (c.if-not-come_past.ensures.found w.request w.job is.coming (subst (λ xs. (w.search.seen.items ≡ xs) ⊎ IsAhead w.request w.job xs w.search.seen.items) (sym last) is.seen)) in
    ahead_some w.request w.job w.last.items c.come_past.new.self.seen.items ahead (sym (c.kept-self-inside.ensures ∙ c.as_slice-2.ensures.value) ∙ none)
