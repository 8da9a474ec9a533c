use Rattle.std.proofs.Common.{◌≡◌, ◌⊎◌, sym, ◌∙◌, subst}
use Rattle.dd_invol.specs.NextTable.{IsAhead}
use Rattle.dd_branch_tables.specs.Walk.{IsNext, Walking}
use Rattle.dd_invol.proofs.TableSearches.{still_searched, ahead_searched, reached, stood}
use Rattle.dd_invol.proofs.WalkTables.{ahead_some, next_of_images}
use Rattle.dd_invol.proofs.walk.Walk.next.Goals as goal

pub invariant_of-self : goal.invariant_of-self
invariant_of-self c =
    let w = c.self.inside in
    still_searched w.request w.job w.last.items w.search c.come_past.new.self c.self.invariant (c.come_past.ensures.coming w.request w.job c.self.invariant.coming) c.if-not-come_past.ensures.same

pub invariant_of-self-2 : goal.invariant_of-self-2
invariant_of-self-2 c =
    let w = c.self.inside in
    let is = c.self.invariant in
    let last = c.as_slice.ensures.value in
    let ahead = subst (λ xs. IsAhead w.request w.job xs c.come_past.new.self.seen.items) last
    (c.if-not-come_past.ensures.found w.request w.job is.coming (subst (λ xs. (w.search.seen.items ≡ xs) ⊎ IsAhead w.request w.job xs w.search.seen.items) (sym last) is.seen)) in
    let images = c.kept-images.result.items in
    let same = c.kept-images.ensures ∙ c.as_slice-2.ensures.value in
    ahead_searched w.request w.job w.last.items w.search c.come_past.new.self is (c.come_past.ensures.coming w.request w.job is.coming) ahead

pub table_of-requires : goal.table_of-requires
table_of-requires c =
    let w = c.self.inside in
    let is = c.self.invariant in
    let last = c.as_slice.ensures.value in
    let ahead = subst (λ xs. IsAhead w.request w.job xs c.come_past.new.self.seen.items) last
    (c.if-not-come_past.ensures.found w.request w.job is.coming (subst (λ xs. (w.search.seen.items ≡ xs) ⊎ IsAhead w.request w.job xs w.search.seen.items) (sym last) is.seen)) in
    let images = c.kept-images.result.items in
    let same = c.kept-images.ensures ∙ c.as_slice-2.ensures.value in
    reached w.request w.job w.last.items c.come_past.new.self.seen.items c.as_slice-3.result.now ahead (c.as_slice-3.ensures.value ∙ same)

pub invariant_of-self-in_err-table : goal.invariant_of-self-in_err-table
invariant_of-self-in_err-table c =
    let w = c.self.inside in
    let is = c.self.invariant in
    let last = c.as_slice.ensures.value in
    let ahead = subst (λ xs. IsAhead w.request w.job xs c.come_past.new.self.seen.items) last
    (c.if-not-come_past.ensures.found w.request w.job is.coming (subst (λ xs. (w.search.seen.items ≡ xs) ⊎ IsAhead w.request w.job xs w.search.seen.items) (sym last) is.seen)) in
    let images = c.kept-images.result.items in
    let same = c.kept-images.ensures ∙ c.as_slice-2.ensures.value in
    ahead_searched w.request w.job w.last.items w.search c.come_past.new.self is (c.come_past.ensures.coming w.request w.job is.coming) ahead

pub invariant_of-self-3 : goal.invariant_of-self-3
invariant_of-self-3 c =
    let w = c.self.inside in
    let is = c.self.invariant in
    let last = c.as_slice.ensures.value in
    let ahead = subst (λ xs. IsAhead w.request w.job xs c.come_past.new.self.seen.items) last
    (c.if-not-come_past.ensures.found w.request w.job is.coming (subst (λ xs. (w.search.seen.items ≡ xs) ⊎ IsAhead w.request w.job xs w.search.seen.items) (sym last) is.seen)) in
    let images = c.kept-images.result.items in
    let same = c.kept-images.ensures ∙ c.as_slice-2.ensures.value in
    stood w.request w.job w.last.items images w.search c.come_past.new.self is (c.come_past.ensures.coming w.request w.job is.coming) ahead same

pub returns-clause-found : goal.returns-clause-found
returns-clause-found c =
    let w = c.self.inside in
    let is = c.self.invariant in
    let last = c.as_slice.ensures.value in
    let ahead = subst (λ xs. IsAhead w.request w.job xs c.come_past.new.self.seen.items) last
    (c.if-not-come_past.ensures.found w.request w.job is.coming (subst (λ xs. (w.search.seen.items ≡ xs) ⊎ IsAhead w.request w.job xs w.search.seen.items) (sym last) is.seen)) in
    let images = c.kept-images.result.items in
    let same = c.kept-images.ensures ∙ c.as_slice-2.ensures.value in
    subst (λ (v : Walking). IsNext v.request v.job v.last c.in_ok-table.table) c.self.view_is
    (next_of_images w.request w.job w.last.items c.come_past.new.self.seen.items c.in_ok-table.table ahead c.in_ok-table.ensures.listed (c.in_ok-table.ensures.images ∙ c.as_slice-3.ensures.value ∙ same))

pub returns-clause-stands : goal.returns-clause-stands
returns-clause-stands c none =
    let w = c.self.inside in
    let is = c.self.invariant in
    let last = c.as_slice.ensures.value in
    let ahead = subst (λ xs. IsAhead w.request w.job xs c.come_past.new.self.seen.items) last
    (c.if-not-come_past.ensures.found w.request w.job is.coming (subst (λ xs. (w.search.seen.items ≡ xs) ⊎ IsAhead w.request w.job xs w.search.seen.items) (sym last) is.seen)) in
    let images = c.kept-images.result.items in
    let same = c.kept-images.ensures ∙ c.as_slice-2.ensures.value in
    ahead_some w.request w.job w.last.items c.come_past.new.self.seen.items ahead (sym same ∙ none)
