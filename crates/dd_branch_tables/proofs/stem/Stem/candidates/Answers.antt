use Rattle.std.proofs.Common.{◌≡◌, ◌≢◌, ◌+◌, ◌-◌, ◌%◌, length, sym, ap, ◌∙◌, subst, inl, inr, ⊎_elim, arith}
use Rattle.std.proofs.lemmas.Bool.{cases_eq, cases_lt}
use Rattle.dd_model.specs.declared.index.Index.{Index}
use Rattle.dd_model.specs.Symbol.{op}
use Rattle.dd_front_jobs.specs.FirstVisit.{greatest}
use Rattle.dd_branch_tables.specs.Chambers.{bit_of}
use Rattle.dd_branch_tables.specs.Rows.{partial_of}
use Rattle.dd_branch_tables.specs.Stem.{prefix_of}
use Rattle.dd_branch_tables.proofs.Candidates.{none_of_none, none_but_known, none_but_free}
use Rattle.dd_branch_tables.proofs.Stems.{known_is}
use Rattle.dd_branch_tables.proofs.stem.Stem.candidates.Goals as goal
use Rattle.dd_model.specs.Indices.{index_at}

pub returns-then-is_stuck-clause-others : goal.returns-then-is_stuck-clause-others
returns-then-is_stuck-clause-others c m none = none_of_none c.args.self.now m (c.is_stuck.ensures c.if-is_stuck.true)

pub returns-then-known-ne0-clause-others : goal.returns-then-known-ne0-clause-others
returns-then-known-ne0-clause-others c m none =
    let stem = c.args.self.now in
    let e = c.number_at-known.result in
    let known = known_is stem c.len-place.result e c.len-place.ensures c.number_at-known.ensures.number in
    none_but_known stem e m c.requires.stem c.requires.room known c.if-known-ne0.true
    (λ here. let bit = sym (ap (bit_of c.only.result) here ∙ c.only.ensures.here) ∙ none in omega arith)

pub returns-then-known-ne0-clause-chambers : goal.returns-then-known-ne0-clause-chambers
returns-then-known-ne0-clause-chambers c m told =
    let e = c.number_at-known.result in
    let within = c.number_at-known.ensures.within in
    ⊎_elim
    (λ (here : m ≡ e). omega (arith, here, within))
    (λ (other : m ≢ e). let bit = sym (c.only.ensures.others m other) ∙ told in absurd (omega arith))
    (cases_eq m e)

pub returns-clause-others : goal.returns-clause-others
returns-clause-others c m none =
    let stem = c.args.self.now in
    let P = partial_of stem.rows in
    let place = c.len-place.result in
    let at = c.len-place.ensures in
    let index : c.index_at.result ≡ index_at (length (prefix_of stem) % 3) = c.index_at.ensures ∙ ap (λ u. index_at (u % 3)) at in
    let known = known_is stem place c.number_at-known.result at c.number_at-known.ensures.number in
    let none_known = sym known ∙ c.if-known-ne0.false in
    let positive = c.requires.stem.ready.positive in
    let most : c.greatest.result ≡ greatest (prefix_of stem) = c.greatest.ensures in
    let size = c.size.ensures in
    let least = c.min-last.ensures in
    let last = 1 + c.min-last.result in
    none_but_free stem last m c.requires.stem c.requires.room none_known
    (⊎_elim (λ less. inr (omega arith)) (λ more. inl (omega arith)) (cases_lt c.greatest.result (c.size.result - 1)))
    (λ low high. subst (λ (i : Index). op P i m ≢ 0) index (c.free_to.ensures.taken m low high none))

pub returns-clause-chambers : goal.returns-clause-chambers
returns-clause-chambers c m told =
    let positive = c.requires.stem.ready.positive in
    let size = c.size.ensures in
    let least = c.min-last.ensures in
    let few = c.free_to.ensures.chambers m told in
    omega (arith, positive, size, least, few)
