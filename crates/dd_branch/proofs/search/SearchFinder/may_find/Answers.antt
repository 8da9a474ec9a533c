use Rattle.std.proofs.Common.{[], refl, ap, ◌∙◌}
use Rattle.dd_model.specs.Jobs.{AreMembersUnder}
use Rattle.dd_model.specs.Wanted.{IsMember}
use Rattle.dd_front_jobs.specs.Under.{HasNothingUnder}
use Rattle.dd_branch_tables.specs.Stem.{size_of}
use Rattle.dd_branch_tables.proofs.Filling.{on_false_from}
use Rattle.dd_branch.specs.Descent.{Descending}
use Rattle.dd_branch.proofs.Descents.{dead_job, found_none}
use Rattle.dd_branch.proofs.search.SearchFinder.may_find.Goals as goal

pub returns-clause-dead : goal.returns-clause-dead
returns-clause-dead c =
    let q = c.args.self.now in
    let job = c.args.job.now in
    let d = c.deref_mut.result.now in
    let same = c.deref_mut.ensures.value in
    let made = c.in_ok-descent.ensures in
    let request = ap (λ (e : Descending). e.request) same ∙ made.request in
    let size = ap (λ (e : Descending). size_of e.stem) same ∙ made.size in
    on_false_from c.reach-reaches.result (HasNothingUnder (IsMember d.request) (size_of d.stem) c.as_slice.result.now) (AreMembersUnder q job [])
    (λ none. found_none q job [] refl (dead_job q job d c.as_slice.result.now request size c.as_slice.ensures none))
    c.reach-reaches.ensures.dead
