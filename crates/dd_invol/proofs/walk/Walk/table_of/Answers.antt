use Rattle.std.proofs.Common.{◌*◌, sym, ap, ◌∙◌, subst}
use Rattle.dd_model.specs.Code.{all_images}
use Rattle.dd_branch_tables.specs.Table.{HasNoTable, IsTableOf}
use Rattle.dd_branch_tables.specs.Walk.{IsListed, Walking}
use Rattle.dd_branch_tables.proofs.WalkLemmas.{with_some, with_none}
use Rattle.dd_invol.proofs.WalkTables.{reached_whole, read_reached, some_reached}
use Rattle.dd_invol.proofs.walk.Walk.table_of.Goals as goal

pub of-requires-clause-whole : goal.of-requires-clause-whole
of-requires-clause-whole c =
    let w = c.args.self.now in
    reached_whole w.request w.job c.args.images.now c.requires ∙ sym (ap (λ (v : Walking). 3 * v.job.size) c.self.view_is)

pub unreachable-requires : goal.unreachable-requires
unreachable-requires c =
    let w = c.args.self.now in
    some_reached w.request w.job c.args.images.now c.requires
    (subst (λ n. HasNoTable n c.args.images.now) (ap (λ (v : Walking). v.job.size) c.self.view_is)
    (with_none c.in_ok-table.field-0 (HasNoTable c.self.inside.job.size c.args.images.now) (IsTableOf c.self.inside.job.size c.args.images.now) c.in_default.is c.in_ok-table.ensures))

pub returns-clause-listed : goal.returns-clause-listed
returns-clause-listed c =
    let w = c.args.self.now in
    let t = c.in-Some.table in
    let of = subst (λ n. IsTableOf n c.args.images.now t) (ap (λ (v : Walking). v.job.size) c.self.view_is)
    (with_some c.in_ok-table.field-0 (HasNoTable c.self.inside.job.size c.args.images.now) (IsTableOf c.self.inside.job.size c.args.images.now) t c.in-Some.is c.in_ok-table.ensures) in
    subst (IsListed w.request w.job) (read_reached w.request w.job c.args.images.now t c.requires of) c.requires.listed

pub returns-clause-images : goal.returns-clause-images
returns-clause-images c =
    let w = c.args.self.now in
    let t = c.in-Some.table in
    let of = subst (λ n. IsTableOf n c.args.images.now t) (ap (λ (v : Walking). v.job.size) c.self.view_is)
    (with_some c.in_ok-table.field-0 (HasNoTable c.self.inside.job.size c.args.images.now) (IsTableOf c.self.inside.job.size c.args.images.now) t c.in-Some.is c.in_ok-table.ensures) in
    ap all_images (sym (read_reached w.request w.job c.args.images.now t c.requires of)) ∙ c.requires.images_are
