use Rattle.std.proofs.Common.{◌*◌, sym, length, ap, ◌∙◌}
use Rattle.std.proofs.lemmas.List.FromFn.{length-map-range_with_len}
use Rattle.dd_member_lists.specs.Lists.{with_bytes}
use Rattle.dd_member_lists.proofs.alike.Alike.len.Goals as goal

pub returns : goal.returns
returns c =
    let a = c.self.inside in
    sym (length-map-range_with_len (λ k. with_bytes a.degrees.now (2 * a.table.now.size * k) a.table.now) 0 a.count) ∙ ap length c.self.view_is
