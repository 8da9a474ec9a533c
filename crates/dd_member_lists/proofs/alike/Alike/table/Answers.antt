use Rattle.std.proofs.Common.{◌*◌, take, drop, ◌+◌, subst}
use Rattle.std.specs.List.{All}
use Rattle.dd_model.specs.Involutions.{HaveSameInvolutions}
use Rattle.dd_symbol.proofs.TableLemmas.{with_same}
use Rattle.dd_member_lists.specs.Lists.{with_bytes}
use Rattle.dd_member_lists.proofs.Places.{all_made}
use Rattle.dd_member_lists.proofs.alike.Alike.table.Goals as goal

pub returns : goal.returns
returns c =
    let t = c.self.inside.table.now in
    let bytes = c.self.inside.degrees.now in
    subst (All (HaveSameInvolutions t)) c.self.view_is
    (all_made (HaveSameInvolutions t) (λ k. with_bytes bytes (2 * t.size * k) t) c.self.inside.count
    (λ k low. with_same t (take t.size (drop (2 * t.size * k) bytes)) (take t.size (drop (2 * t.size * k + t.size) bytes))))
