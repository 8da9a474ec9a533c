use Rattle.std.proofs.Common.{◌≤◌, length, take, refl, sym, subst}
use Rattle.dd_front.specs.Joining.{AreJoined, done_first}
use Rattle.dd_front.specs.Machine.{Machine, jobs_of}
use Rattle.dd_front.proofs.Rounding.{joined_first, front_where, absorbs_where}
use Rattle.dd_front.proofs.front.Front.finish_first.Goals as goal

pub put_lists-requires : goal.put_lists-requires
put_lists-requires c =
    let lists = c.args.lists.items in
    subst (λ (m : Machine). length lists ≤ length m.entries) (sym c.self.view_is) c.requires.enough

pub invariant_of-self : goal.invariant_of-self
invariant_of-self c =
    let lists = c.args.lists.items in
    let es = done_first lists c.args.self.now.entries in
    let olds = c.self.inside.entries in
    let joined : AreJoined (jobs_of (take (length lists) olds)) es lists = joined_first lists c.self.view_is c.requires.enough in
    front_where (length lists) es olds c.put_lists.new.self lists c.self.view_is joined c.requires c.put_lists.ensures c.self.invariant

pub returns : goal.returns
returns c =
    let lists = c.args.lists.items in
    let es = done_first lists c.args.self.now.entries in
    let olds = c.self.inside.entries in
    let joined : AreJoined (jobs_of (take (length lists) olds)) es lists = joined_first lists c.self.view_is c.requires.enough in
    absorbs_where (length lists) es olds c.put_lists.new.self lists c.self.view_is refl joined c.put_lists.ensures refl
