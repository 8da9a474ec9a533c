use Rattle.std.proofs.lemmas.Bool.Decides.{Decides-eqb}
use Rattle.std.proofs.Common.{vec_len, refl, sym, ◌∙◌, arith}
use Rattle.dd_front.proofs.Joins.{none_left}
use Rattle.dd_front.proofs.Rounding.{blocks_where, done_found, lists_fit, front_where, absorbs_where, absorbs_none}
use Rattle.dd_front.proofs.front.Front.absorb.Goals as goal

pub returns-then-is_empty-clause-absorbs : goal.returns-then-is_empty-clause-absorbs
returns-then-is_empty-clause-absorbs c =
    let zero_long = (Decides-eqb (vec_len c.args.entries) 0).0 (sym c.is_empty.ensures ∙ c.if-is_empty.true) in
    let none = none_left c.args.entries.items (vec_len c.args.entries) (omega arith) zero_long in
    λ k may. absorbs_none c.args.self.now k c.args.entries.items none may

pub join-requires-clause-come : goal.join-requires-clause-come
join-requires-clause-come c =
    (c.requires.0, blocks_where c.requires.0 c.args.entries.items c.as_slice.result.now c.self.view_is c.as_slice.ensures.entries c.self.invariant.jobs c.requires.1)

pub join-requires-clause-done : goal.join-requires-clause-done
join-requires-clause-done c = done_found c.args.self.now.request c.args.entries.items c.requires.1.come_from.found

pub put_lists-requires : goal.put_lists-requires
put_lists-requires c =
    let k = c.requires.0 in
    let blocks = blocks_where k c.args.entries.items c.as_slice.result.now c.self.view_is c.as_slice.ensures.entries c.self.invariant.jobs c.requires.1 in
    lists_fit k c.args.entries.items c.as_slice.result.now c.self.inside.entries c.in_ok-lists.lists.items c.as_slice.ensures.entries (c.in_ok-lists.ensures k blocks)

pub invariant_of-self : goal.invariant_of-self
invariant_of-self c =
    let k = c.requires.0 in
    let blocks = blocks_where k c.args.entries.items c.as_slice.result.now c.self.view_is c.as_slice.ensures.entries c.self.invariant.jobs c.requires.1 in
    front_where k c.args.entries.items c.as_slice.result.now c.put_lists.new.self c.in_ok-lists.lists.items c.self.view_is (c.in_ok-lists.ensures k blocks) c.requires.1 c.put_lists.ensures c.self.invariant

pub returns-clause-absorbs : goal.returns-clause-absorbs
returns-clause-absorbs c = λ k may.
    let blocks = blocks_where k c.args.entries.items c.as_slice.result.now c.self.view_is c.as_slice.ensures.entries c.self.invariant.jobs may in
    absorbs_where k c.args.entries.items c.as_slice.result.now c.put_lists.new.self c.in_ok-lists.lists.items c.self.view_is c.as_slice.ensures.entries (c.in_ok-lists.ensures k blocks) c.put_lists.ensures refl
