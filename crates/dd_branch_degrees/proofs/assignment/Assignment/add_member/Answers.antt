use Rattle.std.proofs.Common.{◌≡◌, IsTrue, sym, ◌∙◌, subst, arith}
use Rattle.std.proofs.lemmas.Result.{on_ok_weaker}
use Rattle.dd_model.specs.Minimal.{Minimal}
use Rattle.dd_model.specs.Small.{IsSmallSymbol}
use Rattle.dd_model.specs.Symbol.{Symbol}
use Rattle.dd_model.specs.Wanted.{IsMember}
use Rattle.dd_canon.specs.Ties.{IsLeastFrom}
use Rattle.dd_branch_tables.proofs.Prefixes.{appends_dead}
use Rattle.dd_branch_tables.proofs.TiedTables.{ties_of_least}
use Rattle.dd_symbol.specs.Images.{with_degrees}
use Rattle.dd_branch_degrees.specs.Assignment.{IsAssignment, prefix_of}
use Rattle.dd_branch_degrees.proofs.Leaves.{appends_leaf, leaf_is, leaf_is_member, leaf_least, leaf_small, under_leaf}
use Rattle.dd_branch_degrees.proofs.assignment.Assignment.add_member.Goals as goal

pub is_asked-requires : goal.is_asked-requires
is_asked-requires c =
    let same = leaf_is c.as_slice.result.now c.split_at.result.0.now c.split_at.result.1.now c.size.result c.self.view_is c.as_slice.ensures.value c.size.ensures c.split_at.ensures.front c.split_at.ensures.back in
    subst IsSmallSymbol (sym same) (leaf_small c.args.self.now (subst IsAssignment c.self.view_is c.self.invariant) c.requires.whole)

pub push-requires-clause-small : goal.push-requires-clause-small
push-requires-clause-small c = leaf_small c.args.self.now (subst IsAssignment c.self.view_is c.self.invariant) c.requires.whole

pub returns-then-not-branch-clause-list : goal.returns-then-not-branch-clause-list
returns-then-not-branch-clause-list c =
    let a = c.args.self.now in
    let ready = subst IsAssignment c.self.view_is c.self.invariant in
    let same = leaf_is c.as_slice.result.now c.split_at.result.0.now c.split_at.result.1.now c.size.result c.self.view_is c.as_slice.ensures.value c.size.ensures c.split_at.ensures.front c.split_at.ensures.back in
    appends_dead (IsMember a.request) a.table.size (prefix_of a) c.args.list.now (λ s under.
    let is : s ≡ with_degrees a.table c.split_at.result.0.now c.split_at.result.1.now = under_leaf a ready c.requires.whole s under ∙ sym same in
    let size = under.size in
    let own = ties_of_least s a.ties.starts.items under.wanted.wanted.symbol (λ d there. let h = ready.ties.chambers d there in let high = h.1 in (h.0, omega (arith, high, size))) under.wanted.least in
    let yes' = c.in_ok-is_asked.ensures.1 (subst (λ (u : Symbol). IsLeastFrom u a.ties.starts.items) is own, subst (λ (u : Symbol). IsTrue a.request.minimal → Minimal u) is under.wanted.wanted.minimal) in
    let no' = c.if-not-branch.true in cc)

pub returns-clause-list : goal.returns-clause-list
returns-clause-list c =
    let a = c.args.self.now in
    let ready = subst IsAssignment c.self.view_is c.self.invariant in
    let same = leaf_is c.as_slice.result.now c.split_at.result.0.now c.split_at.result.1.now c.size.result c.self.view_is c.as_slice.ensures.value c.size.ensures c.split_at.ensures.front c.split_at.ensures.back in
    let asked = c.in_ok-is_asked.ensures.0 c.if-not-branch.false in
    let minimal = subst (λ (s : Symbol). IsTrue a.request.minimal → Minimal s) same asked.1 in
    let least = leaf_least a ready c.requires.whole (subst (λ (s : Symbol). IsLeastFrom s a.ties.starts.items) same asked.0) in
    let is = leaf_is_member a ready c.requires.whole c.requires.flat minimal least in
    on_ok_weaker c.push.result (λ grown. appends_leaf a ready c.requires.whole c.args.list.now c.push.new.list _ is grown) c.push.ensures.list
