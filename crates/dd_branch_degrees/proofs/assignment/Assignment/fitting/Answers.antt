use Rattle.std.proofs.Common.{◌≡◌, ℕ, ◌+◌, ◌-◌, ◌*◌, ◌/◌, ◌≤◌, ◌<◌, refl, sym, ap, ◌∙◌, subst, arith}
use Rattle.std.specs.Int.{bit_at}
use Rattle.dd_branch_degrees.specs.Assignment.{Assigned, IsAssignment, next_place, spent_by, told}
use Rattle.dd_branch_degrees.specs.Entered.{HasBudget}
use Rattle.dd_branch_degrees.specs.LaterBudgets.{HasLaterBudget}
use Rattle.dd_branch_degrees.specs.declared.places.DegreeSlot.{DegreeSlot}
use Rattle.dd_branch_degrees.proofs.Advancing.{budget_of_member, least_after, budgets_small, share_allowed}
use Rattle.dd_branch_degrees.proofs.assignment.Assignment.fitting.Goals as goal
use Rattle.dd_branch_degrees.proofs.assignment.Assignment.fitting.Goals.{After-len}

inside : (c : After-len) → c.len.result + 1 < 73
inside c =
    let len = c.len.ensures.value in
    let room = subst (λ a. told a < 2 * a.table.size) (sym c.self.view_is) c.requires.room in
    let small = c.self.invariant.table.small in
    omega (arith, len, room, small)

pub fitting-requires-clause-later : goal.fitting-requires-clause-later
fitting-requires-clause-later c = let low = inside c in omega (arith, low)

pub fitting-requires-clause-small : goal.fitting-requires-clause-small
fitting-requires-clause-small c =
    let len = c.len.ensures.value in
    let room = subst (λ a. told a < 2 * a.table.size) (sym c.self.view_is) c.requires.room in
    let small = c.self.invariant.table.small in
    let budget = subst (λ a. HasBudget a c.args.left) (sym c.self.view_is) c.requires.budget in
    let rest = (budgets_small _ c.self.invariant (c.len.result + 1) (omega (arith, len, room))).1 in
    omega (arith, rest, budget, small)

pub returns : goal.returns
returns c =
    let a = c.args.self.now in
    let is = subst IsAssignment c.self.view_is c.self.invariant in
    let x = next_place a in
    let left = c.args.left in
    let later = c.len.result + 1 in
    let at : told a + 1 ≡ later = let e = c.len.ensures.value in let same = ap told c.self.view_is in omega (arith, e, same) in
    let shares = ap (λ (y : DegreeSlot). y.shares) c.next_place-shares.ensures in
    record {
      within = λ e told_. let is = c.fitting.ensures.within e told_ in (ap (λ n. bit_at n e) (sym shares) ∙ is.0, is.1);
      all = λ s under v e next beyond.
          let meets = budget_of_member a v (spent_by a + x.sides * (12 / v)) is c.requires.room refl s under next in
          let before = least_after a is c.requires.room in
          let budget = c.requires.budget in
          let room = meets.room in
          let enough = meets.enough in
          let rest : ℕ = left - e in
          let fits : e ≤ left = omega (arith, room, before, budget, beyond) in
          let has : HasLaterBudget a.budgets (told a + 1) rest = record {
            most = omega (arith, enough, before, budget, beyond, fits);
            told = λ f mirror. meets.surplus rest f (omega (arith, before, budget, beyond, fits)) mirror;
          } in
          let bit = share_allowed a v e is c.requires.room c.requires.root s under next beyond in
          c.fitting.ensures.all e rest (omega (arith, fits)) (ap (λ n. bit_at n e) shares ∙ bit) (subst (λ (b : Assigned). HasLaterBudget b.budgets later rest) (sym c.self.view_is) (subst (λ j. HasLaterBudget a.budgets j rest) at has));
    }
