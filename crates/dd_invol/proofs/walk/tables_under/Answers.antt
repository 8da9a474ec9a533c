use Rattle.std.proofs.Common.{◌≡◌, ◌+◌, ◌-◌, ◌*◌, ◌^◌, ◌<◌, [], sym, ap, ◌∙◌, subst, arith}
use Rattle.dd_model.specs.Code.{all_images}
use Rattle.dd_branch_tables.specs.Walk.{IsNext, HasNoneLeft, after}
use Rattle.dd_branch_tables.proofs.WalkLemmas.{with_some, with_none}
use Rattle.dd_branch_tables.proofs.WalkOrder.{AreGiven, IsStand, given_first, given_more, given_all, stand_first, stand_at, fewer_left, weight, next_here, none_here, if_some}
use Rattle.dd_invol.proofs.walk.tables_under.Goals as goal

pub loop-tables-init : goal.loop-tables-init
loop-tables-init c =
    let q = c.args.request.now in
    let job = c.args.job.now in
    record {
      request = c.in_ok-walk.ensures.request;
      job = c.in_ok-walk.ensures.job;
      given = subst (λ xs. AreGiven q job xs c.new-tables.result.items) (sym c.in_ok-walk.ensures.none) (subst (AreGiven q job []) (sym c.new-tables.ensures.items) (given_first q job));
      stand = subst (IsStand job.size) (sym c.in_ok-walk.ensures.none) (stand_first job.size);
    }

pub loop-tables-smaller : goal.loop-tables-smaller
loop-tables-smaller c =
    let q = c.args.request.now in
    let job = c.args.job.now in
    let w = c.loop-tables.walk in
    let t = c.in-Some.table in
    let i = c.loop-tables.invariant in
    let found = with_some c.in_ok-table.field-0 (HasNoneLeft w.request w.job w.last) (IsNext w.request w.job w.last) t c.in-Some.is c.in_ok-table.ensures.found in
    let next = next_here q job w t (record { asked = i.request; under = i.job }) found in
    let new = if_some c.in_ok-table.field-0 (λ x. c.next.new.self ≡ after w x) t c.in-Some.is c.in_ok-table.ensures.given in
    let small = c.requires.job.small in
    let most = c.requires.valid.chambers.1 in
    let fewer = fewer_left q job w.last t (omega arith) i.stand next in
    subst (λ v. 37 ^ (3 * job.size) + 1 - weight v < 37 ^ (3 * job.size) + 1 - weight w.last) (sym (ap (λ v. v.last) new)) fewer

pub loop-tables-preserved : goal.loop-tables-preserved
loop-tables-preserved c =
    let q = c.args.request.now in
    let job = c.args.job.now in
    let w = c.loop-tables.walk in
    let t = c.in-Some.table in
    let i = c.loop-tables.invariant in
    let found = with_some c.in_ok-table.field-0 (HasNoneLeft w.request w.job w.last) (IsNext w.request w.job w.last) t c.in-Some.is c.in_ok-table.ensures.found in
    let next = next_here q job w t (record { asked = i.request; under = i.job }) found in
    let new = if_some c.in_ok-table.field-0 (λ x. c.next.new.self ≡ after w x) t c.in-Some.is c.in_ok-table.ensures.given in
    let small = c.requires.job.small in
    let most = c.requires.valid.chambers.1 in
    let last : c.next.new.self.last ≡ all_images t = ap (λ v. v.last) new in
    record {
      request = ap (λ v. v.request) new ∙ i.request;
      job = ap (λ v. v.job) new ∙ i.job;
      given = subst (λ xs. AreGiven q job xs c.push.new.self.items) (sym last)
          (subst (AreGiven q job (all_images t)) (sym c.in_ok-push.ensures.items) (given_more q job w.last c.loop-tables.tables.items t i.given next));
      stand = subst (IsStand job.size) (sym last) (stand_at q job t (omega arith) next.listed);
    }

pub returns : goal.returns
returns c =
    let q = c.args.request.now in
    let job = c.args.job.now in
    let w = c.loop-tables.walk in
    let i = c.loop-tables.invariant in
    let none = with_none c.in_ok-table.field-0 (HasNoneLeft w.request w.job w.last) (IsNext w.request w.job w.last) c.in_default.is c.in_ok-table.ensures.found in
    given_all q job w.last c.loop-tables.tables.items (none_here q job w (record { asked = i.request; under = i.job }) none) i.given
