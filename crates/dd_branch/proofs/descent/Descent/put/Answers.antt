use Rattle.std.proofs.Common.{◌≡◌, ◌+◌, List, [], ◌∷◌, ◌++◌, length, length-append, refl, sym, ap, ◌∙◌, subst, arith}
use Rattle.dd_model.specs.Wanted.{IsMember}
use Rattle.dd_branch_tables.specs.Rows.{depth_of}
use Rattle.dd_branch_tables.specs.Stem.{prefix_of, size_of}
use Rattle.dd_front_jobs.specs.Under.{HasNothingUnder}
use Rattle.dd_branch_bounds.specs.Kept.{with_sides}
use Rattle.dd_branch.specs.Descent.{Descending, IsDescent, HasDescended, descending, shorter}
use Rattle.dd_branch.specs.declared.undo_point.UndoPoint.{UndoPoint}
use Rattle.dd_branch.proofs.Descents.{IsPut, IsLevelOf, goes_back, has_descended, none_absorbed, put_descent}
use Rattle.dd_branch.proofs.GoingBack.{goes_back_longer}
use Rattle.dd_branch.proofs.Splits.{none_where_no_table}
use Rattle.dd_branch.proofs.descent.Descent.put.Goals as goal

pub returns-then-not-put-clause-dead : goal.returns-then-not-put-clause-dead
returns-then-not-put-clause-dead c =
    let stem = c.self.inside.stem in
    subst (λ (d : Descending). HasNothingUnder (IsMember d.request) (size_of d.stem) (prefix_of d.stem ++ c.args.number ∷ [])) c.self.view_is
    (none_where_no_table (IsMember c.self.inside.request) (size_of stem) (prefix_of stem) c.args.number c.if-not-put.ensures.dead)

pub returns-then-is_stuck-clause-dead : goal.returns-then-is_stuck-clause-dead
returns-then-is_stuck-clause-dead c =
    let stem = c.self.inside.stem in
    let told = c.if-not-put.ensures in
    let put : IsPut c.args.number stem c.put.new.self c.absorb.new.stem = record { size = told.size; longer = told.longer; undone = told.undone; stem = c.absorb.ensures.stem; absorbed = c.absorb.ensures.absorbed } in
    subst (λ (d : Descending). HasNothingUnder (IsMember d.request) (size_of d.stem) (prefix_of d.stem ++ c.args.number ∷ [])) c.self.view_is
    (none_absorbed (IsMember c.self.inside.request) c.args.number stem c.put.new.self c.absorb.new.stem put (c.is_stuck.ensures c.if-is_stuck.true))

pub returns-clause-alive : goal.returns-clause-alive
returns-clause-alive c =
    let old : Descending = descending c.self.inside.request c.self.inside.stem c.self.inside.classes c.self.inside.levels in
    let new : Descending = record { request = old.request; stem = c.absorb.new.stem; shares = with_sides old.shares c.push.new.self.sides; levels = c.push.new.self.before } in
    let told = c.if-not-put.ensures in
    let put : IsPut c.args.number old.stem c.put.new.self c.absorb.new.stem = record { size = told.size; longer = told.longer; undone = told.undone; stem = c.absorb.ensures.stem; absorbed = c.absorb.ensures.absorbed } in
    subst (λ d. HasDescended c.args.number d new) c.self.view_is (has_descended c.args.number old new c.put.new.self refl put)

pub returns-clause-undone : goal.returns-clause-undone
returns-clause-undone c sides =
    let old : Descending = descending c.self.inside.request c.self.inside.stem c.self.inside.classes c.self.inside.levels in
    let level : UndoPoint = record { numbers = c.args.numbers; rows = c.args.rows; sides = old.shares.sides; starts = c.mark-starts.result } in
    let told = c.if-not-put.ensures in
    let put : IsPut c.args.number old.stem c.put.new.self c.absorb.new.stem = record { size = told.size; longer = told.longer; undone = told.undone; stem = c.absorb.ensures.stem; absorbed = c.absorb.ensures.absorbed } in
    let is : IsLevelOf old level = record {
      numbers = c.requires.numbers ∙ ap (λ (d : Descending). length (prefix_of d.stem)) (sym c.self.view_is);
      rows = c.requires.rows ∙ ap (λ (d : Descending). depth_of d.stem.rows) (sym c.self.view_is);
      sides = refl;
    } in
    let pushed = ap (λ (levels : List UndoPoint). shorter (record { request = old.request; stem = c.absorb.new.stem; shares = with_sides old.shares sides; levels = levels })) c.push.ensures.before in
    pushed ∙ goes_back c.args.number old c.put.new.self c.absorb.new.stem level put is sides ∙ c.self.view_is

pub invariant_of-self-2 : goal.invariant_of-self-2
invariant_of-self-2 c =
    let old : Descending = descending c.self.inside.request c.self.inside.stem c.self.inside.classes c.self.inside.levels in
    let level : UndoPoint = record { numbers = c.args.numbers; rows = c.args.rows; sides = old.shares.sides; starts = c.mark-starts.result } in
    let new = descending old.request c.absorb.new.stem old.shares.classes c.push.new.self in
    let told = c.if-not-put.ensures in
    let put : IsPut c.args.number old.stem c.put.new.self c.absorb.new.stem = record { size = told.size; longer = told.longer; undone = told.undone; stem = c.absorb.ensures.stem; absorbed = c.absorb.ensures.absorbed } in
    let is_level : IsLevelOf old level = record {
      numbers = c.requires.numbers ∙ ap (λ (d : Descending). length (prefix_of d.stem)) (sym c.self.view_is);
      rows = c.requires.rows ∙ ap (λ (d : Descending). depth_of d.stem.rows) (sym c.self.view_is);
      sides = refl;
    } in
    let levels = c.push.new.self.before in
    let count : length levels ≡ length old.levels + 1 = ap length c.push.ensures.before ∙ length-append old.levels (level ∷ []) in
    let is = subst (λ paths. IsDescent (record { request = old.request; stem = c.absorb.new.stem; shares = with_sides old.shares paths; levels = levels })) (sym c.push.ensures.sides)
    (put_descent c.args.number old c.put.new.self c.absorb.new.stem levels c.self.invariant.is put (omega arith)) in
    let pushed = ap (λ (levels : List UndoPoint). shorter (record { request = old.request; stem = c.absorb.new.stem; shares = with_sides old.shares c.push.new.self.sides; levels = levels })) c.push.ensures.before in
    goes_back_longer old new is (omega arith) (pushed ∙ goes_back c.args.number old c.put.new.self c.absorb.new.stem level put is_level c.push.new.self.sides) c.self.invariant

pub returns-clause-alone : goal.returns-clause-alone
returns-clause-alone c left =
    ap prefix_of (c.absorb.ensures.same left) ∙ subst (λ (d : Descending). prefix_of c.put.new.self ≡ prefix_of d.stem ++ c.args.number ∷ []) c.self.view_is c.if-not-put.ensures.longer
