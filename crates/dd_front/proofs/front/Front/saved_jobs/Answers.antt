use Rattle.std.proofs.Common.{rules, subst}
use Rattle.dd_model.specs.Lists.{IsWithout}
use Rattle.dd_model.specs.Position.{IsWhollyBefore}
use Rattle.dd_front.proofs.Skipped.{without_from_retain}
use Rattle.dd_front.proofs.front.Front.saved_jobs.Goals as goal

pub returns : goal.returns
returns c =
    let at = c.self.inside.saved_position in
    let left = without_from_retain _ (IsWhollyBefore at) _ (λ x b f' k. search rules) _ _ c.retain.ensures.filtered in
    subst (λ f. IsWithout (IsWhollyBefore f.saved.position) f.opening c.retain.new.self.items) c.self.view_is
    (subst (λ js. IsWithout (IsWhollyBefore at) js c.retain.new.self.items) c.in_ok-jobs.ensures left)
