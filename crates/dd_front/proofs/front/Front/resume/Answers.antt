use Rattle.std.proofs.Common.{◌≡◌, ◌+◌, length, sym, subst, arith}
use Rattle.dd_model.specs.Lists.{IsWithout}
use Rattle.dd_model.specs.Position.{IsWhollyBefore}
use Rattle.dd_front.specs.Invariant.{IsFront}
use Rattle.dd_front.proofs.Lasting.{front_opened, parts_without}
use Rattle.dd_front.proofs.front.Front.resume.Goals as goal

pub invariant_of-self : goal.invariant_of-self
invariant_of-self c =
    let q = c.self.inside.request in
    let opening = c.self.inside.opening in
    let jobs = c.in_ok-jobs.jobs.items in
    let next : 1 + length jobs ≡ c.len.result + 1 = omega arith in
    let left : IsWithout (IsWhollyBefore c.self.inside.saved_position) opening jobs =
    subst (λ f. IsWithout (IsWhollyBefore f.saved.position) f.opening jobs) (sym c.self.view_is) c.in_ok-jobs.ensures in
    let parts = parts_without (IsWhollyBefore c.self.inside.saved_position) opening jobs left c.self.invariant.opening in
    subst (λ n. IsFront q opening n c.in_ok-self-inside.field-0) next
    (subst (IsFront q opening (1 + length jobs)) (sym c.in_ok-self-inside.ensures) (front_opened q opening jobs c.self.invariant.valid c.self.invariant.opening parts))
