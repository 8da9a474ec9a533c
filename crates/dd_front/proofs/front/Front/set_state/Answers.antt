use Rattle.std.proofs.Common.{◌≡◌, ◌⊎◌, sym, subst}
use Rattle.dd_front.specs.Invariant.{IsFront, IsListed}
use Rattle.dd_front.proofs.Lasting.{front_restated}
use Rattle.dd_front.proofs.front.Front.set_state.Goals as goal

pub invariant_of-self : goal.invariant_of-self
invariant_of-self c =
    let q = c.self.inside.request in
    let opening = c.self.inside.opening in
    let next = c.self.inside.next in
    let listed : (c.args.number ≡ 0) ⊎ IsListed q c.args.state = subst (λ f. (c.args.number ≡ 0) ⊎ IsListed f.request c.args.state) (sym c.self.view_is) c.requires in
    subst (IsFront q opening next) (sym c.set_state.ensures) (front_restated q opening next c.args.number c.args.state c.self.inside.entries c.self.invariant listed)
