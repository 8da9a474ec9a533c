use Rattle.std.proofs.Common.{ℕ, ◌<◌, ◌≤◌, List, length, get_or, sym, subst, arith}
use Rattle.dd_model.proofs.Lists.{inside_of}
use Rattle.dd_covers.proofs.torus_covers.composed.Goals as goal

pub image-requires-clause-low : goal.image-requires-clause-low
image-requires-clause-low c =
    let k = c.loop-chamber.chamber-index in
    let n = length c.args.then.now in
    let first = c.as_slice-chamber-items.ensures in
    let inside : k < length c.args.first.now = subst (λ (xs : List ℕ). k < length xs) first (omega arith) in
    subst (λ (xs : List ℕ). 1 ≤ get_or xs k 0) (sym first) (inside_of c.args.first.now n k c.requires.within inside).0

pub image-requires-clause-high : goal.image-requires-clause-high
image-requires-clause-high c =
    let k = c.loop-chamber.chamber-index in
    let n = length c.args.then.now in
    let first = c.as_slice-chamber-items.ensures in
    let inside : k < length c.args.first.now = subst (λ (xs : List ℕ). k < length xs) first (omega arith) in
    subst (λ (xs : List ℕ). get_or xs k 0 ≤ n) (sym first) (inside_of c.args.first.now n k c.requires.within inside).1
