use Rattle.std.proofs.Common.{◌≡◌, ℕ, List, ◌+◌, ◌<◌, ◌++◌, ◌∷◌, [], get_or, length, take, refl, sym, ap, ◌∙◌, subst, arith}
use Rattle.std.proofs.lemmas.List.{take_more, length-take}
use Rattle.dd_model.specs.Wanted.{IsMember}
use Rattle.dd_model.specs.declared.requests.Request.{Request}
use Rattle.dd_branch_tables.specs.Stem.{prefix_of, size_of}
use Rattle.dd_front_jobs.proofs.Growth.{begins_take}
use Rattle.dd_front_jobs.specs.Under.{HasNothingUnder}
use Rattle.dd_branch.specs.Descent.{Descending}
use Rattle.dd_branch.proofs.Descents.{no_member_under_front}
use Rattle.dd_branch.proofs.descent.Descent.reach.Goals as goal

pub loop-place-init : goal.loop-place-init
loop-place-init c =
    let told = c.go_back.ensures in
    let xs = c.args.prefix.now in
    let same : length c.prefix-place.result.now ≡ length (prefix_of c.go_back.new.self.stem) = ap length c.prefix-place.ensures ∙ ap (λ (d : Descending). length (prefix_of d.stem)) c.self.view_is in
    record {
      request = told.request;
      size = told.size;
      prefix = sym (ap (λ n. take n xs) same ∙ begins_take (prefix_of c.go_back.new.self.stem) xs told.begins);
    }

-- nothing is under the first numbers of the prefix up to the one that was refused
dead_front : (q : Request) (d : Descending) (k n : ℕ) (xs : List ℕ) → k < length xs → prefix_of d.stem ≡ take k xs → d.request ≡ q → size_of d.stem ≡ n
    → HasNothingUnder (IsMember d.request) (size_of d.stem) (prefix_of d.stem ++ get_or xs k 0 ∷ []) → HasNothingUnder (IsMember q) n (take (k + 1) xs)
dead_front q d k n xs low prefix request size none =
    let grown : prefix_of d.stem ++ get_or xs k 0 ∷ [] ≡ take (k + 1) xs = ap (λ ys. ys ++ get_or xs k 0 ∷ []) prefix ∙ sym (take_more xs k 0 low) in
    let one : HasNothingUnder (IsMember d.request) (size_of d.stem) (take (k + 1) xs) = subst (HasNothingUnder (IsMember d.request) (size_of d.stem)) grown none in
    let two : HasNothingUnder (IsMember q) (size_of d.stem) (take (k + 1) xs) = subst (λ r. HasNothingUnder (IsMember r) (size_of d.stem) (take (k + 1) xs)) request one in
    subst (λ m. HasNothingUnder (IsMember q) m (take (k + 1) xs)) size two

pub returns-then-not-descend-clause-dead : goal.returns-then-not-descend-clause-dead
returns-then-not-descend-clause-dead c =
    let now = c.args.self.now in
    let d = c.loop-place.self in
    let k = c.loop-place.place in
    let xs = c.args.prefix.now in
    let i = c.loop-place.invariant in
    no_member_under_front (IsMember now.request) (size_of now.stem) (k + 1) xs
    (dead_front now.request d k (size_of now.stem) xs (omega arith) i.prefix i.request i.size c.if-not-descend.ensures.dead)

pub returns-then-not-descend-clause-front : goal.returns-then-not-descend-clause-front
returns-then-not-descend-clause-front c =
    let now = c.args.self.now in
    let d = c.loop-place.self in
    let k = c.loop-place.place in
    let xs = c.args.prefix.now in
    let i = c.loop-place.invariant in
    let stays = c.if-not-descend.ensures.same in
    let low : k < length xs = omega arith in
    let long : length (prefix_of c.descend.new.self.stem) ≡ k = ap (λ (e : Descending). length (prefix_of e.stem)) stays ∙ ap length i.prefix ∙ (let e = length-take k xs in omega (arith, e, low)) in
    subst (λ m. HasNothingUnder (IsMember now.request) (size_of now.stem) (take (m + 1) xs)) (sym long)
    (dead_front now.request d k (size_of now.stem) xs low i.prefix i.request i.size c.if-not-descend.ensures.dead)

pub loop-place-preserved : goal.loop-place-preserved
loop-place-preserved c =
    let k = c.loop-place.place in
    let xs = c.args.prefix.now in
    let i = c.loop-place.invariant in
    let told = c.if-not-descend.ensures in
    record {
      request = told.alive.same_request ∙ i.request;
      size = told.alive.same_size ∙ i.size;
      prefix = told.alone refl ∙ ap (λ ys. ys ++ get_or xs k 0 ∷ []) i.prefix ∙ sym (take_more xs k 0 (omega arith));
    }
