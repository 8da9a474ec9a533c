use Rattle.std.proofs.Common.{◌≡◌, ◌≢◌, ℕ, ◌<◌, length, get_or, nat_eq, sym, ap, ◌∙◌, subst, ⊎_elim}
use Rattle.std.proofs.lemmas.Bool.{cases_eq, eq-eqb, ne_eqb}
use Rattle.std.proofs.lemmas.List.{get_or_default}
use Rattle.std.specs.Bool.{OnTrue, OnFalse}
use Rattle.dd_union_find.specs.Parts.{IsFalling}
use Rattle.dd_union_find.proofs.PartLemmas.{head_smallest, smaller_above}
use Rattle.dd_union_find.proofs.forests.Forest.is_smallest.Goals as goal

where_equal : (a b : ℕ) (P : Type 0) → (a ≡ b → P) → OnTrue (nat_eq a b) P
where_equal a b P then =
    ⊎_elim
    (λ same. subst (λ t. OnTrue t P) (sym (eq-eqb a b same)) (then same))
    (λ differ. subst (λ t. OnTrue t P) (sym (ne_eqb a b differ)) tt)
    (cases_eq a b)

where_unequal : (a b : ℕ) (P : Type 0) → (a ≢ b → P) → OnFalse (nat_eq a b) P
where_unequal a b P then =
    ⊎_elim
    (λ same. subst (λ t. OnFalse t P) (sym (eq-eqb a b same)) tt)
    (λ differ. subst (λ t. OnFalse t P) (sym (ne_eqb a b differ)) (then differ))
    (cases_eq a b)

pub returns-clause-yes : goal.returns-clause-yes
returns-clause-yes c =
    let above = c.args.self.now in
    let p = c.args.node in
    let falls : IsFalling above = subst IsFalling c.self.view_is c.self.invariant in
    let here : p < length c.self.inside.above.items = subst (λ xs. p < length xs) (sym c.self.view_is) c.requires in
    let at : c.index.result.now ≡ get_or above p 0 = c.index.ensures ∙ get_or_default c.self.inside.above.items p c.index.result.now 0 here ∙ ap (λ xs. get_or xs p 0) c.self.view_is in
    where_equal c.index.result.now p _ (λ same n less part. head_smallest above falls p (sym at ∙ same) n less part)

pub returns-clause-no : goal.returns-clause-no
returns-clause-no c =
    let above = c.args.self.now in
    let p = c.args.node in
    let falls : IsFalling above = subst IsFalling c.self.view_is c.self.invariant in
    let here : p < length c.self.inside.above.items = subst (λ xs. p < length xs) (sym c.self.view_is) c.requires in
    let at : c.index.result.now ≡ get_or above p 0 = c.index.ensures ∙ get_or_default c.self.inside.above.items p c.index.result.now 0 here ∙ ap (λ xs. get_or xs p 0) c.self.view_is in
    where_unequal c.index.result.now p _ (λ differ. smaller_above above falls p c.requires (λ head. differ (at ∙ head)))
