use Rattle.std.proofs.Common.{◌≡◌, ◌≢◌, ℕ, ◌<◌, length, not, nat_eq, max, min, set, sym, subst, inl, inr, ⊎_elim, arith}
use Rattle.std.proofs.lemmas.Bool.{cases_eq, cases_lt, eq-eqb, ne_eqb}
use Rattle.std.specs.Bool.{OnTrue, OnFalse}
use Rattle.dd_union_find.specs.Parts.{AreInOnePart, AreJoinedAt}
use Rattle.dd_union_find.proofs.PartLemmas.{AreOrdered, two_parts, one_part, are_joined}
use Rattle.dd_union_find.proofs.forests.Forest.join.Goals as goal

ordered : (a b high low : ℕ) → high ≡ max a b → low ≡ min a b → AreOrdered a b high low
ordered a b high low most least =
    ⊎_elim
    (λ less. (omega arith, inr (omega arith, omega arith)))
    (λ more. (omega arith, inl (omega arith, omega arith)))
    (cases_lt a b)

high_inside : (a b high low n : ℕ) → AreOrdered a b high low → a < n → b < n → high < n
high_inside a b high low n order in_a in_b = ⊎_elim (λ e. let h = e.0 in omega arith) (λ e. let h = e.0 in omega arith) order.1

-- an answer that tells whether two numbers differ
where_unequal : (a b : ℕ) (P : Type 0) → (a ≢ b → P) → OnTrue (not (nat_eq a b)) P
where_unequal a b P then =
    ⊎_elim
    (λ same. subst (λ t. OnTrue (not t) P) (sym (eq-eqb a b same)) tt)
    (λ differ. subst (λ t. OnTrue (not t) P) (sym (ne_eqb a b differ)) (then differ))
    (cases_eq a b)

where_equal : (a b : ℕ) (P : Type 0) → (a ≡ b → P) → OnFalse (not (nat_eq a b)) P
where_equal a b P then =
    ⊎_elim
    (λ same. subst (λ t. OnFalse (not t) P) (sym (eq-eqb a b same)) (then same))
    (λ differ. subst (λ t. OnFalse (not t) P) (sym (ne_eqb a b differ)) tt)
    (cases_eq a b)

pub returns-clause-joined : goal.returns-clause-joined
returns-clause-joined c =
    let one = c.head-first.ensures in
    let two = c.head-second.ensures in
    let order = ordered c.head-first.result c.head-second.result c.max.result c.min.result c.max.ensures c.min.ensures in
    let inside = c.head-second.ensures.inside in
    let first : c.head-first.result < length c.head-second.new.above.items = let e = two.parts.lengths in let low = one.inside in omega arith in
    subst (λ xs. AreJoinedAt xs c.args.one c.args.other (set c.head-second.new.above.items c.max.result c.min.result)) c.self.view_is
    (are_joined c.self.inside.above.items c.head-first.new.above.items c.head-second.new.above.items one.parts two.parts c.args.one c.args.other c.head-first.result c.head-second.result one.in_part two.in_part
    two.falls (two.others c.head-first.result one.head) two.head c.max.result c.min.result order (high_inside c.head-first.result c.head-second.result c.max.result c.min.result (length c.head-second.new.above.items) order first inside))

pub returns-clause-two : goal.returns-clause-two
returns-clause-two c =
    let one = c.head-first.ensures in
    let two = c.head-second.ensures in
    where_unequal c.head-first.result c.head-second.result _
    (λ differ. subst (λ xs. AreInOnePart xs c.args.one c.args.other → ⊥) c.self.view_is
    (two_parts c.self.inside.above.items c.head-first.new.above.items c.head-second.new.above.items one.parts two.parts c.args.one c.args.other c.head-first.result c.head-second.result one.in_part two.in_part
    two.falls (two.others c.head-first.result one.head) two.head differ))

pub returns-clause-one_part : goal.returns-clause-one_part
returns-clause-one_part c =
    let one = c.head-first.ensures in
    let two = c.head-second.ensures in
    where_equal c.head-first.result c.head-second.result _
    (λ same. subst (λ xs. AreInOnePart xs c.args.one c.args.other) c.self.view_is
    (one_part c.self.inside.above.items c.head-first.new.above.items c.head-second.new.above.items one.parts two.parts c.args.one c.args.other c.head-first.result c.head-second.result one.in_part two.in_part
    two.falls (two.others c.head-first.result one.head) two.head same))
