use Rattle.std.proofs.Common.{◌≡◌, ℕ, ◌-◌, ◌≤◌, set, get_or, ap, ◌∙◌, subst, ⊎_elim, arith}
use Rattle.std.proofs.lemmas.Bool.{cases_lt, cases_eq}
use Rattle.std.proofs.lemmas.List.{get_or-set_same, get_or-set_other, get_or_default, length-set}
use Rattle.std.proofs.lemmas.List.Elements.{Contains-get_or}
use Rattle.std.specs.List.{Contains}
use Rattle.dd_model.specs.Symbol.{item}
use Rattle.dd_lattice.proofs.edge_lists.write.Goals as goal

pub overflow_sub-chambers : goal.overflow_sub-chambers
overflow_sub-chambers c = (c.requires.inside _ (Contains-get_or c.args.chambers.now c.loop-k.k 0 c.loop-k-test.true)).0

pub index_mut-requires : goal.index_mut-requires
index_mut-requires c =
    let h = c.requires.inside _ (Contains-get_or c.args.chambers.now c.loop-k.k 0 c.loop-k-test.true) in
    let low = h.0 in
    let high = h.1 in
    let whole = c.loop-k.invariant.same in
    omega (arith, c.loop-k.numbers.ok)

pub loop-k-preserved : goal.loop-k-preserved
loop-k-preserved c =
    let xs = c.args.chambers.now in
    let k = c.loop-k.k in
    let own = get_or xs k 0 in
    let old = c.loop-k.numbers.items in
    let h = c.requires.inside own (Contains-get_or xs k 0 c.loop-k-test.true) in
    let low = h.0 in
    let high = h.1 in
    let whole = c.loop-k.invariant.same in
    let here : item (set old (own - 1) c.args.number) own ≡ c.args.number = get_or-set_same old (own - 1) c.args.number 0 (omega arith) in
    let there : (d : ℕ) → 1 ≤ d → (own ≡ d → ⊥) → item (set old (own - 1) c.args.number) d ≡ item old d = λ d some off. get_or-set_other old (own - 1) (d - 1) c.args.number 0 (λ e. off (omega arith)) in
    record {
      same = length-set old (own - 1) c.args.number ∙ whole;
      own = λ q early inside. ⊎_elim
          (λ same. subst (λ d. item (set old (own - 1) c.args.number) d ≡ c.args.number) same here)
          (λ off. ⊎_elim
          (λ less. there (get_or xs q 0) (c.requires.inside (get_or xs q 0) (Contains-get_or xs q 0 inside)).0 off ∙ c.loop-k.invariant.own q less inside)
          (λ rest. let at : k ≡ q = omega arith in absurd (off (ap (λ z. get_or xs z 0) at)))
          (cases_lt q k))
          (cases_eq own (get_or xs q 0));
      others = λ d some off. there d some (off k (omega arith)) ∙ c.loop-k.invariant.others d some (λ q less. off q (omega arith));
    }

pub returns-clause-length : goal.returns-clause-length
returns-clause-length c = c.loop-k.invariant.same

pub returns-clause-own : goal.returns-clause-own
returns-clause-own c d here =
    let end = c.loop-k-test.false in
    let inside = here.1 in
    let own = get_or_default c.args.chambers.now here.0 0 d here.1 ∙ here.2 in
    subst (λ z. item c.loop-k.numbers.items z ≡ c.args.number) own (c.loop-k.invariant.own here.0 (omega arith) here.1)

pub returns-clause-others : goal.returns-clause-others
returns-clause-others c d some off =
    let low = c.loop-k.auto.k-end in
    c.loop-k.invariant.others d some (λ q less at. off (subst (Contains c.args.chambers.now) at (Contains-get_or c.args.chambers.now q 0 (omega arith))))
