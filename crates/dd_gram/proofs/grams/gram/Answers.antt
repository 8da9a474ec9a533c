use Rattle.std.proofs.Common.{◌+◌, ℕ, List, MatchOption, refl, sym, ap, ◌∙◌, subst, arith}
use Rattle.dd_model.specs.Symbol.{Symbol}
use Rattle.dd_canon.specs.Symmetries.{Carries}
use Rattle.dd_gram.specs.Form.{IsGramTo, IsSmallForm, plus}
use Rattle.dd_gram.proofs.GramLemmas.{gram_start, gram_past, gram_more, gram_whole, square_small}
use Rattle.dd_gram.proofs.KeptForms.{form_positive, form_definite}
use Rattle.dd_gram.proofs.grams.gram.Goals.{in-Some, in_default}
use Rattle.dd_gram.proofs.grams.gram.Goals as goal

pub loop-k-init : goal.loop-k-init
loop-k-init c = record {
  of = c.in_ok-symmetries.ensures;
  sum = gram_start c.args.t.now c.requires.torus _ refl;
}

pub matrix-requires : goal.matrix-requires
matrix-requires c =
    let t = c.args.t.now in
    let carried : Carries t (c.loop-k.k + 1) c.in-Some.map = subst (λ o. MatchOption o ((f : List ℕ) → Carries t (c.loop-k.k + 1) f → ⊥) (λ map. Carries t (c.loop-k.k + 1) map)) c.in-Some.is c.in_ok-map.ensures.map in
    record {
      some = record {
        t = t;
        net = c.args.net.now;
        torus = c.requires.torus;
        is_net = c.requires.net;
        is_basis = c.in_ok-basis.ensures;
        isomorphism = carried.isomorphism;
      };
    }

pub plus-sum-requires-clause-own : goal.plus-sum-requires-clause-own
plus-sum-requires-clause-own c = subst IsSmallForm (sym c.of_matrix.ensures) (square_small c.matrix.result c.matrix.ensures.small)

pub loop-k-preserved : goal.loop-k-preserved
loop-k-preserved c =
    let t = c.args.t.now in
    let k = c.loop-k.k in
    record {
      of = c.in_ok-map.ensures.of;
      sum = elim c.match-branch-4.branch [
        | in-Some w ↦
            let carried : Carries t (k + 1) w.in-Some.map = subst (λ o. MatchOption o ((f : List ℕ) → Carries t (k + 1) f → ⊥) (λ map. Carries t (k + 1) map)) w.in-Some.is c.in_ok-map.ensures.map in
            let m = w.matrix.result in
            let acts = w.matrix.ensures.action t c.args.net.now c.requires.torus c.requires.net c.in_ok-basis.ensures carried.isomorphism in
            gram_more t c.requires.torus k c.loop-k.sum c.loop-k.invariant.sum w.in-Some.map carried m acts w.matrix.ensures.small c.match-branch-4.sum
            (w.sum-is ∙ w.plus-sum.ensures ∙ ap (λ g. plus g c.loop-k.sum) w.of_matrix.ensures)
        | in_default w ↦
            let none : (f : List ℕ) → Carries t (k + 1) f → ⊥ = subst (λ o. MatchOption o ((f : List ℕ) → Carries t (k + 1) f → ⊥) (λ map. Carries t (k + 1) map)) w.in_default.is c.in_ok-map.ensures.map in
            subst (IsGramTo t (k + 1)) (sym w.sum-is) (gram_past t c.requires.torus k c.loop-k.sum c.loop-k.invariant.sum none)
      ];
    }

pub returns-clause-gram : goal.returns-clause-gram
returns-clause-gram c =
    let t = c.args.t.now in
    let size = c.size-k-end.ensures.size in
    let same = ap (λ (s : Symbol). s.size) c.symbol.ensures.same in
    let end = c.loop-k-test.false in
    gram_whole t c.requires.torus c.loop-k.k c.loop-k.sum (omega arith) c.loop-k.invariant.sum

pub returns-clause-positive : goal.returns-clause-positive
returns-clause-positive c =
    let t = c.args.t.now in
    let size = c.size-k-end.ensures.size in
    let same = ap (λ (s : Symbol). s.size) c.symbol.ensures.same in
    let end = c.loop-k-test.false in
    form_positive t c.loop-k.sum c.requires.torus (gram_whole t c.requires.torus c.loop-k.k c.loop-k.sum (omega arith) c.loop-k.invariant.sum)

pub returns-clause-definite : goal.returns-clause-definite
returns-clause-definite c =
    let t = c.args.t.now in
    let size = c.size-k-end.ensures.size in
    let same = ap (λ (s : Symbol). s.size) c.symbol.ensures.same in
    let end = c.loop-k-test.false in
    form_definite t c.loop-k.sum c.requires.torus (gram_whole t c.requires.torus c.loop-k.k c.loop-k.sum (omega arith) c.loop-k.invariant.sum)

pub returns-clause-some : goal.returns-clause-some
returns-clause-some c =
    let t = c.args.t.now in
    let size = c.size-k-end.ensures.size in
    let same = ap (λ (s : Symbol). s.size) c.symbol.ensures.same in
    let end = c.loop-k-test.false in
    record {
      t = t;
      small = c.symbol.ensures.symbol;
      torus = c.requires.torus;
      net = c.args.net.now;
      is_net = c.requires.net;
      is_gram = gram_whole t c.requires.torus c.loop-k.k c.loop-k.sum (omega arith) c.loop-k.invariant.sum;
    }
