-- The sum over the symmetries that take chamber 1 to one of the first chambers.
use Rattle.std.proofs.Common.{◌≡◌, ◌≢◌, ℕ, ◌+◌, ◌*◌, ◌≤◌, List, [], ◌∷◌, ℤ, nat_abs, ◌+ℤ◌, sym, ap, ◌∙◌, subst, ⊎_elim, arith}
use Rattle.std.proofs.lemmas.Bool.{cases_eq}
use Rattle.std.proofs.lemmas.Int.{ints}
use Rattle.std.specs.List.{Contains}
use Rattle.dd_model.specs.Symbol.{Symbol, IsChamber, item}
use Rattle.dd_model.specs.Isomorphic.{IsIsomorphism}
use Rattle.dd_model.proofs.Lists.{Contains-none, Contains-head, Contains-later, Contains-cases, all_from_members}
use Rattle.dd_canon.specs.Symmetries.{Carries}
use Rattle.dd_covers.specs.Torus.{IsTorus}
use Rattle.dd_gram.specs.Action.{IsAction}
use Rattle.dd_gram.specs.Form.{IsGram, IsGramTo, IsSmallForm, square, none, plus}
use Rattle.dd_gram.specs.Loops.{IsSmallMatrix}
use Rattle.dd_gram.specs.declared.forms.Gram.{Gram}
use Rattle.dd_gram.specs.declared.forms.Matrix.{Matrix}
use Rattle.dd_gram.proofs.KeptForms.{symmetry_unique}
use Rattle.dd_gram.proofs.SizeLemmas.{products_size}

module _ (t : Symbol) (torus : IsTorus t) where
  one : IsChamber t 1
  one = (omega arith, torus.symbol.table.chambers)

  pub gram_start : (g : Gram) → g ≡ none → IsGramTo t 0 g
  gram_start g is = record {
    symmetries = [];
    distinct = tt;
    members = λ f. (λ here. absurd (Contains-none f here), λ both. let low = (both.0.morphism.within 1 one).0 in let high = both.1 in absurd (omega arith));
    matrices = [];
    are_actions = tt;
    sum = is;
    small_a = let e = ap (λ (h : Gram). nat_abs h.a) is in omega arith;
    small_b = let e = ap (λ (h : Gram). nat_abs h.b) is in omega arith;
    small_c = let e = ap (λ (h : Gram). nat_abs h.c) is in omega arith;
  }

  pub gram_past : (k : ℕ) (g : Gram) → IsGramTo t k g → ((f : List ℕ) → Carries t (k + 1) f → ⊥) → IsGramTo t (k + 1) g
  gram_past k g to off = record {
    symmetries = to.symmetries;
    distinct = to.distinct;
    members = λ f. (
      λ here. let both = (to.members f).0 here in let high = both.1 in (both.0, omega arith),
      λ both.
          ⊎_elim
          (λ same. absurd (off f (record { isomorphism = both.0; there = same })))
          (λ other. let high = both.1 in (to.members f).1 (both.0, omega arith))
          (cases_eq (item f 1) (k + 1)),
    );
    matrices = to.matrices;
    are_actions = to.are_actions;
    sum = to.sum;
    small_a = let a = to.small_a in omega arith;
    small_b = let b = to.small_b in omega arith;
    small_c = let c = to.small_c in omega arith;
  }

  sum_size : (x y : ℤ) (k : ℕ) → nat_abs x ≤ 536870912 → nat_abs y ≤ k * 536870912 → nat_abs (x +ℤ y) ≤ (k + 1) * 536870912
  sum_size x y k p q = omega (arith, ints)

  pub gram_more : (k : ℕ) (g : Gram) → IsGramTo t k g → (map : List ℕ) → Carries t (k + 1) map → (m : Matrix) → IsAction t map m → IsSmallMatrix m → (h : Gram) → h ≡ plus (square m) g → IsGramTo t (k + 1) h
  gram_more k g to map carried m acts small h is = record {
    symmetries = map ∷ to.symmetries;
    distinct = (all_from_members (λ f. map ≢ f) to.symmetries (λ f here same. let high = ((to.members f).0 here).1 in let there = carried.there in let e = ap (λ xs. item xs 1) same in absurd (omega arith)), to.distinct);
    members = λ f. (
      λ here. ⊎_elim
          (λ same. subst (λ x. IsIsomorphism t t x × (item x 1 ≤ k + 1)) same (carried.isomorphism, let there = carried.there in omega arith))
          (λ later. let both = (to.members f).0 later in let high = both.1 in (both.0, omega arith))
          (Contains-cases map f to.symmetries here),
      λ both. ⊎_elim
          (λ same. subst (Contains (map ∷ to.symmetries)) (symmetry_unique t torus.symbol torus.connected map f carried.isomorphism both.0 (carried.there ∙ sym same)) (Contains-head map to.symmetries))
          (λ other. let high = both.1 in Contains-later map f to.symmetries ((to.members f).1 (both.0, omega arith)))
          (cases_eq (item f 1) (k + 1)),
    );
    matrices = m ∷ to.matrices;
    are_actions = (acts, to.are_actions);
    sum = is ∙ ap (plus (square m)) to.sum;
    small_a = subst (λ (z : Gram). nat_abs z.a ≤ (k + 1) * 536870912) (sym is) (sum_size (square m).a g.a k (products_size m.xx m.xx m.yx m.yx 16384 small.xx small.xx small.yx small.yx) to.small_a);
    small_b = subst (λ (z : Gram). nat_abs z.b ≤ (k + 1) * 536870912) (sym is) (sum_size (square m).b g.b k (products_size m.xx m.xy m.yx m.yy 16384 small.xx small.xy small.yx small.yy) to.small_b);
    small_c = subst (λ (z : Gram). nat_abs z.c ≤ (k + 1) * 536870912) (sym is) (sum_size (square m).c g.c k (products_size m.xy m.xy m.yy m.yy 16384 small.xy small.xy small.yy small.yy) to.small_c);
  }

  pub gram_whole : (k : ℕ) (g : Gram) → k ≡ t.size → IsGramTo t k g → IsGram t g
  gram_whole k g last to = record {
    symmetries = to.symmetries;
    are_symmetries = record {
      distinct = to.distinct;
      members = λ f. (λ here. ((to.members f).0 here).0, λ iso. let high = (iso.morphism.within 1 one).1 in (to.members f).1 (iso, omega arith));
    };
    matrices = to.matrices;
    are_actions = to.are_actions;
    sum = to.sum;
  }

  -- there is room for one more
  pub room_left : (k : ℕ) (g : Gram) → k ≤ 16384 → IsGramTo t k g → IsSmallForm g
  room_left k g few to = record {
    a = let a = to.small_a in omega arith;
    b = let b = to.small_b in omega arith;
    c = let c = to.small_c in omega arith;
  }

pub square_small : (m : Matrix) → IsSmallMatrix m → IsSmallForm (square m)
square_small m small = record {
  a = let s = products_size m.xx m.xx m.yx m.yx 16384 small.xx small.xx small.yx small.yx in omega arith;
  b = let s = products_size m.xx m.xy m.yx m.yy 16384 small.xx small.xy small.yx small.yy in omega arith;
  c = let s = products_size m.xy m.xy m.yy m.yy 16384 small.xy small.xy small.yy small.yy in omega arith;
}
