-- The tables in exact fractions are those in whole numbers over one denominator.
use Rattle.std.proofs.Common.{◌≡◌, ◌≢◌, ℕ, zero, suc, ◌<◌, ℤ, pos, ◌-ℤ◌, ◌*ℤ◌, cond, refl, sym, ap, ◌∙◌, subst, ⊎_elim, arith}
use Rattle.std.proofs.lemmas.Int.{ints}
use Rattle.std.proofs.lemmas.Bool.{cases_eq, eq-eqb, ne_eqb}
use Rattle.dd_lattice.specs.Nets.{IsConnectedNet}
use Rattle.dd_lattice.specs.declared.net.Net.{Net}
use Rattle.dd_lattice.proofs.Rings.{at, nat, equal, ◌⊟◌, ◌⊠◌}
use Rattle.dd_draw.proofs.Integers.{product_nonzero}
use Rattle.dd_draw.proofs.Pivots.{table, pivot}
use Rattle.dd_draw.proofs.WholeTables.{after, after-own, after-other}
use Rattle.dd_draw.specs.Elimination.{Ratio, entry, first_entry, quotient, product, difference}

-- ## The entries by step

pub entry-first : (net : Net) (i j : ℕ) → entry net zero i j ≡ record { over = first_entry net i j; under = pos 1 }
unfolding entry
entry-first net i j = refl

pub entry-own : (net : Net) (k j : ℕ) → entry net (suc k) (suc k) j ≡ quotient (entry net k (suc k) j) (entry net k (suc k) (suc k))
unfolding entry
entry-own net k j =
    ap (λ b. cond b (quotient (entry net k (suc k) j) (entry net k (suc k) (suc k)))
    (difference (entry net k (suc k) j) (product (entry net k (suc k) (suc k)) (quotient (entry net k (suc k) j) (entry net k (suc k) (suc k))))))
    (eq-eqb (suc k) (suc k) refl)

entry-else : (net : Net) (k i j : ℕ) → i ≢ suc k
    → entry net (suc k) i j ≡ difference (entry net k i j) (product (entry net k i (suc k)) (quotient (entry net k (suc k) j) (entry net k (suc k) (suc k))))
unfolding entry
entry-else net k i j n =
    ap (λ b. cond b (quotient (entry net k (suc k) j) (entry net k (suc k) (suc k)))
    (difference (entry net k i j) (product (entry net k i (suc k)) (quotient (entry net k (suc k) j) (entry net k (suc k) (suc k))))))
    (ne_eqb i (suc k) n)

pub entry-other : (net : Net) (k i j : ℕ) → i ≢ suc k
    → entry net (suc k) i j ≡ difference (entry net k i j) (product (entry net k i (suc k)) (entry net (suc k) (suc k) j))
entry-other net k i j n = entry-else net k i j n ∙ ap (λ r. difference (entry net k i j) (product (entry net k i (suc k)) r)) (sym (entry-own net k j))

-- ## In whole numbers

-- the ratio is a over d
pub record IsAt (r : Ratio) (a d : ℤ) : Type 0 where
  pub value : r.over *ℤ d ≡ a *ℤ r.under
  pub under : r.under ≢ pos 0

over_nonzero : (r : Ratio) (a d : ℤ) → IsAt r a d → a ≢ pos 0 → r.over ≢ pos 0
over_nonzero r a d is some none =
    product_nonzero a r.under some is.under (sym is.value ∙ ap (λ z. z *ℤ d) none ∙ equal (nat 0 ⊠ at d) (nat 0) (omega arith))

quotient_at : (r s : Ratio) (a p d : ℤ) → IsAt r a d → IsAt s p d → p ≢ pos 0 → IsAt (quotient r s) (a *ℤ d) (d *ℤ p)
quotient_at r s a p d x y some = record {
  value =
      let ro = at r.over in let ru = at r.under in let so = at s.over in let su = at s.under in
      let m = at a in let n = at p in let e = at d in
      equal ((ro ⊠ su) ⊠ (e ⊠ n)) ((ro ⊠ e) ⊠ (n ⊠ su)) (omega arith)
      ∙ (λ i. x.value i *ℤ sym y.value i)
      ∙ equal ((m ⊠ ru) ⊠ (so ⊠ e)) ((m ⊠ e) ⊠ (ru ⊠ so)) (omega arith);
  under = product_nonzero r.under s.over x.under (over_nonzero s p d y some);
}

difference_at : (r s q : Ratio) (a b c p d : ℤ) → IsAt r a d → IsAt s b d → IsAt q (c *ℤ d) (d *ℤ p)
    → IsAt (difference r (product s q)) (a *ℤ p -ℤ b *ℤ c) (d *ℤ p)
difference_at r s q a b c p d x y z = record {
  value =
      let ro = at r.over in let ru = at r.under in let so = at s.over in let su = at s.under in let qo = at q.over in let qu = at q.under in
      let k = at a in let l = at b in let m = at c in let n = at p in let e = at d in
      equal (((ro ⊠ (su ⊠ qu)) ⊟ ((so ⊠ qo) ⊠ ru)) ⊠ (e ⊠ n)) (((ro ⊠ e) ⊠ (n ⊠ (su ⊠ qu))) ⊟ ((qo ⊠ (e ⊠ n)) ⊠ (so ⊠ ru))) (omega arith)
      ∙ (λ i. x.value i *ℤ (p *ℤ (s.under *ℤ q.under)) -ℤ z.value i *ℤ (s.over *ℤ r.under))
      ∙ equal (((k ⊠ ru) ⊠ (n ⊠ (su ⊠ qu))) ⊟ (((m ⊠ e) ⊠ qu) ⊠ (so ⊠ ru))) (((k ⊠ ru) ⊠ (n ⊠ (su ⊠ qu))) ⊟ ((so ⊠ e) ⊠ ((m ⊠ qu) ⊠ ru))) (omega arith)
      ∙ (λ i. (a *ℤ r.under) *ℤ (p *ℤ (s.under *ℤ q.under)) -ℤ y.value i *ℤ ((c *ℤ q.under) *ℤ r.under))
      ∙ equal (((k ⊠ ru) ⊠ (n ⊠ (su ⊠ qu))) ⊟ ((l ⊠ su) ⊠ ((m ⊠ qu) ⊠ ru))) (((k ⊠ n) ⊟ (l ⊠ m)) ⊠ (ru ⊠ (su ⊠ qu))) (omega arith);
  under = product_nonzero r.under (s.under *ℤ q.under) x.under (product_nonzero s.under q.under y.under z.under);
}

pub entry_at : (net : Net) (k i j : ℕ) → IsConnectedNet net → k < net.vertices → IsAt (entry net k i j) ((table net k).number i j) (table net k).scale
unfolding table
entry_at net zero i j connected low = subst (λ (r : Ratio). IsAt r (first_entry net i j) (pos 1)) (sym (entry-first net i j)) (record {
  value = refl;
  under = λ e. absurd (omega (arith, ints, e));
})
entry_at net (suc k) i j connected low =
    let t = table net k in
    let p = suc k in
    let at_pivot = entry_at net k p p connected (omega arith) in
    let top = quotient_at (entry net k p j) (entry net k p p) (t.number p j) (t.number p p) t.scale (entry_at net k p j connected (omega arith)) at_pivot (pivot net k connected low) in
    ⊎_elim
    (λ own.
    subst (λ m. IsAt (entry net p m j) ((after p t).number m j) (t.scale *ℤ t.number p p)) (sym own)
    (subst (λ (r : Ratio). IsAt r ((after p t).number p j) (t.scale *ℤ t.number p p)) (sym (entry-own net k j))
    (subst (λ a. IsAt (quotient (entry net k p j) (entry net k p p)) a (t.scale *ℤ t.number p p)) (sym (after-own p t p j refl)) top)))
    (λ other.
    subst (λ (r : Ratio). IsAt r ((after p t).number i j) (t.scale *ℤ t.number p p)) (sym (entry-else net k i j other))
    (subst (λ a. IsAt (difference (entry net k i j) (product (entry net k i p) (quotient (entry net k p j) (entry net k p p)))) a (t.scale *ℤ t.number p p))
    (sym (after-other p t i j other))
    (difference_at (entry net k i j) (entry net k i p) (quotient (entry net k p j) (entry net k p p)) (t.number i j) (t.number i p) (t.number p j)
    (t.number p p) t.scale (entry_at net k i j connected (omega arith)) (entry_at net k i p connected (omega arith)) top)))
    (cases_eq i p)

pub under_nonzero : (net : Net) (k i j : ℕ) → IsConnectedNet net → k < net.vertices → (entry net k i j).under ≢ pos 0
under_nonzero net k i j connected low = (entry_at net k i j connected low).under

-- no pivot is 0
pub pivot_entry : (net : Net) (k : ℕ) → IsConnectedNet net → suc k < net.vertices → (entry net k (suc k) (suc k)).over ≢ pos 0
pivot_entry net k connected low =
    over_nonzero (entry net k (suc k) (suc k)) ((table net k).number (suc k) (suc k)) (table net k).scale (entry_at net k (suc k) (suc k) connected (omega arith))
    (pivot net k connected low)
