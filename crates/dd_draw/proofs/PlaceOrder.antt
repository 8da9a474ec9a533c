-- The places of the tables are in one order, so that there is one first wide place.
use Rattle.std.proofs.Common.{◌≡◌, ◌≢◌, ◌⊎◌, ℕ, ◌<◌, inl, inr, sym, ◌∙◌, ⊎_elim, subst, arith}
use Rattle.std.proofs.lemmas.Bool.{cases_eq, cases_order}
use Rattle.dd_lattice.specs.declared.net.Net.{Net}
use Rattle.dd_draw.specs.Width.{Place, IsBefore, IsRowBefore, IsFirstWide}

-- of two rows at a step one comes before the other
rows_ordered : (k i j : ℕ) → (i ≡ j) ⊎ (IsRowBefore k i j ⊎ IsRowBefore k j i)
rows_ordered k i j = ⊎_elim
    (λ same. inl same)
    (λ apart. inr (⊎_elim
    (λ own. inl (inl (own, λ e. differ apart (own ∙ sym e))))
    (λ other. ⊎_elim
    (λ own. inr (inl (own, other)))
    (λ away. ⊎_elim (λ l. inl (inr (other, away, l))) (λ l. inr (inr (away, other, l))) apart)
    (cases_eq j k))
    (cases_eq i k)))
    (cases_order i j)
  where
    differ : (i < j) ⊎ (j < i) → i ≢ j
    differ (inl l) e = absurd (omega arith)
    differ (inr l) e = absurd (omega arith)

-- of two places that are not one, one is before the other
ordered : (p q : Place) → (p ≡ q) ⊎ (IsBefore p q ⊎ IsBefore q p)
ordered p q = ⊎_elim
    (λ steps. ⊎_elim
    (λ rows. ⊎_elim
    (λ columns. inl (λ i. record { step = steps i; row = rows i; column = columns i }))
    (λ apart. inr (⊎_elim (λ l. inl (inr (steps, inr (rows, l)))) (λ l. inr (inr (sym steps, inr (sym rows, l)))) apart))
    (cases_order p.column q.column))
    (λ apart. inr (⊎_elim
    (λ l. inl (inr (steps, inl l)))
    (λ l. inr (inr (sym steps, inl (subst (λ k. IsRowBefore k q.row p.row) steps l))))
    apart))
    (rows_ordered p.step p.row q.row))
    (λ apart. inr (⊎_elim (λ l. inl (inl l)) (λ l. inr (inl l)) apart))
    (cases_order p.step q.step)

pub first_wide_unique : (net : Net) (p q : Place) → IsFirstWide net p → IsFirstWide net q → p ≡ q
first_wide_unique net p q x y = ⊎_elim
    (λ same. same)
    (λ apart. ⊎_elim (λ l. absurd (y.first p x.place l x.wide)) (λ l. absurd (x.first q y.place l y.wide)) apart)
    (ordered p q)
