-- A morphism onto a connected symbol has equally many chambers above each chamber.
use Rattle.std.proofs.Common.{◌≡◌, ℕ, zero, suc, ◌*◌, ◌≤◌, List, [], ◌∷◌, length, eqb, refl, sym, ap, ◌∙◌, arith}
use Rattle.std.proofs.lemmas.Bool.{eqb-true, eq-eqb}
use Rattle.std.proofs.lemmas.List.Kept.{IsStrictlyIncreasing-filter}
use Rattle.std.specs.List.{Contains, sum_by}
use Rattle.dd_model.specs.declared.index.Index.{Index}
use Rattle.dd_model.specs.Symbol.{Symbol, AreInvolutions, IsTable, IsChamber, Word, item, op, act}
use Rattle.dd_model.specs.Code.{chambers}
use Rattle.dd_model.specs.Connected.{Connected}
use Rattle.dd_model.specs.Isomorphic.{IsMorphism}
use Rattle.dd_model.proofs.CountFrom.{length-count_from, increasing-count_from}
use Rattle.dd_model.proofs.Counts.{length-le_from_partners}
use Rattle.dd_cells.proofs.CellSums.{sum_by_same, sum_by_parts, Contains-filter, Contains-from_filter, chamber_listed, listed_chamber}
use Rattle.dd_crystal.specs.SheetCounts.{chambers_above, HasSheets, HasSheetNumber}

module _ (s t : Symbol) (inv_s : AreInvolutions s) (inv_t : AreInvolutions t) (f : List ℕ) (m : IsMorphism t s f) where
  pub above_is : (d e : ℕ) → Contains (chambers_above t f d) e → IsChamber t e × (item f e ≡ d)
  above_is d e here =
      let from = Contains-from_filter (λ g. eqb (item f g) d) (chambers t) e here in
      (listed_chamber t e from.0, eqb-true (item f e) d from.1)

  above_listed : (d e : ℕ) → IsChamber t e → item f e ≡ d → Contains (chambers_above t f d) e
  above_listed d e h same = Contains-filter (λ g. eqb (item f g) d) (chambers t) e (chamber_listed t e h) (eq-eqb (item f e) d same)

  -- An involution takes what lies above a chamber to what lies above its image.
  no_more_beside : (i : Index) (d : ℕ) → length (chambers_above t f d) ≤ length (chambers_above t f (op s i d))
  no_more_beside i d =
      length-le_from_partners (λ e g. op t i e ≡ g) (chambers_above t f d) (chambers_above t f (op s i d))
      (IsStrictlyIncreasing-filter (λ g. eqb (item f g) d) (chambers t) (increasing-count_from 1 t.size))
      (λ e here.
      let at = above_is d e here in
      (op t i e, above_listed (op s i d) (op t i e) ((inv_t i).within e at.0) (m.op i e at.0 ∙ ap (op s i) at.1), refl))
      (λ e g y here there leads also.
      sym ((inv_t i).involutive e (above_is d e here).0) ∙ ap (op t i) (leads ∙ sym also) ∙ (inv_t i).involutive g (above_is d g there).0)

  same_beside : (i : Index) (d : ℕ) → IsChamber s d → length (chambers_above t f (op s i d)) ≡ length (chambers_above t f d)
  same_beside i d h =
      let there = no_more_beside i d in
      let back = no_more_beside i (op s i d) in
      let around = ap (λ e. length (chambers_above t f e)) ((inv_s i).involutive d h) in
      omega arith

  same_along : (w : Word) (d : ℕ) → IsChamber s d → length (chambers_above t f (act s w d)) ≡ length (chambers_above t f d)
  same_along [] d h = refl
  same_along (i ∷ w) d h = same_along w (op s i d) ((inv_s i).within d h) ∙ same_beside i d h

  -- what is above all chambers, if there is equally much above each
  total_above : (n : ℕ) → HasSheets s t f n → t.size ≡ n * s.size
  total_above n sheets =
      let one : ℕ → ℕ = λ e. 1 in
      let parts = sum_by_parts (item f) one (chambers t) (chambers s) (increasing-count_from 1 s.size)
      (λ e listed. chamber_listed s (item f e) (m.within e (listed_chamber t e listed))) in
      let each = sum_by_same (λ d. sum_by one (chambers_above t f d)) n (chambers s) (λ d listed.
      let ones = sum_by_same one 1 (chambers_above t f d) (λ e _. refl) in
      let many = sheets.each d (listed_chamber s d listed) in
      omega arith) in
      let all = sum_by_same one 1 (chambers t) (λ e _. refl) in
      let wide = length-count_from 1 t.size in
      let narrow = length-count_from 1 s.size in
      let product = ap (λ z. z * n) narrow in
      omega arith

some_factor : (n k size : ℕ) → 1 ≤ size → size ≡ n * k → 1 ≤ n
some_factor zero k size some e = absurd (omega arith)
some_factor (suc n) k size some e = omega arith

pub sheet_number : (s t : Symbol) → IsTable s → Connected s → IsTable t → (f : List ℕ) → IsMorphism t s f → HasSheetNumber s t f
sheet_number s t table connected above f m =
    let inv_s = table.involutions in
    let inv_t = above.involutions in
    let one : IsChamber s 1 = (omega arith, table.chambers) in
    let n = length (chambers_above t f 1) in
    let sheets : HasSheets s t f n = record {
      each = λ d h.
          let there = connected d h in
          ap (λ e. length (chambers_above t f e)) (sym there.leads) ∙ same_along s t inv_s inv_t f m there.word 1 one;
    } in
    let size = total_above s t inv_s inv_t f m n sheets in
    record { number = n; some = some_factor n s.size t.size above.chambers size; sheets = sheets; size = size }

-- a symbol has one number of sheets above another
pub sheets_unique : (s t : Symbol) (f : List ℕ) (n k : ℕ) → 1 ≤ s.size → HasSheets s t f n → HasSheets s t f k → n ≡ k
sheets_unique s t f n k some a b = let one : IsChamber s 1 = (omega arith, some) in sym (a.each 1 one) ∙ b.each 1 one
