-- Going one sheet further is an automorphism.
use Rattle.std.proofs.Common.{◌≡◌, ℕ, ◌+◌, ◌-◌, ◌*◌, ◌%◌, ◌<◌, ◌≤◌, List, length, refl, sym, ap, ◌∙◌, subst, arith}
use Rattle.std.proofs.lemmas.List.{length-map}
use Rattle.dd_model.specs.declared.index.Index.{Index}
use Rattle.dd_model.specs.declared.pair.Pair.TheVariants.{Tile, Vertex}
use Rattle.dd_model.specs.Symbol.{Symbol, IsTable, IsChamber, item, op}
use Rattle.dd_model.specs.Code.{chambers}
use Rattle.dd_model.specs.Isomorphic.{Undoes, IsBijection, IsIsomorphism}
use Rattle.dd_model.proofs.CountFrom.{length-count_from, item-map-count_from}
use Rattle.dd_covers.specs.Sheets.{sheets_of, turned_in, turned_sheet, turned}
use Rattle.dd_covers.proofs.SheetLemmas.{mod_sum, mod_round, chamber_in, length-sheets, item-sheets, op_in, degree_in, sheet_below, in_sheets}

module _ (s : Symbol) (k : ℕ) where
  length-turned_sheet : (j a : ℕ) → length (turned_sheet s k j a) ≡ s.size
  length-turned_sheet j a = length-map (chambers s) (turned_in s k j a) ∙ length-count_from 1 s.size

  item-turned : (j d a : ℕ) → IsChamber s d → a < k → item (turned s k j) (d + a * s.size) ≡ d + (a + j) % k * s.size
  item-turned j d a h below =
      item-sheets s.size k (turned_sheet s k j) (length-turned_sheet j) a d below h.0 h.1
      ∙ item-map-count_from (turned_in s k j a) s.size d h.0 h.1

  turned_within : (j d a : ℕ) → IsChamber s d → a < k → (1 ≤ item (turned s k j) (d + a * s.size)) × (item (turned s k j) (d + a * s.size) ≤ k * s.size)
  turned_within j d a h below =
      subst (λ c. (1 ≤ c) × (c ≤ k * s.size)) (sym (item-turned j d a h below)) (chamber_in s k d ((a + j) % k) h (sheet_below a j k below))

  turned_back : (i j : ℕ) → (j + i) % k ≡ 0 → (d a : ℕ) → IsChamber s d → a < k → item (turned s k i) (item (turned s k j) (d + a * s.size)) ≡ d + a * s.size
  turned_back i j whole d a h below =
      let e : a + j + i ≡ a + (j + i) = omega arith in
      ap (item (turned s k i)) (item-turned j d a h below)
      ∙ item-turned i d ((a + j) % k) h (sheet_below a j k below)
      ∙ ap (λ b. d + b * s.size) (mod_sum (a + j) i k ∙ ap (λ b. b % k) e ∙ mod_round a (j + i) k below whole)

  undoes : (i j : ℕ) → (j + i) % k ≡ 0 → Undoes (k * s.size) (turned s k i) (turned s k j)
  undoes i j whole = record {
    within = in_sheets s k (λ c. (1 ≤ item (turned s k j) c) × (item (turned s k j) c ≤ k * s.size)) (turned_within j);
    undone = in_sheets s k (λ c. item (turned s k i) (item (turned s k j) c) ≡ c) (turned_back i j whole);
  }

  bijection : 1 ≤ k → IsBijection (k * s.size) (turned s k 1)
  bijection some =
      let there : 1 + (k - 1) ≡ k = omega arith in
      let back : k - 1 + 1 ≡ k = omega arith in
      let round : k % k ≡ 0 = grind arith in
      record {
        images = length-sheets s.size k (turned_sheet s k 1) (length-turned_sheet 1);
        inverse = turned s k (k - 1);
        inverse_images = length-sheets s.size k (turned_sheet s k (k - 1)) (length-turned_sheet (k - 1));
        left = undoes (k - 1) 1 (ap (λ n. n % k) there ∙ round);
        right = undoes 1 (k - 1) (ap (λ n. n % k) back ∙ round);
      }

  module _ (is : IsTable s) (x : Index → ℕ → ℕ) where
    abbrev t : Symbol
    t = sheets_of s k x

    abbrev f : List ℕ
    f = turned s k 1

    beside : (i : Index) (d a : ℕ) → IsChamber s d → a < k → item f (op t i (d + a * s.size)) ≡ op t i (item f (d + a * s.size))
    beside i d a h below =
        let e : a + x i d + 1 ≡ a + 1 + x i d = omega arith in
        ap (item f) (op_in s k x i d a h below)
        ∙ item-turned 1 (op s i d) ((a + x i d) % k) ((is.involutions i).within d h) (sheet_below a (x i d) k below)
        ∙ ap (λ b. op s i d + b * s.size) (mod_sum (a + x i d) 1 k ∙ ap (λ b. b % k) e ∙ sym (mod_sum (a + 1) (x i d) k))
        ∙ sym (op_in s k x i d ((a + 1) % k) h (sheet_below a 1 k below))
        ∙ sym (ap (op t i) (item-turned 1 d a h below))

    pub turn_is_automorphism : 1 ≤ k → IsIsomorphism t t f
    turn_is_automorphism some = record {
      size = refl;
      bijection = bijection some;
      morphism = record {
        images = length-sheets s.size k (turned_sheet s k 1) (length-turned_sheet 1);
        within = λ e h. in_sheets s k (λ c. IsChamber t (item f c)) (turned_within 1) e h.0 h.1;
        op = λ i e h. in_sheets s k (λ c. item f (op t i c) ≡ op t i (item f c)) (beside i) e h.0 h.1;
        m01 = λ e h. in_sheets s k (λ c. item t.m01 (item f c) ≡ item t.m01 c)
            (λ d a here below. ap (item t.m01) (item-turned 1 d a here below) ∙ degree_in s is k x Tile d ((a + 1) % k) here (sheet_below a 1 k below)
            ∙ sym (degree_in s is k x Tile d a here below)) e h.0 h.1;
        m12 = λ e h. in_sheets s k (λ c. item t.m12 (item f c) ≡ item t.m12 c)
            (λ d a here below. ap (item t.m12) (item-turned 1 d a here below) ∙ degree_in s is k x Vertex d ((a + 1) % k) here (sheet_below a 1 k below)
            ∙ sym (degree_in s is k x Vertex d a here below)) e h.0 h.1;
      };
    }
