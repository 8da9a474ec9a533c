-- The starts of a stem of which all images are told.
use Rattle.std.proofs.Common.{◌≡◌, ◌≢◌, ℕ, zero, suc, ◌+◌, ◌-◌, ◌*◌, ◌≤◌, ◌⊎◌, List, [], ◌∷◌, ◌++◌, length, get_or, take, refl, sym, ap, ◌∙◌, subst, inl, inr, ⊎_elim, arith}
use Rattle.std.proofs.lemmas.Bool.{cases_lt}
use Rattle.std.proofs.lemmas.List.{take-take}
use Rattle.std.proofs.lemmas.List.Elements.{Contains-append_left, Contains-push, Contains-push_cases}
use Rattle.std.specs.List.{Contains}
use Rattle.dd_model.specs.declared.index.Index.{Index}
use Rattle.dd_model.specs.Symbol.{Symbol, IsTable, op}
use Rattle.dd_model.specs.Connected.{Connected}
use Rattle.dd_model.specs.Lists.{Begins}
use Rattle.dd_model.specs.Code.{code}
use Rattle.dd_model.specs.FirstVisit.{Grows}
use Rattle.dd_model.specs.Partial.{Completes}
use Rattle.dd_model.proofs.Ascending.{begins_at}
use Rattle.dd_model.proofs.LeastForms.{least_first_visit}
use Rattle.dd_front_jobs.specs.FirstVisit.{AreMet, greatest}
use Rattle.dd_front_jobs.specs.Places.{place}
use Rattle.dd_branch_tables.specs.Rows.{Rows, partial_of, IsReady}
use Rattle.dd_front_jobs.specs.Under.{HasNothingUnder}
use Rattle.dd_branch_tables.specs.Passed.{IsPassed}
use Rattle.dd_branch_tables.specs.Stem.{Any, IsStem, prefix_of, size_of}
use Rattle.dd_branch_tables.specs.Ties.{AreTiesOf}
use Rattle.dd_branch_tables.specs.declared.stem.Stem.{Stem}
use Rattle.dd_front_jobs.proofs.CodeFronts.{image_at, leads_out}
use Rattle.dd_branch_tables.proofs.Commuting.{op_small}
use Rattle.dd_branch_tables.proofs.Filling.{from_place}
use Rattle.dd_front_jobs.proofs.Growth.{begins_take}
use Rattle.dd_branch_tables.proofs.RowsLemmas.{leads_back, op_past}
use Rattle.dd_branch_tables.proofs.TableFronts.{place_inside}
use Rattle.dd_branch_tables.proofs.WalkLemmas.{front_is}
use Rattle.dd_branch_tables.proofs.WholeTables.{table_of_stem}

-- ## The table of a whole stem

-- Only the chambers have images.
has_image_inside : (r : Rows) (i : Index) (d : ℕ) → IsReady r → 1 ≤ d → op (partial_of r) i d ≢ 0 → d ≤ r.size
has_image_inside r i d ready low some = ⊎_elim
    (λ inside.
    let small = ready.small in
    let image = op_small r i d ready in
    let back = leads_back r i d (op (partial_of r) i d) ready low (omega arith) (omega arith) (omega arith) refl in
    let again = op_small r i (op (partial_of r) i d) ready in
    omega arith)
    (λ past. absurd (some (op_past r.size r.numbers i d past)))
    (cases_lt (d - 1) 36)

-- the images of a chamber where all are told
image_told : (stem : Stem) (t : Symbol) → IsStem stem → length (prefix_of stem) ≡ 3 * size_of stem → t.size ≡ size_of stem → Begins (prefix_of stem) (code t)
    → (i : Index) (d : ℕ) → 1 ≤ d → op (partial_of stem.rows) i d ≢ 0 → op t i d ≡ op (partial_of stem.rows) i d
image_told stem t is whole size begins i d low some =
    let inside = place_inside i d (size_of stem) low (has_image_inside stem.rows i d is.ready low some) in
    let known = from_place (partial_of stem.rows) i d (get_or (prefix_of stem) (place i d) 0) (place i d) refl (is.told (place i d) (omega arith)) in
    sym (image_at t i d low (omega arith)) ∙ begins_at (prefix_of stem) (code t) (place i d) begins (omega arith) ∙ sym known

-- chambers are counted from 1, and 0 is read as 1
at_each : (a b : Symbol) (i : Index) → ((d : ℕ) → 1 ≤ d → op a i d ≢ 0 → op b i d ≡ op a i d) → (d : ℕ) → op a i d ≢ 0 → op b i d ≡ op a i d
at_each a b i h zero some = h 1 (omega arith) some
at_each a b i h (suc d) some = h (suc d) (omega arith) some

pub whole_completes : (stem : Stem) (t : Symbol) → IsStem stem → length (prefix_of stem) ≡ 3 * size_of stem → IsTable t → Connected t → t.size ≡ size_of stem → Begins (prefix_of stem) (code t) → Completes (partial_of stem.rows) t
whole_completes stem t is whole table con size begins = record {
  table = table;
  connected = con;
  size = size;
  images = λ i. at_each (partial_of stem.rows) t i (image_told stem t is whole size begins i);
}

-- Nothing is under a whole prefix whose chambers do not come in the order of their first visits.
pub none_without_growth : (stem : Stem) → length (prefix_of stem) ≡ 3 * size_of stem → (Grows 1 (prefix_of stem) → ⊥) → HasNothingUnder Any (size_of stem) (prefix_of stem)
none_without_growth stem whole fails s under =
    let size = under.size in
    let is = under.orderly in
    fails (subst (Grows 1) (front_is s (prefix_of stem) (omega arith) under.begins) (least_first_visit s is.table is.connected is.least))

-- Nothing is under a whole prefix with a chamber that is not met before its own images come.
pub none_unmet_before : (stem : Stem) → length (prefix_of stem) ≡ 3 * size_of stem → (AreMet (size_of stem) (prefix_of stem) → ⊥) → HasNothingUnder Any (size_of stem) (prefix_of stem)
none_unmet_before stem whole fails s under =
    let xs = prefix_of stem in
    let size = under.size in
    fails (record {
      met = λ k low high.
          let front : take (3 * k) (code s) ≡ take (3 * k) xs =
          sym (take-take (3 * k) (length xs) (code s) (omega arith)) ∙ ap (take (3 * k)) (begins_take xs (code s) under.begins) in
          let same : greatest (take (3 * k) (code s)) ≡ greatest (take (3 * k) xs) = ap greatest front in
          let out = leads_out s under.orderly k low (omega arith) in
          omega arith;
    })

-- ## The starts one by one

-- Of the starts from 2 to k those are listed of which it is not sure that the numbering is larger.
pub record AreOpenTo (partial : Symbol) (prefix : List ℕ) (k : ℕ) (ds : List ℕ) : Type 0 where
  pub chambers : (d : ℕ) → Contains ds d → (1 ≤ d) × (d ≤ partial.size)
  pub others : (d : ℕ) → 2 ≤ d → d ≤ k → Contains ds d ⊎ IsPassed partial prefix d

pub open_passed : (partial : Symbol) (prefix ds : List ℕ) (k : ℕ) → AreOpenTo partial prefix k ds → IsPassed partial prefix (k + 1) → AreOpenTo partial prefix (k + 1) ds
open_passed partial prefix ds k old passed = record {
  chambers = old.chambers;
  others = λ d low high. ⊎_elim
      (λ early. old.others d low (omega (arith, early)))
      (λ late. let here : k + 1 ≡ d = omega (arith, late, high) in inr (subst (IsPassed partial prefix) here passed))
      (cases_lt d (k + 1));
}

pub open_more : (partial : Symbol) (prefix ds new : List ℕ) (k : ℕ) → AreOpenTo partial prefix k ds → k + 1 ≤ partial.size → new ≡ ds ++ (k + 1) ∷ [] → AreOpenTo partial prefix (k + 1) new
open_more partial prefix ds new k old inside longer =
    let there : (d : ℕ) → Contains (ds ++ (k + 1) ∷ []) d → Contains new d = λ d. subst (λ xs. Contains xs d) (sym longer) in
    record {
      chambers = λ d h. ⊎_elim
          (λ early. old.chambers d early)
          (λ last. (omega (arith, last), omega (arith, last, inside)))
          (Contains-push_cases ds (k + 1) d (subst (λ xs. Contains xs d) longer h));
      others = λ d low high. ⊎_elim
          (λ early. ⊎_elim (λ h. inl (there d (Contains-append_left ds ((k + 1) ∷ []) d h))) (λ passed. inr passed) (old.others d low (omega (arith, early))))
          (λ late. let here : k + 1 ≡ d = omega (arith, late, high) in inl (subst (Contains new) here (there (k + 1) (Contains-push ds (k + 1)))))
          (cases_lt d (k + 1));
    }

-- the ties of each table with these images
pub ties_of_open : (stem : Stem) (ds : List ℕ) → IsStem stem → length (prefix_of stem) ≡ 3 * size_of stem → Grows 1 (prefix_of stem) → AreMet (size_of stem) (prefix_of stem)
    → AreOpenTo (partial_of stem.rows) (prefix_of stem) (size_of stem) ds
    → AreTiesOf (size_of stem) (prefix_of stem) ds
ties_of_open stem ds is whole grows met open_ = record {
  some = table_of_stem stem is whole grows met;
  ties = λ t of.
      let size = of.size in
      let table = of.bare.symbol.table in
      record {
        chambers = λ d there. let h = open_.chambers d there in (h.0, let high = h.1 in omega (arith, high, size));
        first = λ some. subst (Grows 1) (sym (front_is t (prefix_of stem) (omega arith) of.begins)) grows;
        others = λ d low high other. ⊎_elim
            (λ there. inl there)
            (λ passed. inr (passed.larger t (whole_completes stem t is whole table of.bare.connected of.size of.begins) of.begins))
            (open_.others d (omega (arith, low, other)) (omega (arith, high, size)));
      };
}

-- what is said of the rows and the numbers of a stem
pub of_stem : (P : Rows → List ℕ → Type 0) (stem : Stem) (rows : Rows) (numbers : List ℕ) → rows ≡ stem.rows → numbers ≡ prefix_of stem → P rows numbers → P stem.rows (prefix_of stem)
of_stem P stem rows numbers same equal is = subst (P stem.rows) equal (subst (λ r. P r numbers) same is)
