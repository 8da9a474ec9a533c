-- The table of a whole stem whose chambers are met in order.
use Rattle.std.proofs.Common.{◌≡◌, ℕ, zero, suc, ◌+◌, ◌*◌, ◌/◌, ◌%◌, ◌<◌, ◌≤◌, List, [], ◌∷◌, ◌++◌, length, length-take-le, get_or, take, replicate, refl, sym, ap, ◌∙◌, subst, ⊎_elim, arith}
use Rattle.std.proofs.lemmas.Bool.{cases_lt}
use Rattle.std.proofs.lemmas.List.{get_or-take, get_or_default, length-replicate}
use Rattle.std.specs.List.{Contains}
use Rattle.dd_model.specs.declared.index.Index.{Index}
use Rattle.dd_model.specs.declared.index.Index.TheVariants.{Zero, Two}
use Rattle.dd_model.specs.declared.pair.Pair.TheVariants.{Edge}
use Rattle.dd_model.specs.Symbol.{Symbol, IsChamber, AreInvolutions, HasDegree, op}
use Rattle.dd_model.specs.Connected.{IsReached}
use Rattle.dd_model.specs.FirstVisit.{Grows}
use Rattle.dd_model.proofs.Words.{act-append}
use Rattle.dd_front_jobs.specs.Places.{place}
use Rattle.dd_front_jobs.specs.FirstVisit.{AreMet}
use Rattle.dd_branch_tables.specs.Rows.{partial_of}
use Rattle.dd_branch_tables.specs.Stem.{IsStem, prefix_of, size_of}
use Rattle.dd_branch_tables.specs.Table.{HasTable, told}
use Rattle.dd_branch_tables.specs.declared.stem.Stem.{Stem}
use Rattle.dd_front_jobs.proofs.CodeFronts.{grows_take, stands}
use Rattle.dd_branch_tables.proofs.Commuting.{op_small, ready_leads_back}
use Rattle.dd_branch_tables.proofs.Filling.{from_place}
use Rattle.dd_front_jobs.proofs.Places.{place_of_place}
use Rattle.dd_branch_tables.proofs.TableFronts.{lengths_told, place_inside, told_at, told_begins}
use Rattle.dd_model.specs.Indices.{index_at}

-- ## Connectedness

-- a chamber that stands among the images of the chambers up to m
record IsImage (s : Symbol) (m d : ℕ) : Type 0 where
  index : Index
  chamber : ℕ
  positive : 1 ≤ chamber
  before : chamber ≤ m
  image : op s index chamber ≡ d

image_of_met : (n : ℕ) (xs ms ns : List ℕ) → length xs ≡ 3 * n → Grows 1 xs → AreMet n xs → (m : ℕ) → 1 ≤ m → m < n → IsImage (told n xs ms ns) m (m + 1)
image_of_met n xs ms ns whole grows met m low high =
    let front = take (3 * m) xs in
    let size : length front ≡ 3 * m = length-take-le (3 * m) xs (omega arith) in
    let most = met.met m low high in
    at_place (stands 1 front (m + 1) (omega arith) (grows_take 1 xs (3 * m) grows) (omega arith) (omega arith)) size
  where
    at_place : Contains (take (3 * m) xs) (m + 1) → length (take (3 * m) xs) ≡ 3 * m → IsImage (told n xs ms ns) m (m + 1)
    at_place (u, inside, is) size =
        let there : get_or xs u 0 ≡ m + 1 = sym (get_or-take (3 * m) xs u 0 (omega arith)) ∙ sym (get_or_default (take (3 * m) xs) u (m + 1) 0 inside) ∙ is in
        record {
          index = index_at (u % 3);
          chamber = 1 + u / 3;
          positive = omega arith;
          before = omega arith;
          image = told_at n xs ms ns (index_at (u % 3)) (1 + u / 3) (omega arith) (omega arith) ∙ ap (λ t. get_or xs t 0) (place_of_place u) ∙ there;
        }

-- The chambers up to m are reached, if each one after the first is an image of one before it.
reached_to : (s : Symbol) (n : ℕ) → ((m : ℕ) → 1 ≤ m → m < n → IsImage s m (m + 1)) → (m d : ℕ) → 1 ≤ d → d ≤ m → d ≤ n → IsReached s d
reached_to s n image zero d low high within = absurd (omega arith)
reached_to s n image (suc m) d low high within = ⊎_elim
    (λ early. reached_to s n image m d low (omega arith) within)
    (λ late. ⊎_elim
    (λ first. record { word = []; leads = let one : 1 ≡ d = omega (arith, first, low) in one })
    (λ more.
    let here : m + 1 ≡ d = omega (arith, late, high) in
    let by = image m (omega (arith, more, here)) (omega (arith, here, within)) in
    let before = by.before in
    let old = reached_to s n image m by.chamber by.positive before (omega (arith, before, here, within)) in
    record {
      word = old.word ++ by.index ∷ [];
      leads = act-append s old.word (by.index ∷ []) 1 ∙ ap (op s by.index) old.leads ∙ by.image ∙ here;
    })
    (cases_lt d 2))
    (cases_lt d (suc m))

-- ## The images of a whole stem

-- the images with some degrees
abbrev table_told : Stem → Symbol
table_told stem = told (size_of stem) (prefix_of stem) (replicate (size_of stem) 1) (replicate (size_of stem) 1)

image_is : (stem : Stem) → IsStem stem → length (prefix_of stem) ≡ 3 * size_of stem → (i : Index) (d : ℕ) → 1 ≤ d → d ≤ size_of stem → op (table_told stem) i d ≡ op (partial_of stem.rows) i d
image_is stem is whole i d low high =
    let n = size_of stem in
    let xs = prefix_of stem in
    let inside = place_inside i d n low high in
    told_at n xs (replicate n 1) (replicate n 1) i d low high
    ∙ sym (from_place (partial_of stem.rows) i d (get_or xs (place i d) 0) (place i d) refl (is.told (place i d) (omega arith)))

-- each image is known
image_known : (stem : Stem) → IsStem stem → length (prefix_of stem) ≡ 3 * size_of stem → (i : Index) (d : ℕ) → 1 ≤ d → d ≤ size_of stem → 1 ≤ op (partial_of stem.rows) i d
image_known stem is whole i d low high =
    let inside = place_inside i d (size_of stem) low high in
    subst (λ e. 1 ≤ e) (sym (from_place (partial_of stem.rows) i d (get_or (prefix_of stem) (place i d) 0) (place i d) refl (is.told (place i d) (omega arith))))
    (is.positive (place i d) (omega arith))

told_involutions : (stem : Stem) → IsStem stem → length (prefix_of stem) ≡ 3 * size_of stem → AreInvolutions (table_told stem)
told_involutions stem is whole i =
    let P = partial_of stem.rows in
    record {
      within = λ d h.
          let same = image_is stem is whole i d h.0 h.1 in
          let some = image_known stem is whole i d h.0 h.1 in
          let small = op_small stem.rows i d is.ready in
          (omega (arith, same, some), omega (arith, same, small));
      involutive = λ d h.
          let same = image_is stem is whole i d h.0 h.1 in
          let some = image_known stem is whole i d h.0 h.1 in
          let small = op_small stem.rows i d is.ready in
          ap (op (table_told stem) i) same ∙ image_is stem is whole i (op P i d) some small
          ∙ (ready_leads_back stem.rows is.ready).back i d h.0 (λ z. omega (arith, some, z));
    }

told_commutes : (stem : Stem) → IsStem stem → length (prefix_of stem) ≡ 3 * size_of stem → (d : ℕ) → IsChamber (table_told stem) d
    → op (table_told stem) Two (op (table_told stem) Zero d) ≡ op (table_told stem) Zero (op (table_told stem) Two d)
told_commutes stem is whole d h =
    let t = table_told stem in
    let P = partial_of stem.rows in
    let some_zero = image_known stem is whole Zero d h.0 h.1 in
    let some_two = image_known stem is whole Two d h.0 h.1 in
    let small_zero = op_small stem.rows Zero d is.ready in
    let small_two = op_small stem.rows Two d is.ready in
    ap (op t Two) (image_is stem is whole Zero d h.0 h.1) ∙ image_is stem is whole Two (op P Zero d) some_zero small_zero
    ∙ is.commuting.at d h.0 (λ z. omega (arith, some_zero, z)) (λ z. omega (arith, some_two, z))
    ∙ sym (ap (op t Zero) (image_is stem is whole Two d h.0 h.1) ∙ image_is stem is whole Zero (op P Two d) some_two small_two)

-- s0 s2 s0 s2 moves no chamber where s0 and s2 commute
edge_degree : (t : Symbol) → AreInvolutions t → (d : ℕ) → IsChamber t d → op t Two (op t Zero d) ≡ op t Zero (op t Two d) → HasDegree t Edge d
edge_degree t inv d h commute = record {
  positive = omega arith;
  along_first = refl;
  along_second = refl;
  turns = ap (λ e. op t Two (op t Zero e)) commute ∙ ap (op t Two) ((inv Zero).involutive (op t Two d) ((inv Two).within d h)) ∙ (inv Two).involutive d h;
}

pub table_of_stem : (stem : Stem) → IsStem stem → length (prefix_of stem) ≡ 3 * size_of stem → Grows 1 (prefix_of stem) → AreMet (size_of stem) (prefix_of stem) → HasTable (size_of stem) (prefix_of stem)
table_of_stem stem is whole grows met =
    let n = size_of stem in
    let xs = prefix_of stem in
    let ones = replicate n 1 in
    let inv = told_involutions stem is whole in
    record {
      table = table_told stem;
      is_table = record {
        chambers = is.ready.positive;
        lengths = lengths_told n xs ones ones;
        m01_length = length-replicate n 1;
        m12_length = length-replicate n 1;
        involutions = inv;
      };
      connected = λ d h. reached_to (table_told stem) n (image_of_met n xs ones ones whole grows met) n d h.0 h.1 h.1;
      commuting = λ d h. edge_degree (table_told stem) inv d h (told_commutes stem is whole d h);
      size = refl;
      begins = told_begins n xs ones ones whole;
    }
