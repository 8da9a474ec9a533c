-- A whole stem of which no start beats the prefix is that of a least table.
use Rattle.std.proofs.Common.{◌≡◌, ℕ, suc, ◌+◌, ◌*◌, ◌<◌, ◌≤◌, List, [], ◌∷◌, ◌++◌, length, length-take-le, get_or, take, refl, sym, ap, ◌∙◌, subst, inr, ⊎_elim, arith}
use Rattle.std.proofs.lemmas.List.{get_or-take}
use Rattle.std.proofs.lemmas.List.Elements.{Contains-push_cases}
use Rattle.std.specs.List.{Contains}
use Rattle.dd_model.specs.Symbol.{Symbol}
use Rattle.dd_model.specs.FirstVisit.{Grows}
use Rattle.dd_model.proofs.LeastForms.{least_as_table, not_above, copy_is_symbol}
use Rattle.dd_canon.specs.Ties.{IsLeastFrom}
use Rattle.dd_front_jobs.specs.FirstVisit.{AreMet, greatest}
use Rattle.dd_branch_tables.specs.Open.{IsAgreeing, IsShut, HasUnknown, IsOpen}
use Rattle.dd_branch_tables.specs.Passed.{IsPassed}
use Rattle.dd_front_jobs.specs.Places.{place}
use Rattle.dd_branch_tables.specs.Rows.{partial_of}
use Rattle.dd_branch_tables.specs.Stem.{IsStem, prefix_of, size_of}
use Rattle.dd_branch_tables.specs.Table.{IsTableOf, HasLeastTable}
use Rattle.dd_branch_tables.specs.declared.stem.Stem.{Stem}
use Rattle.dd_branch_tables.specs.declared.traversal.Standing.{Standing}
use Rattle.dd_branch_tables.specs.declared.traversal.Standing.TheVariants.{Smaller, Larger, Open}
use Rattle.dd_branch_tables.proofs.BareTables.{IsBare, bare_of_table, unbranched_along}
use Rattle.dd_branch_tables.proofs.Filling.{from_place}
use Rattle.dd_branch_tables.proofs.TableFronts.{front_same, front_begins, place_inside}
use Rattle.dd_branch_tables.proofs.TiedTables.{least_of_ties}
use Rattle.dd_branch_tables.proofs.Unbranched.{unbranched_unique}
use Rattle.dd_branch_tables.proofs.WholeStems.{AreOpenTo, open_passed, open_more, ties_of_open, whole_completes}

-- ## What a traversal that decides nothing says of a whole stem

greatest_bound : (xs : List ℕ) (m : ℕ) → 1 ≤ m → ((u : ℕ) → u < length xs → get_or xs u 0 ≤ m) → greatest xs ≤ m
greatest_bound [] m some few = some
greatest_bound (x ∷ xs) m some few =
    let first = few 0 (omega arith) in
    let rest = greatest_bound xs m some (λ u low. few (suc u) (omega (arith, low))) in
    omega (arith, first, rest)

-- the first chambers of a whole stem lead out
not_shut : (stem : Stem) → length (prefix_of stem) ≡ 3 * size_of stem → AreMet (size_of stem) (prefix_of stem) → IsShut (prefix_of stem) → ⊥
not_shut stem whole met shut =
    let xs = prefix_of stem in
    let k = shut.chambers in
    let within = shut.within in
    let some = shut.some in
    let out = met.met k some (omega (arith, within, whole)) in
    let long : length (take (3 * k) xs) ≡ 3 * k = length-take-le (3 * k) xs (omega (arith, within)) in
    let bound = greatest_bound (take (3 * k) xs) k some (λ u low. subst (λ e. e ≤ k) (sym (get_or-take (3 * k) xs u 0 (omega (arith, low, long)))) (shut.few u (omega (arith, low, long)))) in
    omega (arith, out, bound)

-- each image is told
not_unknown : (stem : Stem) → IsStem stem → length (prefix_of stem) ≡ 3 * size_of stem → HasUnknown (partial_of stem.rows) → ⊥
not_unknown stem is whole unknown =
    let i = unknown.index in
    let d = unknown.chamber in
    let inside = place_inside i d (size_of stem) unknown.inside.0 unknown.inside.1 in
    let known = from_place (partial_of stem.rows) i d (get_or (prefix_of stem) (place i d) 0) (place i d) refl (is.told (place i d) (omega (arith, inside, whole))) in
    let positive = is.positive (place i d) (omega (arith, inside, whole)) in
    let none = unknown.none in
    omega (arith, known, positive, none)

agreeing_of_open : (stem : Stem) (start : ℕ) → IsStem stem → length (prefix_of stem) ≡ 3 * size_of stem → AreMet (size_of stem) (prefix_of stem)
    → IsOpen (partial_of stem.rows) (prefix_of stem) start → IsAgreeing (partial_of stem.rows) (prefix_of stem) start
agreeing_of_open stem start is whole met open_ = ⊎_elim
    (λ agreeing. agreeing)
    (λ other. absurd (⊎_elim (λ shut. not_shut stem whole met shut) (λ unknown. not_unknown stem is whole unknown) other))
    open_

-- ## The starts one by one

-- From each start from 2 to k the numbering is larger, or has the prefix, too.
pub record AreNotSmallerTo (stem : Stem) (k : ℕ) : Type 0 where
  pub ties : List ℕ
  pub open_ : AreOpenTo (partial_of stem.rows) (prefix_of stem) k ties
  pub agreeing : (d : ℕ) → Contains ties d → IsAgreeing (partial_of stem.rows) (prefix_of stem) d

larger_more : (stem : Stem) (k : ℕ) → AreNotSmallerTo stem k → IsPassed (partial_of stem.rows) (prefix_of stem) (k + 1) → AreNotSmallerTo stem (k + 1)
larger_more stem k old passed = record {
  ties = old.ties;
  open_ = open_passed (partial_of stem.rows) (prefix_of stem) old.ties k old.open_ passed;
  agreeing = old.agreeing;
}

agreeing_more : (stem : Stem) (k : ℕ) → AreNotSmallerTo stem k → k + 1 ≤ size_of stem → IsAgreeing (partial_of stem.rows) (prefix_of stem) (k + 1) → AreNotSmallerTo stem (k + 1)
agreeing_more stem k old inside agreeing = record {
  ties = old.ties ++ (k + 1) ∷ [];
  open_ = open_more (partial_of stem.rows) (prefix_of stem) old.ties (old.ties ++ (k + 1) ∷ []) k old.open_ inside refl;
  agreeing = λ d there. ⊎_elim
      (λ early. old.agreeing d early)
      (λ last. subst (IsAgreeing (partial_of stem.rows) (prefix_of stem)) last agreeing)
      (Contains-push_cases old.ties (k + 1) d there);
}

-- the numbering from a further start is larger, or the traversal decides nothing
pub start_more : (stem : Stem) (k : ℕ) (standing : Standing) → IsStem stem → length (prefix_of stem) ≡ 3 * size_of stem → AreMet (size_of stem) (prefix_of stem) → (standing ≡ Smaller → ⊥)
    → (standing ≡ Larger → IsPassed (partial_of stem.rows) (prefix_of stem) (k + 1)) → ((place : ℕ) → standing ≡ Open place → IsOpen (partial_of stem.rows) (prefix_of stem) (k + 1))
    → k + 1 ≤ size_of stem → AreNotSmallerTo stem k → AreNotSmallerTo stem (k + 1)
start_more stem k Smaller is whole met other larger open_ inside old = absurd (other refl)
start_more stem k Larger is whole met other larger open_ inside old = larger_more stem k old (larger refl)
start_more stem k (Open place) is whole met other larger open_ inside old = agreeing_more stem k old inside (agreeing_of_open stem (k + 1) is whole met (open_ place refl))

-- ## The table

-- no numbering of the table from a tie is smaller
least_from : (stem : Stem) (t : Symbol) (ds : List ℕ) → IsStem stem → length (prefix_of stem) ≡ 3 * size_of stem → IsTableOf (size_of stem) (prefix_of stem) t
    → ((d : ℕ) → Contains ds d → IsAgreeing (partial_of stem.rows) (prefix_of stem) d) → IsLeastFrom t ds
least_from stem t ds is whole of agreeing = record {
  none = λ d u there a.
      let symbol = of.bare.symbol in
      let iso = a.isomorphism in
      let completes = whole_completes stem t is whole symbol.table of.bare.connected of.size of.begins in
      let begins = (agreeing d there).same t completes of.begins u a in
      let long : length (prefix_of stem) ≡ 3 * t.size = whole ∙ ap (λ n. 3 * n) (sym of.size) in
      let alike = front_same u t (prefix_of stem) a.table symbol.table iso.size long of.begins begins in
      let other = copy_is_symbol t u symbol a.table (a.map, iso) in
      not_above t u (inr (unbranched_unique t u symbol other of.bare.unbranched (unbranched_along t u a.map symbol.table a.table of.bare.unbranched iso) alike));
}

pub least_of_stem : (stem : Stem) → IsStem stem → length (prefix_of stem) ≡ 3 * size_of stem → Grows 1 (prefix_of stem) → AreMet (size_of stem) (prefix_of stem)
    → AreNotSmallerTo stem (size_of stem) → HasLeastTable (size_of stem) (prefix_of stem)
least_of_stem stem is whole grows met starts =
    let ties = ties_of_open stem starts.ties is whole grows met starts.open_ in
    let has = ties.some in
    let own = bare_of_table has.table has.is_table has.connected has.commuting in
    let t = own.table in
    let bare = own.bare in
    let size : t.size ≡ size_of stem = bare.same.size ∙ has.size in
    let small = is.ready.small in
    let of : IsTableOf (size_of stem) (prefix_of stem) t = record {
      bare = record { symbol = bare.symbol; connected = bare.connected; unbranched = bare.unbranched; small = omega (arith, size, small) };
      size = size;
      begins = front_begins t has.table (prefix_of stem) bare.symbol.table (whole ∙ ap (λ n. 3 * n) (sym has.size)) has.begins bare.same;
    } in
    let itself : IsBare t t = record { symbol = bare.symbol; connected = bare.connected; unbranched = bare.unbranched; same = record { size = refl; s0 = refl; s1 = refl; s2 = refl } } in
    record {
      table = t;
      of = of;
      least = least_as_table t bare.symbol (least_of_ties t t starts.ties bare.symbol bare.connected itself (ties.ties t of) (least_from stem t starts.ties is whole of starts.agreeing));
    }
