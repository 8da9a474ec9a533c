-- The longest rows of numbers of a set, in order.
use Rattle.std.proofs.Common.{IsTrue, slice_index_or, ◌≡◌, ℕ, ◌⊎◌, ◌+◌, ◌-◌, ◌<◌, ◌≤◌, true, false, Bool, List, [], ◌∷◌, ◌++◌, refl, sym, ap, ◌∙◌, subst, inl, inr, map, arith, append_assoc}
use Rattle.std.specs.Prelude.{◌==◌, if◌then◌else◌}
use Rattle.std.specs.List.{AllByRecursion, Contains, join_with_byte}
use Rattle.std.proofs.lemmas.Bool.{cases_lt}
use Rattle.std.proofs.lemmas.List.{append-nil, map-append}
use Rattle.std.proofs.lemmas.Bool.Decides.{nat_tests}
use Rattle.std.proofs.lemmas.List.Elements.{Contains-append_cases, Contains-append_left, Contains-append_right}
use Rattle.dd_model.proofs.Lists.{Contains-none, Contains-one, Contains-head}
use Rattle.dd_model.specs.declared.allowed.Allowed.{Allowed}
use Rattle.dd_model.specs.Allowed.{IsIn}
use Rattle.dd_model.proofs.AllowedLemmas.{in_small}
use Rattle.dd_check.specs.declared.raw_values.Item.{Item}
use Rattle.dd_check.specs.declared.raw_values.Item.TheVariants.{One, Span}
use Rattle.dd_check.specs.Sets.{item_text, set_text, low_of, high_of, IsItem, ArePartedItems, AreParted, AreItems, HasNumberIn, IsSetOf}
use Rattle.dd_check.specs.Texts.{Text}
use Rattle.dd_check.specs.Writing.{run_of, next_item, AddsSet}
use Rattle.dd_check.proofs.JoinLemmas.{joined_more}
use Rattle.dd_check.proofs.SetReads.{all_more}

-- ---- the item of a row of numbers

run_low : (low high : ℕ) → low_of (run_of low high) ≡ low
run_low low high = by_case (low == high)
  where
    by_case : (b : Bool) → low_of (if b then One low else Span low high) ≡ low
    by_case true = refl
    by_case false = refl

run_high : (low high : ℕ) → high_of (run_of low high) ≡ high
run_high low high = by_case (low == high) (λ e. e)
  where
    same : (low == high) ≡ true → low ≡ high
    same e = grind (arith, nat_tests)

    by_case : (b : Bool) → (b ≡ true → (low == high) ≡ true) → high_of (if b then One low else Span low high) ≡ high
    by_case true f = same (f refl)
    by_case false f = refl

run_is_item : (low high : ℕ) → 1 ≤ low → low ≤ high → high ≤ 216 → IsItem (run_of low high)
run_is_item low high a b c = by_case (low == high) (λ e. e)
  where
    different : (low == high) ≡ false → low < high
    different e = grind (arith, nat_tests)

    by_case : (t : Bool) → (t ≡ false → (low == high) ≡ false) → IsItem (if t then One low else Span low high)
    by_case true f = (a, omega arith)
    by_case false f = (a, different (f refl), c)

-- ---- the items of the rows of numbers that begin below a number

pub record AreRuns (set : Allowed) (next : ℕ) (items : List Item) : Type 0 where
  pub each : AllByRecursion IsItem items
  pub parted : AreParted items
  pub inside : (item : Item) → Contains items item → (m : ℕ) → low_of item ≤ m → m ≤ high_of item → IsIn set m
  pub closed : (item : Item) → Contains items item → IsIn set (high_of item + 1) → ⊥
  pub begun : (item : Item) → Contains items item → low_of item < next
  pub found : (m : ℕ) → IsIn set m → m < next → HasNumberIn items m

parted_more : (items : List Item) (item : Item) → AreParted items → ((other : Item) → Contains items other → ArePartedItems other item) → AreParted (items ++ item ∷ [])
parted_more [] item a h = (tt, tt)
parted_more (other ∷ items) item a h = (
  all_more (ArePartedItems other) items item a.0 (h other (Contains-head other items)),
  parted_more items item a.1 (λ x there. h x (Contains-append_right (other ∷ []) items x there)),
)

pub no_runs : (set : Allowed) → (IsIn set 0 → ⊥) → AreRuns set 1 []
no_runs set none = record {
  each = tt;
  parted = tt;
  inside = λ item there. absurd (Contains-none item there);
  closed = λ item there. absurd (Contains-none item there);
  begun = λ item there. absurd (Contains-none item there);
  found = λ m h low. absurd (none (let e : m ≡ 0 = omega arith in subst (IsIn set) e h));
}

-- a number that begins no row
pub not_begun : (set : Allowed) (next : ℕ) (items : List Item) → 1 ≤ next → (IsIn set next → IsIn set (next - 1)) → AreRuns set next items → AreRuns set (next + 1) items
not_begun set next items positive before h = record {
  each = h.each;
  parted = h.parted;
  inside = h.inside;
  closed = h.closed;
  begun = λ item there. let low = h.begun item there in omega arith;
  found = λ m is low. elim (cases_lt m next) [
    | inl below ↦ h.found m is below
    | inr above ↦ let e : m ≡ next = omega arith in subst (HasNumberIn items) (sym e) (here (subst (IsIn set) e is))
  ];
}
  where
    longer : (f : HasNumberIn items (next - 1)) → IsIn set next → HasNumberIn items next
    longer f is = elim (cases_lt (high_of f.item) next) [
      | inl short ↦ let to = f.to in let e : next ≡ high_of f.item + 1 = omega arith in absurd (h.closed f.item f.among (subst (IsIn set) e is))
      | inr long ↦ let from = f.from in record { item = f.item; among = f.among; from = omega arith; to = long }
    ]

    here : IsIn set next → HasNumberIn items next
    here is = longer (h.found (next - 1) (before is) (omega arith)) is

-- a row that begins
pub begun_more : (set : Allowed) (next last : ℕ) (items : List Item) → 1 ≤ next → next ≤ last → last ≤ 216 → (IsIn set (next - 1) → ⊥)
    → ((m : ℕ) → next ≤ m → m ≤ last → IsIn set m) → (IsIn set (last + 1) → ⊥) → AreRuns set next items → AreRuns set (next + 1) (items ++ run_of next last ∷ [])
begun_more set next last items positive ordered small fresh all closed h = record {
  each = all_more IsItem items (run_of next last) h.each (run_is_item next last positive ordered small);
  parted = parted_more items (run_of next last) h.parted apart;
  inside = λ item there m from to. inside item (Contains-append_cases items (run_of next last ∷ []) item there) m from to;
  closed = λ item there. ends item (Contains-append_cases items (run_of next last ∷ []) item there);
  begun = λ item there. starts item (Contains-append_cases items (run_of next last ∷ []) item there);
  found = λ m is low. elim (cases_lt m next) [
    | inl below ↦ old m (h.found m is below)
    | inr above ↦ record { item = run_of next last; among = Contains-append_right items (run_of next last ∷ []) (run_of next last) (Contains-head (run_of next last) []); from = new_from m above; to = new_to m (omega arith) }
  ];
}
  where
    apart : (other : Item) → Contains items other → ArePartedItems other (run_of next last)
    apart other there = elim (cases_lt (high_of other + 1) next) [
      | inl short ↦ let e = run_low next last in omega arith
      | inr long ↦ let start = h.begun other there in absurd (fresh (h.inside other there (next - 1) (omega arith) (omega arith)))
    ]

    inside : (item : Item) → Contains items item ⊎ Contains (run_of next last ∷ []) item → (m : ℕ) → low_of item ≤ m → m ≤ high_of item → IsIn set m
    inside item (inl there) m from to = h.inside item there m from to
    inside item (inr there) m from to =
        let e = Contains-one (run_of next last) item there in
        let low : low_of item ≡ next = ap low_of (sym e) ∙ run_low next last in
        let high : high_of item ≡ last = ap high_of (sym e) ∙ run_high next last in
        all m (omega arith) (omega arith)

    ends : (item : Item) → Contains items item ⊎ Contains (run_of next last ∷ []) item → IsIn set (high_of item + 1) → ⊥
    ends item (inl there) is = h.closed item there is
    ends item (inr there) is =
        let high : high_of item ≡ last = ap high_of (sym (Contains-one (run_of next last) item there)) ∙ run_high next last in
        closed (subst (λ k. IsIn set (k + 1)) high is)

    starts : (item : Item) → Contains items item ⊎ Contains (run_of next last ∷ []) item → low_of item < next + 1
    starts item (inl there) = let low = h.begun item there in omega arith
    starts item (inr there) = let low : low_of item ≡ next = ap low_of (sym (Contains-one (run_of next last) item there)) ∙ run_low next last in omega arith

    old : (m : ℕ) → HasNumberIn items m → HasNumberIn (items ++ run_of next last ∷ []) m
    old m f = record { item = f.item; among = Contains-append_left items (run_of next last ∷ []) f.item f.among; from = f.from; to = f.to }

    new_from : (m : ℕ) → next ≤ m → low_of (run_of next last) ≤ m
    new_from m above = let e = run_low next last in omega arith

    new_to : (m : ℕ) → m ≤ next → m ≤ high_of (run_of next last)
    new_to m below = let e = run_high next last in omega arith

pub all_runs : (set : Allowed) (items : List Item) → AreRuns set 217 items → IsSetOf items set
all_runs set items h m = (
  λ is. let small = in_small set m is in h.found m is (omega arith),
  λ f. h.inside f.item f.among m f.from f.to,
)

pub are_items : (set : Allowed) (next : ℕ) (items : List Item) → AreRuns set next items → AreItems items
are_items set next items h = record { each = h.each; parted = h.parted }

-- ---- their text

pub is_begun : List Item → Bool
is_begun [] = false
is_begun (item ∷ items) = true

pub set_more : (old new text : Text) (items : List Item) (item : Item) (begun : Bool) → begun ≡ is_begun items → text ≡ old ++ set_text items
    → new ≡ text ++ next_item begun item → new ≡ old ++ set_text (items ++ item ∷ [])
unfolding is_begun
set_more old new text [] item begun b t n = n ∙ ap (λ z. text ++ next_item z item) b ∙ ap (λ z. z ++ item_text item) (t ∙ append-nil old)
set_more old new text (x ∷ xs) item begun b t n =
    n ∙ ap (λ z. text ++ next_item z item) b ∙ ap (λ z. z ++ 44 ∷ item_text item) t
    ∙ append_assoc old (set_text (x ∷ xs)) (44 ∷ item_text item)
    ∙ ap (λ z. old ++ z) (sym (joined_more 44 (item_text x) (map item_text xs) (item_text item)))
    ∙ ap (λ z. old ++ join_with_byte 44 z) (sym (map-append item_text (x ∷ xs) (item ∷ [])))

-- what was written of a set that is looked at below a number
pub record IsWritten (set : Allowed) (next : ℕ) (begun : Bool) (old new : Text) : Type 0 where
  pub items : List Item
  pub runs : AreRuns set next items
  pub begun_is : begun ≡ is_begun items
  pub text : new ≡ old ++ set_text items

no_zero_in : (a : Allowed) → IsIn a 0 → ⊥
no_zero_in a h = let none = a.no_zero in cc

is_in_or_not : (a : Allowed) (m : ℕ) → IsIn a m ⊎ (IsIn a m → ⊥)
is_in_or_not a m = by_case (slice_index_or a.table m false)
  where
    by_case : (b : Bool) → IsTrue b ⊎ (IsTrue b → ⊥)
    by_case true = inl refl
    by_case false = inr (λ h. (cc))

pub written_at_start : (set : Allowed) (old : Text) → IsWritten set 1 false old old
unfolding is_begun
written_at_start set old = record { items = []; runs = no_runs set (no_zero_in set); begun_is = refl; text = sym (append-nil old) }

-- no row begins at the number
pub written_on : (set : Allowed) (next : ℕ) (begun : Bool) (old new : Text) → 1 ≤ next → (IsIn set next × (IsIn set (next - 1) → ⊥) → ⊥)
    → IsWritten set next begun old new → IsWritten set (next + 1) begun old new
written_on set next begun old new positive none w =
    record { items = w.items; runs = not_begun set next w.items positive before w.runs; begun_is = w.begun_is; text = w.text }
  where
    before : IsIn set next → IsIn set (next - 1)
    before is = elim (is_in_or_not set (next - 1)) [ inl there ↦ there | inr away ↦ absurd (none (is, away)) ]

begun_then : (items : List Item) (item : Item) → true ≡ is_begun (items ++ item ∷ [])
unfolding is_begun
begun_then [] item = refl
begun_then (x ∷ xs) item = refl

-- a row that begins there was written
pub written_more : (set : Allowed) (next last : ℕ) (begun : Bool) (old text new : Text) → 1 ≤ next → next ≤ last → last ≤ 216 → (IsIn set (next - 1) → ⊥)
    → ((m : ℕ) → next ≤ m → m ≤ last → IsIn set m) → (IsIn set (last + 1) → ⊥) → new ≡ text ++ next_item begun (run_of next last)
    → IsWritten set next begun old text → IsWritten set (next + 1) true old new
written_more set next last begun old text new positive ordered small fresh all closed e w = record {
  items = w.items ++ run_of next last ∷ [];
  runs = begun_more set next last w.items positive ordered small fresh all closed w.runs;
  begun_is = begun_then w.items (run_of next last);
  text = set_more old new text w.items (run_of next last) begun w.begun_is w.text e;
}

pub written_whole : (set : Allowed) (begun : Bool) (old new : Text) → IsWritten set 217 begun old new → AddsSet set old new
written_whole set begun old new w = record {
  items = w.items;
  are_items = are_items set 217 w.items w.runs;
  set_is = λ m. all_runs set w.items w.runs m;
  text = w.text;
}
