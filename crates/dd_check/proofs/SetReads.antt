-- Words that tell a list of values, one after the other.
use Rattle.std.proofs.Common.{◌≡◌, ◌⊎◌, ◌↔◌, ℕ, zero, suc, ◌+◌, ◌<◌, ◌≤◌, List, [], ◌∷◌, ◌++◌, length, get_or, drop, map, refl, sym, ap, ◌∙◌, subst, inl, inr, arith, drop-cons}
use Rattle.std.specs.List.{AllByRecursion}
use Rattle.std.proofs.lemmas.List.{map-append}
use Rattle.dd_model.proofs.Lists.{Contains-none, Contains-cases, Contains-head, Contains-later}
use Rattle.dd_model.specs.Allowed.{IsIn}
use Rattle.dd_model.specs.declared.allowed.Allowed.{Allowed}
use Rattle.dd_check.specs.declared.raw_values.Item.{Item}
use Rattle.dd_check.specs.declared.raw_values.Item.TheVariants.{One, Span}
use Rattle.dd_check.specs.Texts.{Text}
use Rattle.dd_check.specs.Sets.{low_of, high_of, IsItem, AreItems, HasNumberIn}

-- ---- words and values

pub record TellsEach {A : Type 0} (text : A → Text) (ok : A → Type 0) (words : List Text) (values : List A) : Type 0 where
  pub words_are : words ≡ map text values
  pub each : AllByRecursion ok values

pub all_more : {A : Type 0} (P : A → Type 0) (xs : List A) (x : A) → AllByRecursion P xs → P x → AllByRecursion P (xs ++ x ∷ [])
all_more P [] x a h = (h, tt)
all_more P (y ∷ ys) x a h = (a.0, all_more P ys x a.1 h)

pub tells_more : {A : Type 0} (text : A → Text) (ok : A → Type 0) (words : List Text) (word : Text) (values : List A) (value : A)
    → TellsEach text ok words values → word ≡ text value → ok value → TellsEach text ok (words ++ word ∷ []) (values ++ value ∷ [])
tells_more text ok words word values value t e h = record {
  words_are = ap (λ z. z ++ word ∷ []) t.words_are ∙ ap (λ z. map text values ++ z ∷ []) e ∙ sym (map-append text values (value ∷ []));
  each = all_more ok values value t.each h;
}

record IsToldBy {A : Type 0} (text : A → Text) (ok : A → Type 0) (word : Text) : Type 0 where
  pub value : A
  pub word_is : word ≡ text value
  pub is_ok : ok value

nth_told : {A : Type 0} (text : A → Text) (ok : A → Type 0) (values : List A) (k : ℕ) → k < length (map text values) → AllByRecursion ok values
    → IsToldBy text ok (get_or (map text values) k [])
nth_told text ok [] k h a = absurd (omega arith)
nth_told text ok (v ∷ vs) zero h a = record { value = v; word_is = refl; is_ok = a.0 }
nth_told text ok (v ∷ vs) (suc k) h a = nth_told text ok vs k (omega arith) a.1

-- where one of the words tells no value, they tell no list
pub tells_none : {A : Type 0} (text : A → Text) (ok : A → Type 0) (words : List Text) (k : ℕ) → k < length words
    → ((value : A) → get_or words k [] ≡ text value → ok value → ⊥) → (values : List A) → TellsEach text ok words values → ⊥
tells_none text ok words k h none values t =
    let n = nth_told text ok values k (subst (λ ws. k < length ws) t.words_are h) t.each in
    none n.value (ap (λ ws. get_or ws k []) t.words_are ∙ n.word_is) n.is_ok

-- ---- items in range, ascending and apart

abbrev AreFrom : ℕ → List Item → Type 0
AreFrom next items = AreItems items × AllByRecursion (λ item. next ≤ low_of item) items

pub record StillAre (all rest : List Item) (next : ℕ) : Type 0 where
  pub there : AreItems all → AreFrom next rest
  pub back : AreFrom next rest → AreItems all

pub all_low : (items : List Item) → AllByRecursion (λ item. 0 ≤ low_of item) items
all_low [] = tt
all_low (item ∷ items) = (omega arith, all_low items)

pub ends_in_order : (item : Item) → IsItem item → low_of item ≤ high_of item
ends_in_order (One number) h = omega arith
ends_in_order (Span low high) h = let a = h.1 in omega arith

pub item_ends : (item : Item) (low high : ℕ) → IsItem item → low ≡ low_of item → high ≡ high_of item → (1 ≤ low) × (low ≤ high) × (high ≤ 216)
item_ends (One n) low high i e f = (omega (arith, i.0), omega arith, omega (arith, i.1))
item_ends (Span a b) low high i e f = (omega (arith, i.0), omega (arith, i.1), omega (arith, i.2))

pub still_more : (all : List Item) (item : Item) (rest : List Item) (next : ℕ) → IsItem item → next ≤ low_of item → StillAre all (item ∷ rest) next → StillAre all rest (high_of item + 2)
still_more all item rest next is from h = record {
  there = λ a. let b = (h.there a).0 in (record { each = b.each.1; parted = b.parted.1 }, b.parted.0);
  back = λ a. h.back (record { each = (is, a.0.each); parted = (a.1, a.0.parted) }, (from, later rest a.1));
}
  where
    later : (items : List Item) → AllByRecursion (λ other. high_of item + 2 ≤ low_of other) items → AllByRecursion (λ other. next ≤ low_of other) items
    later [] a = tt
    later (other ∷ items) a = let b = a.0 in let c = ends_in_order item is in (omega arith, later items a.1)

pub not_item : (all : List Item) (item : Item) (rest : List Item) (next : ℕ) → (IsItem item → ⊥) → StillAre all (item ∷ rest) next → AreItems all → ⊥
not_item all item rest next never h a = never (h.there a).0.each.0

-- ---- the numbers of items

pub number_cases : (item : Item) (items : List Item) (m : ℕ) → HasNumberIn (item ∷ items) m → ((low_of item ≤ m) × (m ≤ high_of item)) ⊎ HasNumberIn items m
number_cases item items m h = elim (Contains-cases item h.item items h.among) [
  | inl e ↦ inl (subst (λ i. low_of i ≤ m) (sym e) h.from, subst (λ i. m ≤ high_of i) (sym e) h.to)
  | inr there ↦ inr (record { item = h.item; among = there; from = h.from; to = h.to })
]

pub number_first : (item : Item) (items : List Item) (m : ℕ) → (low_of item ≤ m) × (m ≤ high_of item) → HasNumberIn (item ∷ items) m
number_first item items m h = record { item = item; among = Contains-head item items; from = h.0; to = h.1 }

pub number_later : (item : Item) (items : List Item) (m : ℕ) → HasNumberIn items m → HasNumberIn (item ∷ items) m
number_later item items m h = record { item = h.item; among = Contains-later item h.item items h.among; from = h.from; to = h.to }

pub no_number : (m : ℕ) → HasNumberIn [] m → ⊥
no_number m h = Contains-none h.item h.among

-- ---- ranges of numbers

-- the set has the numbers of the items that are gone over, and what is left has those of the others
pub record IsSetSoFar (all rest : List Item) (set : Allowed) : Type 0 where
  pub there : (m : ℕ) → IsIn set m → HasNumberIn all m
  pub back : (m : ℕ) → HasNumberIn all m → IsIn set m ⊎ HasNumberIn rest m
  pub later : (m : ℕ) → HasNumberIn rest m → HasNumberIn all m

pub set_more : (all rest : List Item) (item : Item) (set new : Allowed) → ((m : ℕ) → IsIn new m ↔ (IsIn set m ⊎ ((low_of item ≤ m) × (m ≤ high_of item))))
    → IsSetSoFar all (item ∷ rest) set → IsSetSoFar all rest new
set_more all rest item set new same h = record {
  there = λ m is. elim ((same m).0 is) [ inl old ↦ h.there m old | inr range ↦ h.later m (number_first item rest m range) ];
  back = λ m has. elim (h.back m has) [
    | inl old ↦ inl ((same m).1 (inl old))
    | inr left ↦ elim (number_cases item rest m left) [ inl range ↦ inl ((same m).1 (inr range)) | inr other ↦ inr other ]
  ];
  later = λ m has. h.later m (number_later item rest m has);
}

-- the ends of one of the items in range
pub each_item : (items : List Item) (k : ℕ) (d : Item) → k < length items → AllByRecursion IsItem items → IsItem (get_or items k d)
each_item [] k d h a = absurd (omega arith)
each_item (item ∷ items) zero d h a = a.0
each_item (item ∷ items) (suc k) d h a = each_item items k d (omega arith) a.1

drop_item : (items : List Item) (k : ℕ) (d : Item) → k < length items → drop k items ≡ get_or items k d ∷ drop (k + 1) items
drop_item items k d h = let e : k + 1 ≡ suc k = omega arith in drop-cons items k d h ∙ ap (λ j. get_or items k d ∷ drop j items) (sym e)

pub still_next : (items : List Item) (k : ℕ) (d : Item) (next low high : ℕ) → k < length items → IsItem (get_or items k d) → low ≡ low_of (get_or items k d) → next ≤ low
    → high ≡ high_of (get_or items k d) → StillAre items (drop k items) next → StillAre items (drop (k + 1) items) (high + 2)
still_next items k d next low high h is e from f still =
    subst (λ n. StillAre items (drop (k + 1) items) (n + 2)) (sym f)
    (still_more items (get_or items k d) (drop (k + 1) items) next is (omega arith) (subst (λ rest. StillAre items rest next) (drop_item items k d h) still))

pub set_next : (items : List Item) (k : ℕ) (d : Item) (set new : Allowed) (low high : ℕ) → k < length items → low ≡ low_of (get_or items k d) → high ≡ high_of (get_or items k d)
    → ((m : ℕ) → IsIn new m ↔ (IsIn set m ⊎ ((low ≤ m) × (m ≤ high)))) → IsSetSoFar items (drop k items) set → IsSetSoFar items (drop (k + 1) items) new
set_next items k d set new low high h e f same so =
    set_more items (drop (k + 1) items) (get_or items k d) set new
    (λ m. subst (λ l. IsIn new m ↔ (IsIn set m ⊎ ((l ≤ m) × (m ≤ high_of (get_or items k d))))) e
    (subst (λ g. IsIn new m ↔ (IsIn set m ⊎ ((low ≤ m) × (m ≤ g)))) f (same m)))
    (subst (λ rest. IsSetSoFar items rest set) (drop_item items k d h) so)
