-- A word asks for numbers in one way.
use Rattle.std.proofs.Common.{◌≡◌, ◌≢◌, ◌⊎◌, ◌↔◌, ◌≤◌, ◌++◌, ◌==◌, ℕ, zero, suc, inl, inr, false, List, [], ◌∷◌, refl, sym, ap, ◌∙◌, subst, arith}
use Rattle.std.specs.List.{AllByRecursion, Contains, onto_first}
use Rattle.std.proofs.lemmas.Bool.Decides.{nat_tests}
use Rattle.dd_model.specs.Allowed.{IsIn}
use Rattle.dd_model.specs.declared.allowed.Allowed.{Allowed}
use Rattle.dd_words.specs.Values.{Text, IsNumber, IsRange, AreBounds, IsItem, AsksForNumbers, IsCovered, IsAdded, items_of, IsSetWord}
use Rattle.dd_words.specs.Parted.{Avoids, IsParted}
use Rattle.dd_words.proofs.Parting.{same_parts, not_avoided, avoids_each}

pub same_number : (w : Text) (m n : ℕ) → IsNumber w m → IsNumber w n → m ≡ n
same_number w m n a b = sym a.value ∙ b.value

no_dash_digit : (d : ℕ) → (48 ≤ d) × (d ≤ 57) → d ≢ 45
no_dash_digit d h e = let low = h.0 in omega arith

pub number_avoids : (w : Text) (n : ℕ) → IsNumber w n → Avoids 45 w
number_avoids w n h = avoids_each 45 w (λ i low. no_dash_digit _ (h.digits i 0 low))

not_both : (w : Text) (n low high : ℕ) → IsNumber w n → IsRange low high w → ⊥
not_both w n low high a b = not_avoided 45 b.from b.to (subst (Avoids 45) b.spelled (number_avoids w n a))

range_parts : (w from to : Text) (low high : ℕ) → Avoids 45 from → w ≡ from ++ 45 ∷ to → IsRange low high w → IsNumber from low × IsNumber to high
range_parts w from to low high avoids e h =
    let both = same_parts 45 h.from h.to from to (number_avoids h.from low h.is_from) avoids (sym h.spelled ∙ e) in
    (subst (λ x. IsNumber x low) both.0 h.is_from, subst (λ x. IsNumber x high) both.1 h.is_to)

pub same_bounds : (w : Text) (l h m k : ℕ) → AreBounds l h w → AreBounds m k w → (l ≡ m) × (h ≡ k)
same_bounds w l h m k (inl a) (inl b) = let e = same_number w l m a.0 b.0 in (e, a.1 ∙ e ∙ sym b.1)
same_bounds w l h m k (inl a) (inr b) = absurd (not_both w l m k a.0 b)
same_bounds w l h m k (inr a) (inl b) = absurd (not_both w m l h b.0 a)
same_bounds w l h m k (inr a) (inr b) =
    let parts = range_parts w b.from b.to l h (number_avoids b.from m b.is_from) b.spelled a in
    (same_number b.from l m parts.0 b.is_from, same_number b.to h k parts.1 b.is_to)

-- where two parts are no numbers, the word has no bounds
pub no_bounds_parted : (w from to : Text) → IsParted 45 w from to → ((low high : ℕ) → IsNumber from low → IsNumber to high → ⊥)
    → (low high : ℕ) → AreBounds low high w → ⊥
no_bounds_parted w from to parted none low high (inl a) = not_avoided 45 from to (subst (Avoids 45) parted.joined (number_avoids w low a.0))
no_bounds_parted w from to parted none low high (inr b) =
    let parts = range_parts w from to low high parted.first parted.joined b in none low high parts.0 parts.1

pub no_bounds_alone : (w : Text) → Avoids 45 w → ((n : ℕ) → IsNumber w n → ⊥) → (low high : ℕ) → AreBounds low high w → ⊥
no_bounds_alone w avoids none low high (inl a) = none low a.0
no_bounds_alone w avoids none low high (inr b) = not_avoided 45 b.from b.to (subst (Avoids 45) b.spelled avoids)

-- the items of a word
not_comma : (b : ℕ) → b ≢ 44 → (b == 44) ≡ false
not_comma b ne = grind (arith, nat_tests)

pub items_alone : (w : Text) → Avoids 44 w → items_of w ≡ w ∷ []
items_alone [] h = refl
items_alone (b ∷ bs) h = rw (not_comma b h.0) (ap (onto_first b) (items_alone bs h.1))

items_after : (from after : Text) → Avoids 44 from → items_of (from ++ 44 ∷ after) ≡ from ∷ items_of after
items_after [] after h = refl
items_after (b ∷ bs) after h = rw (not_comma b h.0) (ap (onto_first b) (items_after bs after h.1))

pub items_parted : (w item after : Text) → IsParted 44 w item after → items_of w ≡ item ∷ items_of after
items_parted w item after p = ap items_of p.joined ∙ items_after item after p.first

-- an item covers the numbers between its bounds
pub covered_by_item : (w : Text) (low high m : ℕ) → IsItem low high w → IsCovered (w ∷ []) m ↔ ((low ≤ m) × (m ≤ high))
covered_by_item w low high m item = (there, back)
  where
    only : (x : Text) → Contains (w ∷ []) x → w ≡ x
    only x (zero, below, e) = e
    only x (suc k, below, e) = absurd (omega (arith, below))

    there : IsCovered (w ∷ []) m → (low ≤ m) × (m ≤ high)
    there c =
        let same = same_bounds c.word c.low c.high low high c.item.bounds (subst (AreBounds low high) (only c.word c.contains) item.bounds) in
        (subst (λ k. k ≤ m) same.0 c.from, subst (λ k. m ≤ k) same.1 c.to)

    back : (low ≤ m) × (m ≤ high) → IsCovered (w ∷ []) m
    back r = record { word = w; low = low; high = high; contains = (0, omega arith, refl); item = item; from = r.0; to = r.1 }

-- numbers are covered by the first item or by the others
pub covered_front : (w : Text) (ws : List Text) (m : ℕ) → IsCovered (w ∷ ws) m ↔ (IsCovered (w ∷ []) m ⊎ IsCovered ws m)
covered_front w ws m = (there, back)
  where
    split : (x : Text) (low high : ℕ) → Contains (w ∷ ws) x → IsItem low high x → low ≤ m → m ≤ high → IsCovered (w ∷ []) m ⊎ IsCovered ws m
    split x low high (zero, below, e) item from to =
        inl (record { word = x; low = low; high = high; contains = (0, omega arith, e); item = item; from = from; to = to })
    split x low high (suc k, below, e) item from to =
        inr (record { word = x; low = low; high = high; contains = (k, omega (arith, below), e); item = item; from = from; to = to })

    there : IsCovered (w ∷ ws) m → IsCovered (w ∷ []) m ⊎ IsCovered ws m
    there c = split c.word c.low c.high c.contains c.item c.from c.to

    first : (x : Text) → Contains (w ∷ []) x → Contains (w ∷ ws) x
    first x (zero, below, e) = (0, omega arith, e)
    first x (suc k, below, e) = absurd (omega (arith, below))

    later : (x : Text) → Contains ws x → Contains (w ∷ ws) x
    later x (k, below, e) = (suc k, omega (arith, below), e)

    back : IsCovered (w ∷ []) m ⊎ IsCovered ws m → IsCovered (w ∷ ws) m
    back (inl c) = record { word = c.word; low = c.low; high = c.high; contains = first c.word c.contains; item = c.item; from = c.from; to = c.to }
    back (inr c) = record { word = c.word; low = c.low; high = c.high; contains = later c.word c.contains; item = c.item; from = c.from; to = c.to }

-- the set has the numbers of the items that were read, and the others are those of the rest
pub record IsSoFar (w rest : Text) (a : Allowed) : Type 0 where
  pub all : AllByRecursion AsksForNumbers (items_of rest) → AllByRecursion AsksForNumbers (items_of w)
  pub none : AllByRecursion AsksForNumbers (items_of w) → AllByRecursion AsksForNumbers (items_of rest)
  pub covered : (m : ℕ) → IsCovered (items_of w) m → IsIn a m ⊎ IsCovered (items_of rest) m
  pub read : (m : ℕ) → IsIn a m → IsCovered (items_of w) m
  pub later : (m : ℕ) → IsCovered (items_of rest) m → IsCovered (items_of w) m

step_covered : (item : Text) (more : List Text) (a b : Allowed) (m : ℕ) → IsAdded item a b → IsIn a m ⊎ IsCovered (item ∷ more) m → IsIn b m ⊎ IsCovered more m
step_covered item more a b m added (inl h) = inl ((added.members m).1 (inl h))
step_covered item more a b m added (inr c) = elim ((covered_front item more m).0 c) [ inl d ↦ inl ((added.members m).1 (inr d)) | inr d ↦ inr d ]

step_read : (w item : Text) (more : List Text) (a b : Allowed) (m : ℕ) → IsAdded item a b → ((k : ℕ) → IsIn a k → IsCovered (items_of w) k)
    → ((k : ℕ) → IsCovered (item ∷ more) k → IsCovered (items_of w) k) → IsIn b m → IsCovered (items_of w) m
step_read w item more a b m added read later h =
    elim ((added.members m).0 h) [ inl d ↦ read m d | inr d ↦ later m ((covered_front item more m).1 (inl d)) ]

pub so_far_more : (w rest item after : Text) (a b : Allowed) → IsParted 44 rest item after → IsAdded item a b → IsSoFar w rest a → IsSoFar w after b
so_far_more w rest item after a b parted added h =
    let e = items_parted rest item after parted in
    let later : (m : ℕ) → IsCovered (item ∷ items_of after) m → IsCovered (items_of w) m = λ m c. h.later m (subst (λ xs. IsCovered xs m) (sym e) c) in
    record {
      all = λ all. h.all (subst (AllByRecursion AsksForNumbers) (sym e) (added.item, all));
      none = λ all. (subst (AllByRecursion AsksForNumbers) e (h.none all)).1;
      covered = λ m c. step_covered item (items_of after) a b m added (elim (h.covered m c) [ inl d ↦ inl d | inr d ↦ inr (subst (λ xs. IsCovered xs m) e d) ]);
      read = λ m. step_read w item (items_of after) a b m added h.read later;
      later = λ m c. later m ((covered_front item (items_of after) m).1 (inr c));
    }

pub so_far_all : (w rest : Text) (a b : Allowed) → Avoids 44 rest → IsAdded rest a b → IsSoFar w rest a → IsSetWord w b
so_far_all w rest a b avoids added h =
    let e = items_alone rest avoids in
    let later : (m : ℕ) → IsCovered (rest ∷ []) m → IsCovered (items_of w) m = λ m c. h.later m (subst (λ xs. IsCovered xs m) (sym e) c) in
    record {
      items = h.all (subst (AllByRecursion AsksForNumbers) (sym e) (added.item, tt));
      members = λ m. (
        step_read w rest [] a b m added h.read later,
        λ c. last m (step_covered rest [] a b m added (elim (h.covered m c) [ inl d ↦ inl d | inr d ↦ inr (subst (λ xs. IsCovered xs m) e d) ])),
      );
    }
  where
    nothing : (m : ℕ) (x : Text) → Contains [] x → ⊥
    nothing m x (k, below, e) = omega (arith, below)

    last : (m : ℕ) → IsIn b m ⊎ IsCovered [] m → IsIn b m
    last m (inl d) = d
    last m (inr c) = absurd (nothing m c.word c.contains)

pub no_set_parted : (w rest item after : Text) (a : Allowed) → IsParted 44 rest item after → (AsksForNumbers item → ⊥) → IsSoFar w rest a → (b : Allowed) → IsSetWord w b → ⊥
no_set_parted w rest item after a parted none h b is =
    none (subst (AllByRecursion AsksForNumbers) (items_parted rest item after parted) (h.none is.items)).0

pub no_set_alone : (w rest : Text) (a : Allowed) → Avoids 44 rest → (AsksForNumbers rest → ⊥) → IsSoFar w rest a → (b : Allowed) → IsSetWord w b → ⊥
no_set_alone w rest a avoids none h b is = none (subst (AllByRecursion AsksForNumbers) (items_alone rest avoids) (h.none is.items)).0

pub item_added : (w : Text) (low high : ℕ) (a b : Allowed) → IsItem low high w → ((m : ℕ) → IsIn b m ↔ (IsIn a m ⊎ ((low ≤ m) × (m ≤ high)))) → IsAdded w a b
item_added w low high a b item same = record {
  item = record { low = low; high = high; item = item };
  members = λ m. (
    λ h. elim ((same m).0 h) [ inl d ↦ inl d | inr r ↦ inr ((covered_by_item w low high m item).1 r) ],
    λ h. (same m).1 (elim h [ inl d ↦ inl d | inr d ↦ inr ((covered_by_item w low high m item).0 d) ]),
  );
}

pub not_asked : (w : Text) (low high : ℕ) → AreBounds low high w → ((1 ≤ low) → (low ≤ high) → (high ≤ 216) → ⊥) → AsksForNumbers w → ⊥
not_asked w low high bounds none h =
    let same = same_bounds w h.low h.high low high h.item.bounds bounds in
    let low_is = same.0 in
    let high_is = same.1 in
    let positive = h.item.positive in
    let ordered = h.item.ordered in
    let small = h.item.small in
    none (omega arith) (omega arith) (omega arith)
