-- The numberings of a symbol from a chamber to which its involutions may be turned.
use Rattle.std.proofs.Common.{◌≡◌, ◌↔◌, ℕ, suc, ◌+◌, ◌-◌, ◌<◌, ◌≤◌, List, get_or, drop, drop-cons, ⊎_elim, [], ◌∷◌, ◌++◌, length, length-append, refl, sym, ap, ◌∙◌, subst, arith}
use Rattle.std.proofs.lemmas.List.{length-map}
use Rattle.std.proofs.lemmas.Bool.{cases_lt}
use Rattle.std.specs.Ordering.{nat_cmp, ordering_then}
use Rattle.std.specs.Cmp.Lexicographic.{slice_cmp}
use Rattle.std.specs.declared.cmp.Ordering.TheVariants.{Equal}
use Rattle.dd_model.specs.declared.index.Index.TheVariants.{Zero, One, Two}
use Rattle.dd_model.specs.Symbol.{Symbol, IsTable, IsChamber, item, op, operation}
use Rattle.dd_model.specs.Connected.{Connected}
use Rattle.dd_model.specs.Code.{all_images, code, code_cmp}
use Rattle.dd_model.specs.FirstVisit.{Grows, IsFirstVisit, IsNumberedFrom}
use Rattle.dd_model.specs.Isomorphic.{HaveLengths, IsIsomorphism}
use Rattle.dd_model.proofs.Bijections.{after, item-after}
use Rattle.dd_model.proofs.Isomorphisms.{IsIsomorphism-inverse}
use Rattle.dd_model.proofs.LeastForms.{numbered_unique}
use Rattle.dd_model.proofs.Orders.{compared_in_parts, nat_cmp-same}
use Rattle.dd_model.proofs.SameInvolutions.{involutions-same}
use Rattle.dd_model.proofs.Transport.{IsTable-along}
use Rattle.dd_symbol.specs.Images.{with_degrees}
use Rattle.dd_symbol.proofs.TableLemmas.{with_same}
use Rattle.dd_branch_tables.proofs.BareTables.{images_alike}
use Rattle.std.proofs.lemmas.List.{get_or-map, get_or_append_left, get_or_default, get_or_push}
use Rattle.std.specs.List.{Contains}
use Rattle.dd_canon.specs.Ties.{IsLeastFrom}
use Rattle.dd_branch_degrees.specs.Automorphism.{AreAutomorphisms, IsBehind, IsAutomorphism, IsWithin, along_list}
use Rattle.dd_branch_degrees.specs.declared.automorphisms.Automorphism.{Automorphism}

-- the symbol with the degrees of the chambers to which its own are turned
abbrev pub turned : Symbol → List ℕ → Symbol
turned s f = with_degrees s (after s.m01 f) (after s.m12 f)

unfoldable pub turned_isomorphism : (s : Symbol) (d : ℕ) (f : List ℕ) → IsAutomorphism s d f → IsIsomorphism (turned s f) s f
turned_isomorphism s d f automorphism =
    let b = automorphism.bijection in
    record {
      size = refl;
      bijection = b;
      morphism = record {
        images = b.images;
        within = λ k h. b.left.within k h.0 h.1;
        op = λ i k h. elim i as (λ j. item f (op (turned s f) j k) ≡ op s j (item f k)) [ Zero ↦ automorphism.along Zero k h | One ↦ automorphism.along One k h | Two ↦ automorphism.along Two k h ];
        m01 = λ k h. sym (item-after s.m01 f s.size k b.images h.0 h.1);
        m12 = λ k h. sym (item-after s.m12 f s.size k b.images h.0 h.1);
      };
    }

lengths_turned : (s : Symbol) (d : ℕ) (f : List ℕ) → IsTable s → IsAutomorphism s d f → HaveLengths (turned s f)
lengths_turned s d f is automorphism = record {
  lengths = λ i. elim i as (λ j. length (operation (turned s f) j) ≡ s.size) [ Zero ↦ is.lengths Zero | One ↦ is.lengths One | Two ↦ is.lengths Two ];
  m01_length = length-map f (item s.m01) ∙ automorphism.bijection.images;
  m12_length = length-map f (item s.m12) ∙ automorphism.bijection.images;
}

-- what is numbered from chamber 1 is numbered from d as the symbol with turned degrees
pub numbered_turned : (s : Symbol) (d : ℕ) (f : List ℕ) → IsTable s → IsFirstVisit s → IsAutomorphism s d f → IsNumberedFrom s d (turned s f)
unfolding turned_isomorphism
numbered_turned s d f is visit automorphism =
    let b = automorphism.bijection in
    let same = with_same s (after s.m01 f) (after s.m12 f) in
    let back = IsIsomorphism-inverse (turned s f) s f (involutions-same s (turned s f) same is.involutions) (turned_isomorphism s d f automorphism) in
    let pos = is.chambers in
    record {
      table = IsTable-along s (turned s f) b.inverse is back (lengths_turned s d f is automorphism);
      map = b.inverse;
      isomorphism = back;
      start_first = ap (item b.inverse) (sym automorphism.first) ∙ b.left.undone 1 (omega arith) pos;
      first_visit = subst (Grows 1) (sym (images_alike s (turned s f) same)) visit;
    }

-- and as no other
pub only_turned : (s u : Symbol) (d : ℕ) (f : List ℕ) → IsTable s → Connected s → IsChamber s d → IsFirstVisit s → IsAutomorphism s d f → IsNumberedFrom s d u → u ≡ turned s f
only_turned s u d f is con h visit automorphism a = numbered_unique s u (turned s f) d is con h a (numbered_turned s d f is visit automorphism)

list_same : (xs : List ℕ) → slice_cmp nat_cmp xs xs ≡ Equal
list_same [] = refl
list_same (x ∷ xs) = ap (λ o. ordering_then o (slice_cmp nat_cmp xs xs)) (nat_cmp-same x) ∙ list_same xs

-- the degrees alone decide how the two compare, those of the tiles first
pub turned_stands : (s : Symbol) (d : ℕ) (f : List ℕ) → IsTable s → IsAutomorphism s d f
    → code_cmp s (turned s f) ≡ ordering_then (slice_cmp nat_cmp s.m01 (after s.m01 f)) (slice_cmp nat_cmp s.m12 (after s.m12 f))
turned_stands s d f is automorphism =
    let t = turned s f in
    let same = with_same s (after s.m01 f) (after s.m12 f) in
    let images : all_images t ≡ all_images s = images_alike s t same in
    let long : length s.m01 ≡ length (after s.m01 f) = is.m01_length ∙ sym ((lengths_turned s d f is automorphism).m01_length) in
    ap (λ o. ordering_then o (slice_cmp nat_cmp (code s) (code t))) (nat_cmp-same s.size)
    ∙ ap (slice_cmp nat_cmp (code s)) (ap (λ xs. xs ++ t.m01 ++ t.m12) images)
    ∙ compared_in_parts (all_images s ++ s.m01) (all_images s ++ t.m01) s.m12 t.m12 (length-append (all_images s) s.m01 ∙ ap (λ n. length (all_images s) + n) long ∙ sym (length-append (all_images s) t.m01))
    ∙ ap (λ o. ordering_then o (slice_cmp nat_cmp s.m12 t.m12))
    (compared_in_parts (all_images s) (all_images s) s.m01 t.m01 refl ∙ ap (λ o. ordering_then o (slice_cmp nat_cmp s.m01 t.m01)) (list_same (all_images s)))

-- ## One place after another

-- one item more of two lists
drop_step : (xs ys : List ℕ) (k : ℕ) → k < length xs → k < length ys
    → slice_cmp nat_cmp (drop k xs) (drop k ys) ≡ ordering_then (nat_cmp (get_or xs k 0) (get_or ys k 0)) (slice_cmp nat_cmp (drop (k + 1) xs) (drop (k + 1) ys))
drop_step xs ys k low also =
    let next : suc k ≡ k + 1 = omega arith in
    ap (λ zs. slice_cmp nat_cmp zs (drop k ys)) (drop-cons xs k 0 low)
    ∙ ap (slice_cmp nat_cmp (get_or xs k 0 ∷ drop (suc k) xs)) (drop-cons ys k 0 also)
    ∙ ap (λ j. ordering_then (nat_cmp (get_or xs k 0) (get_or ys k 0)) (slice_cmp nat_cmp (drop j xs) (drop j ys))) next

pub there_at : (own f : List ℕ) (k : ℕ) → ((j : ℕ) → 1 ≤ j → j ≤ length own → (1 ≤ item f j) × (item f j ≤ length own)) → k < length own → (1 ≤ get_or f k 0) × (get_or f k 0 ≤ length own)
there_at own f k there low =
    let back : k + 1 - 1 ≡ k = omega arith in
    subst (λ j. (1 ≤ get_or f j 0) × (get_or f j 0 ≤ length own)) back (there (k + 1) (omega arith) (omega (arith, low)))

pub stand_step : (own f : List ℕ) (k : ℕ) → length f ≡ length own → k < length own
    → slice_cmp nat_cmp (drop k own) (drop k (along_list f own)) ≡ ordering_then (nat_cmp (get_or own k 0) (get_or own (get_or f k 0 - 1) 0)) (slice_cmp nat_cmp (drop (k + 1) own) (drop (k + 1) (along_list f own)))
stand_step own f k same low =
    let long : length (along_list f own) ≡ length f = length-map f (item own) in
    drop_step own (along_list f own) k low (omega (arith, low, same, long))
    ∙ ap (λ n. ordering_then (nat_cmp (get_or own k 0) n) (slice_cmp nat_cmp (drop (k + 1) own) (drop (k + 1) (along_list f own)))) (get_or-map (item own) f k 0 0 (omega (arith, low, same)))

-- ## All ties

-- no numbering from a tie is smaller exactly where no degrees are behind their turned ones
pub least_by_automorphisms : (s : Symbol) (ds : List ℕ) (xs : List Automorphism) → IsTable s → Connected s → ((d : ℕ) → Contains ds d → IsChamber s d) → IsFirstVisit s → AreAutomorphisms s ds xs
    → ((j : ℕ) (x : Automorphism) → j < length xs → IsBehind (get_or xs j x).chambers.items s.m01 s.m12 → ⊥) ↔ IsLeastFrom s ds
least_by_automorphisms s ds xs is con chambers visit are = (
  (λ none. record {
    none = λ d u there a great.
        let k = there.0 in
        let count = are.count in
        let low : k < length xs = let inside = there.1 in omega (arith, inside, count) in
        let at : get_or ds k 0 ≡ d = get_or_default ds k 0 d there.1 ∙ there.2 in
        let x = first_item xs k low in
        let automorphism = subst (λ e. IsAutomorphism s e (get_or xs k x).chambers.items) at (are.each k x low) in
        let same = only_turned s u d (get_or xs k x).chambers.items is con (chambers d there) visit automorphism a in
        none k x low (sym (turned_stands s d (get_or xs k x).chambers.items is automorphism) ∙ ap (code_cmp s) (sym same) ∙ great);
  }),
  (λ least j x low behind.
      let count = are.count in
      let inside : j < length ds = omega (arith, low, count) in
      let automorphism = are.each j x low in
      least.none (get_or ds j 0) (turned s (get_or xs j x).chambers.items) (j, inside, get_or_default ds j (get_or ds j 0) 0 inside) (numbered_turned s (get_or ds j 0) (get_or xs j x).chambers.items is visit automorphism)
      (turned_stands s (get_or ds j 0) (get_or xs j x).chambers.items is automorphism ∙ behind)),
)
  where
    first_item : (xs : List Automorphism) (k : ℕ) → k < length xs → Automorphism
    first_item [] k low = absurd (omega (arith, low))
    first_item (x ∷ xs) k low = x

-- one automorphism more
pub automorphisms_more : (s : Symbol) (ds : List ℕ) (k : ℕ) (xs new : List Automorphism) (t : Automorphism) → length xs ≡ k → new ≡ xs ++ t ∷ [] → IsAutomorphism s (get_or ds k 0) t.chambers.items
    → ((j : ℕ) (x : Automorphism) → j < k → IsAutomorphism s (get_or ds j 0) (get_or xs j x).chambers.items) → (j : ℕ) (x : Automorphism) → j < k + 1 → IsAutomorphism s (get_or ds j 0) (get_or new j x).chambers.items
automorphisms_more s ds k xs new t count grown is before j x low =
    ⊎_elim
    (λ early.
    let same : get_or new j x ≡ get_or xs j x = ap (λ ys. get_or ys j x) grown ∙ get_or_append_left xs (t ∷ []) x j (omega (arith, early, count)) in
    subst (λ (y : Automorphism). IsAutomorphism s (get_or ds j 0) y.chambers.items) (sym same) (before j x early))
    (λ late.
    let at : k ≡ j = omega (arith, low, late) in
    let same : get_or new j x ≡ t = ap (λ ys. get_or ys j x) grown ∙ get_or_push xs t x j (count ∙ at) in
    subst (λ (y : Automorphism). IsAutomorphism s (get_or ds j 0) y.chambers.items) (sym same) (subst (λ i. IsAutomorphism s (get_or ds i 0) t.chambers.items) at is))
    (cases_lt j k)

pub within_automorphism : (s : Symbol) (d n : ℕ) (f : List ℕ) → n ≡ s.size → IsAutomorphism s d f → IsWithin n f
within_automorphism s d n f same automorphism = record {
  count = automorphism.bijection.images ∙ sym same;
  each = λ k low high. let w = automorphism.bijection.left.within k low (omega (arith, high, same)) in let a = w.0 in let b = w.1 in (a, omega (arith, b, same));
}

-- the degrees do not matter
pub automorphisms_with : (t : Symbol) (m01 m12 ds : List ℕ) (xs : List Automorphism) → AreAutomorphisms t ds xs → AreAutomorphisms (with_degrees t m01 m12) ds xs
automorphisms_with t m01 m12 ds xs are = record {
  count = are.count;
  each = λ j x low.
      let automorphism = are.each j x low in
      let f = (get_or xs j x).chambers.items in
      record {
        bijection = automorphism.bijection;
        along = λ i k h. elim i as (λ n. item f (op (with_degrees t m01 m12) n k) ≡ op (with_degrees t m01 m12) n (item f k)) [ Zero ↦ automorphism.along Zero k h | One ↦ automorphism.along One k h | Two ↦ automorphism.along Two k h ];
        first = automorphism.first;
      };
}

pub visit_with : (t : Symbol) (m01 m12 : List ℕ) → IsFirstVisit t → IsFirstVisit (with_degrees t m01 m12)
visit_with t m01 m12 visit = subst (Grows 1) (sym (images_alike t (with_degrees t m01 m12) (with_same t m01 m12))) visit
