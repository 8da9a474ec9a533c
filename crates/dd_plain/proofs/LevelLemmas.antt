-- What each loop of the filter has tried.
use Rattle.std.proofs.Common.{◌≡◌, ℕ, zero, suc, ◌+◌, ◌*◌, ◌/◌, ◌%◌, ◌^◌, ◌<◌, ◌≤◌, List, [], length, refl, sym, ap, ◌∙◌, subst, inl, inr, ⊎_elim, arith}
use Rattle.std.proofs.lemmas.Bool.{cases_lt}
use Rattle.std.specs.List.{Contains}
use Rattle.dd_model.specs.declared.requests.Request.{Request}
use Rattle.dd_model.specs.declared.pair.Pair.TheVariants.{Tile, Vertex, Edge}
use Rattle.dd_model.specs.declared.index.Index.{Index}
use Rattle.dd_model.specs.declared.index.Index.TheVariants.{Zero, One, Two}
use Rattle.dd_model.specs.Symbol.{Symbol, IsTable, item, op, operation}
use Rattle.dd_model.specs.Wanted.{Wanted, IsAscending, IsCatalogue}
use Rattle.dd_symbol.specs.Building.{IsAccepted}
use Rattle.dd_plain.specs.Choices.{choices, chamber_table, degree_table}
use Rattle.dd_plain.specs.Trials.{HasImages, HasTiles}
use Rattle.dd_plain.specs.Adds.{Adds}
use Rattle.dd_plain.proofs.ChoiceLemmas.{IsNumbered, numbered, all_items, is_one_of_three, length-choices, rem_step, div_step, below_step}
use Rattle.dd_plain.proofs.DegreeLemmas.{degree_in_table}
use Rattle.dd_plain.proofs.SameImages.{images-sym}
use Rattle.dd_plain.proofs.AcceptedLemmas.{KeepsOrSix, accepted-with_sixes, wanted-accepted}
use Rattle.dd_plain.proofs.AddsLemmas.{nothing_added, both_added, added_otherwise}
use Rattle.dd_model.proofs.Lists.{Contains-none}

-- the list of sixes, for at most three chambers
six_items : (n d : ℕ) → n ≤ 3 → 1 ≤ d → d ≤ n → item (choices degree_table n 364) d ≡ 6
six_items n zero few low high = absurd (omega arith)
six_items zero (suc d) few low high = absurd (omega arith)
six_items (suc zero) (suc zero) few low high = refl
six_items (suc zero) (suc (suc d)) few low high = absurd (omega arith)
six_items (suc (suc zero)) (suc zero) few low high = refl
six_items (suc (suc zero)) (suc (suc zero)) few low high = refl
six_items (suc (suc zero)) (suc (suc (suc d))) few low high = absurd (omega arith)
six_items (suc (suc (suc zero))) (suc zero) few low high = refl
six_items (suc (suc (suc zero))) (suc (suc zero)) few low high = refl
six_items (suc (suc (suc zero))) (suc (suc (suc zero))) few low high = refl
six_items (suc (suc (suc zero))) (suc (suc (suc (suc d)))) few low high = absurd (omega arith)
six_items (suc (suc (suc (suc n)))) (suc d) few low high = absurd (omega arith)

pub nine_powers : (n : ℕ) → n ≤ 3 → 9 ^ n ≤ 729
nine_powers zero h = omega arith
nine_powers (suc zero) h = omega arith
nine_powers (suc (suc zero)) h = omega arith
nine_powers (suc (suc (suc zero))) h = omega arith
nine_powers (suc (suc (suc (suc n)))) h = absurd (omega arith)

-- a symbol with the degrees of vertices that have the number
abbrev pub with_m12 : Symbol → ℕ → Symbol
with_m12 t k = record t { m12 = choices degree_table t.size k }

abbrev pub with_m01 : Symbol → ℕ → Symbol
with_m01 t k = record t { m01 = choices degree_table t.size k }

-- the tiles of t, and a list of degrees of vertices that has been tried
pub record HasVerticesBelow (t : Symbol) (k : ℕ) (s : Symbol) : Type 0 where
  pub tiles : HasTiles t s
  pub number : ℕ
  pub below : number < k
  pub m12 : s.m12 ≡ choices degree_table t.size number

-- the involutions of t, and a list of degrees of tiles that has been tried
pub record HasTilesBelow (t : Symbol) (k : ℕ) (s : Symbol) : Type 0 where
  pub images : HasImages t s
  pub number : ℕ
  pub below : number < k
  pub m01 : s.m01 ≡ choices degree_table t.size number

same_symbol : (t s : Symbol) → HasTiles t s → s.m12 ≡ t.m12 → s ≡ t
same_symbol t s h e = λ i. record {
  size = h.images.size i;
  s0 = h.images.s0 i;
  s1 = h.images.s1 i;
  s2 = h.images.s2 i;
  m01 = h.m01 i;
  m12 = e i;
}

pub no_vertices : (q : Request) (t : Symbol) (old : List Symbol) → Adds q (HasVerticesBelow t 0) old old
no_vertices q t old = nothing_added q (HasVerticesBelow t 0) old (λ s h _. omega (arith, h.below))

pub vertices-more : (q : Request) (t : Symbol) (k : ℕ) (a b c : List Symbol) → Adds q (HasVerticesBelow t k) a b → Adds q (λ s. s ≡ with_m12 t k) b c
    → Adds q (HasVerticesBelow t (k + 1)) a c
vertices-more q t k a b c g h =
    both_added q (HasVerticesBelow t k) (λ s. s ≡ with_m12 t k) (HasVerticesBelow t (k + 1)) a b c (λ s tried.
    ⊎_elim
    (λ early. inl (record { tiles = tried.tiles; number = tried.number; below = early; m12 = tried.m12 }))
    (λ late. let last : tried.number ≡ k = omega (arith, tried.below) in
    inr (same_symbol (with_m12 t k) s
    (record { images = record { size = tried.tiles.images.size; s0 = tried.tiles.images.s0; s1 = tried.tiles.images.s1; s2 = tried.tiles.images.s2 }; m01 = tried.tiles.m01 })
    (tried.m12 ∙ ap (choices degree_table t.size) last)))
    (cases_lt tried.number k)) g h

-- a wanted symbol's degrees are one of the lists
numbered_degrees : (q : Request) (s : Symbol) → Wanted q s → s.size ≤ 3 → IsNumbered degree_table s.m01 × IsNumbered degree_table s.m12
numbered_degrees q s w few =
    let table = w.symbol.table in (
      numbered degree_table s.m01 (all_items (Contains degree_table) s.m01 (λ d low high.
          degree_in_table s w.symbol few Tile w.face_branching d (low, omega (arith, table.m01_length)))),
      numbered degree_table s.m12 (all_items (Contains degree_table) s.m12 (λ d low high.
          degree_in_table s w.symbol few Vertex w.vertex_branching d (low, omega (arith, table.m12_length)))),
    )

-- all lists of degrees of vertices
pub all_vertices : (q : Request) (t : Symbol) (k n : ℕ) (a c : List Symbol) → t.size ≤ 3 → n ≡ 9 ^ t.size → n ≤ k → Adds q (HasVerticesBelow t k) a c → Adds q (HasTiles t) a c
all_vertices q t k n a c few count done =
    added_otherwise q (HasVerticesBelow t k) (HasTiles t) a c (λ s tiles member.
    let w = member.wanted in
    let size = tiles.images.size in
    let list = (numbered_degrees q s w (omega arith)).1 in
    let whole : length s.m12 ≡ t.size = w.symbol.table.m12_length ∙ size in
    record {
      tiles = tiles;
      number = list.number;
      below = let small = subst (λ j. list.number < 9 ^ j) whole list.below in omega arith;
      m12 = sym list.items ∙ ap (λ j. choices degree_table j list.number) whole;
    })

-- without a symbol whose vertices have degree 6 there is none with these tiles
pub no_tiles : (q : Request) (t : Symbol) (old : List Symbol) → t.size ≤ 3 → (IsAccepted 3 (with_m12 t 364) → ⊥) → Adds q (HasTiles t) old old
no_tiles q t old few refused = nothing_added q (HasTiles t) old (λ s tiles member.
    let w = member.wanted in
    let size = tiles.images.size in
    let same = images-sym t s tiles.images in
    refused (accepted-with_sixes s (with_m12 t 364) (wanted-accepted q s w (omega arith))
    (record { size = same.size; s0 = same.s0; s1 = same.s1; s2 = same.s2 })
    (ap length (sym tiles.m01) ∙ w.symbol.table.m01_length ∙ size)
    (length-choices degree_table t.size 364)
    (λ p. elim p as (λ r. KeepsOrSix s (with_m12 t 364) r) [
      | Tile ↦ inl (λ d h. ap (λ xs. item xs d) (sym tiles.m01))
      | Vertex ↦ inr (λ d h. six_items t.size d few h.0 (omega (arith, h.1)))
      | Edge ↦ inl (λ d h. refl)
    ])))

pub no_tiles_yet : (q : Request) (t : Symbol) (old : List Symbol) → Adds q (HasTilesBelow t 0) old old
no_tiles_yet q t old = nothing_added q (HasTilesBelow t 0) old (λ s h _. omega (arith, h.below))

pub tiles-more : (q : Request) (t : Symbol) (k : ℕ) (a b c : List Symbol) → Adds q (HasTilesBelow t k) a b → Adds q (HasTiles (with_m01 t k)) b c
    → Adds q (HasTilesBelow t (k + 1)) a c
tiles-more q t k a b c g h =
    both_added q (HasTilesBelow t k) (HasTiles (with_m01 t k)) (HasTilesBelow t (k + 1)) a b c (λ s tried.
    ⊎_elim
    (λ early. inl (record { images = tried.images; number = tried.number; below = early; m01 = tried.m01 }))
    (λ late. let last : tried.number ≡ k = omega (arith, tried.below) in
    inr (record {
      images = record { size = tried.images.size; s0 = tried.images.s0; s1 = tried.images.s1; s2 = tried.images.s2 };
      m01 = tried.m01 ∙ ap (choices degree_table t.size) last;
    }))
    (cases_lt tried.number k)) g h

-- all lists of degrees of tiles
pub all_tiles : (q : Request) (t : Symbol) (k n : ℕ) (a c : List Symbol) → t.size ≤ 3 → n ≡ 9 ^ t.size → n ≤ k → Adds q (HasTilesBelow t k) a c → Adds q (HasImages t) a c
all_tiles q t k n a c few count done =
    added_otherwise q (HasTilesBelow t k) (HasImages t) a c (λ s images member.
    let w = member.wanted in
    let size = images.size in
    let list = (numbered_degrees q s w (omega arith)).0 in
    let whole : length s.m01 ≡ t.size = w.symbol.table.m01_length ∙ size in
    record {
      images = images;
      number = list.number;
      below = let small = subst (λ j. list.number < 9 ^ j) whole list.below in omega arith;
      m01 = sym list.items ∙ ap (λ j. choices degree_table j list.number) whole;
    })

-- without a symbol of these involutions all of whose degrees are 6 there is none with these involutions
pub no_images : (q : Request) (t : Symbol) (old : List Symbol) → t.size ≤ 3 → (IsAccepted 3 (with_m12 (with_m01 t 364) 364) → ⊥) → Adds q (HasImages t) old old
no_images q t old few refused = nothing_added q (HasImages t) old (λ s images member.
    let w = member.wanted in
    let size = images.size in
    let same = images-sym t s images in
    refused (accepted-with_sixes s (with_m12 (with_m01 t 364) 364) (wanted-accepted q s w (omega arith))
    (record { size = same.size; s0 = same.s0; s1 = same.s1; s2 = same.s2 })
    (length-choices degree_table t.size 364)
    (length-choices degree_table t.size 364)
    (λ p. elim p as (λ r. KeepsOrSix s (with_m12 (with_m01 t 364) 364) r) [
      | Tile ↦ inr (λ d h. six_items t.size d few h.0 (omega (arith, h.1)))
      | Vertex ↦ inr (λ d h. six_items t.size d few h.0 (omega (arith, h.1)))
      | Edge ↦ inl (λ d h. refl)
    ])))

-- the involutions that have the number, in the base of the number of lists
abbrev pub with_images : ℕ → ℕ → ℕ → Symbol
with_images n lists k = record {
  size = n;
  s0 = choices chamber_table n (k % lists);
  s1 = choices chamber_table n (k / lists % lists);
  s2 = choices chamber_table n (k / lists / lists);
  m01 = choices degree_table n 364;
  m12 = choices degree_table n 364;
}

-- so many chambers, and three lists that have been tried
pub record HasImagesBelow (n lists k : ℕ) (s : Symbol) : Type 0 where
  pub number : ℕ
  pub below : number < k
  pub images : HasImages (with_images n lists number) s

pub images-more : (q : Request) (n lists k : ℕ) (a b c : List Symbol) → Adds q (HasImagesBelow n lists k) a b → Adds q (HasImages (with_images n lists k)) b c
    → Adds q (HasImagesBelow n lists (k + 1)) a c
images-more q n lists k a b c g h =
    both_added q (HasImagesBelow n lists k) (HasImages (with_images n lists k)) (HasImagesBelow n lists (k + 1)) a b c (λ s tried.
    ⊎_elim
    (λ early. inl (record { number = tried.number; below = early; images = tried.images }))
    (λ late. let last : tried.number ≡ k = omega (arith, tried.below) in
    inr (subst (λ j. HasImages (with_images n lists j) s) last tried.images))
    (cases_lt tried.number k)) g h

-- three numbers in one
record IsCombined (lists a b c : ℕ) : Type 0 where
  number : ℕ
  below : number < lists * lists * lists
  first : number % lists ≡ a
  second : number / lists % lists ≡ b
  third : number / lists / lists ≡ c

combined : (lists a b c : ℕ) → a < lists → b < lists → c < lists → IsCombined lists a b c
combined lists a b c ha hb hc =
    let rest = b + lists * c in
    let back : (a + lists * rest) / lists ≡ rest = div_step a lists rest ha in
    let cube : lists * (lists * lists) ≡ lists * lists * lists = grind arith in
    record {
      number = a + lists * rest;
      below = subst (λ n. a + lists * rest < n) cube (below_step a lists rest (lists * lists) ha (below_step b lists c lists hb hc));
      first = rem_step a lists rest ha;
      second = ap (λ j. j % lists) back ∙ rem_step b lists c hb;
      third = ap (λ j. j / lists) back ∙ div_step b lists c hb;
    }

-- the images of an involution of at most three chambers are one of the lists
numbered_images : (s : Symbol) → IsTable s → s.size ≤ 3 → (i : Index) → IsNumbered chamber_table (operation s i)
numbered_images s is few i = numbered chamber_table (operation s i) (all_items (Contains chamber_table) (operation s i) (λ d low high.
    let size = is.lengths i in
    let within = (is.involutions i).within d (low, omega arith) in
    is_one_of_three (op s i d) within.0 (omega (arith, within.1))))

-- all triples of lists
pub all_images : (q : Request) (n lists k : ℕ) (a c : List Symbol) → n ≤ 3 → lists ≡ 3 ^ n → lists * lists * lists ≤ k
    → Adds q (HasImagesBelow n lists k) a c → Adds q (λ s. s.size ≡ n) a c
all_images q n lists k a c few count done =
    added_otherwise q (HasImagesBelow n lists k) (λ s. s.size ≡ n) a c (λ s size member.
    let table = member.wanted.symbol.table in
    let number = numbered_images s table (omega arith) in
    let small : (i : Index) → (number i).number < lists = λ i.
    subst (λ m. (number i).number < m) (ap (λ j. 3 ^ j) (table.lengths i ∙ size) ∙ sym count) (number i).below in
    let items : (i : Index) (j : ℕ) → j ≡ (number i).number → operation s i ≡ choices chamber_table n j = λ i j e.
    sym (number i).items ∙ ap (λ l. choices chamber_table l (number i).number) (table.lengths i ∙ size) ∙ ap (choices chamber_table n) (sym e) in
    let one = combined lists (number Zero).number (number One).number (number Two).number (small Zero) (small One) (small Two) in
    record {
      number = one.number;
      below = omega (arith, one.below);
      images = record { size = size; s0 = items Zero (one.number % lists) one.first; s1 = items One (one.number / lists % lists) one.second; s2 = items Two (one.number / lists / lists) one.third };
    })

-- what all sizes add to the empty list is the catalogue
pub all_sizes : (q : Request) (k : ℕ) (list : List Symbol) → q.chambers ≤ k → IsAscending list → Adds q (λ s. s.size ≤ k) [] list → IsCatalogue q list
all_sizes q k list done ascending h = record {
  ascending = ascending;
  members = λ s. (
    (λ there. ⊎_elim (λ none. absurd (Contains-none s none)) (λ member. member) (h.sound s there)),
    (λ member. let most = member.wanted.chambers in h.complete s (omega arith) member),
  );
}

-- three factors of at most 27
pub cube_small : (l : ℕ) → l ≤ 27 → (l * l ≤ 729) × (l * l * l ≤ 19683)
cube_small l few =
    let square : l * l ≤ 729 = grind arith in
    (square, grind arith)
