-- The cells are joined, one after the other.
use Rattle.std.proofs.Common.{◌≡◌, ℕ, ◌+◌, ◌*◌, ◌<◌, ◌⊎◌, Bool, true, false, not, cond, List, [], ◌∷◌, ◌++◌, length, map, get_or, set, replicate, refl, sym, ap, ◌∙◌, subst, inl, inr, ⊎_elim, arith}
use Rattle.std.proofs.Math.Bool.{beq}
use Rattle.std.proofs.lemmas.Bool.{cases_lt, cases_eq}
use Rattle.std.proofs.lemmas.List.{append_assoc, append-nil, get_or-set_same, get_or-set_other, get_or-replicate, get_or_default, length-set, length-replicate}
use Rattle.std.proofs.lemmas.List.Elements.{Contains-push, Contains-push_cases, Contains-append_left}
use Rattle.std.specs.List.{Contains}
use Rattle.dd_model.specs.declared.index.Index.{Index}
use Rattle.dd_model.specs.declared.pair.Pair.{Pair}
use Rattle.dd_model.specs.declared.pair.Pair.TheVariants.{Tile, Vertex, Edge}
use Rattle.dd_model.specs.Symbol.{Symbol, AreInvolutions, IsChamber, IsTable}
use Rattle.dd_model.specs.Connected.{Connected}
use Rattle.dd_model.proofs.CellSearch.{least_of_cell_unique}
use Rattle.dd_model.proofs.CellWalks.{in_cell-sym, in_cell-trans}
use Rattle.dd_model.proofs.Lists.{Contains-none, Contains-map}
use Rattle.dd_cells.proofs.CellSums.{AreRoots, has_roots}
use Rattle.dd_covers.specs.CellNumbers.{numbered, IsCellNumber}
use Rattle.dd_covers.specs.Ends.{one_end, other_end, IsOfCells, IsLevel}
use Rattle.dd_covers.specs.Joins.{either, new_end, old_end, IsJoinedBy, IsJoin, AreJoins, AreWholeJoins, flag, IsEven, IsNext, AreGrown}
use Rattle.dd_covers.specs.SideLists.{IsFreeSide, AreAscending, AreFreeSides}
use Rattle.dd_covers.specs.Visits.{rank, IsVisitOrder, AreEndsJoined}
use Rattle.dd_covers.specs.declared.join.Join.{Join}
use Rattle.dd_covers.specs.declared.side.Side.{Side}
use Rattle.dd_covers.proofs.FreeSides.{rank_from_before}
use Rattle.dd_covers.proofs.Levels.{one_value}
use Rattle.dd_covers.proofs.Mapped.{Contains-from_map}
use Rattle.dd_covers.proofs.Nodes.{root_beside}
use Rattle.dd_covers.proofs.Spanning.{level_everywhere}
use Rattle.dd_model.proofs.AllIndices.{index_low}

-- ## Numbers of cells

pub number_is : (s : Symbol) (inv : AreInvolutions s) (p : Pair) (root : ℕ → ℕ) → AreRoots s p root → (d n : ℕ) → IsChamber s d → IsCellNumber s p d n → n ≡ numbered s p (root d)
number_is s inv p root roots d n h c =
    let near = in_cell-trans s p c.least d (root d) (in_cell-sym s inv p d c.least h c.is_least.in_cell) (roots.in_cell d h) in
    c.number ∙ ap (numbered s p) (least_of_cell_unique s inv p c.least (root d) c.is_least.is_least (roots.least d h) near)

numbered_low : (s : Symbol) (p : Pair) (l : ℕ) → IsChamber s l → numbered s p l < 3 * (s.size + 1)
numbered_low s Tile l h = omega (arith, h.1)
numbered_low s Vertex l h = omega (arith, h.1)
numbered_low s Edge l h = omega (arith, h.1)

pub number_low : (s : Symbol) (p : Pair) (d n : ℕ) → IsCellNumber s p d n → n < 3 * (s.size + 1)
number_low s p d n c = let l = numbered_low s p c.least c.is_least.is_least.0 in let e = c.number in omega arith

first_number : (s : Symbol) (inv : AreInvolutions s) (root : ℕ → ℕ) → AreRoots s Tile root → IsChamber s 1 → numbered s Tile (root 1) ≡ 1
first_number s inv root roots h =
    let l = roots.least 1 h in
    let low = l.1 1 (in_cell-sym s inv Tile 1 (root 1) h (roots.in_cell 1 h)) in
    omega (arith, l.0.0)

-- ## Lists of joins

pub push_join : (s : Symbol) (f : List ℕ) (before js : List Join) (j : Join) → AreJoins s f before js → IsJoin s f (before ++ js) j → AreJoins s f before (js ++ j ∷ [])
push_join s f before [] j are is = (subst (λ xs. IsJoin s f xs j) (append-nil before) is, tt)
push_join s f before (k ∷ js) j are is =
    (are.0, push_join s f (before ++ k ∷ []) js j are.1 (subst (λ xs. IsJoin s f xs j) (sym (append_assoc before (k ∷ []) js)) is))

pub joined_later : (js ks : List Join) (n : ℕ) → IsJoinedBy js n → IsJoinedBy (js ++ ks) n
joined_later js ks n (inl first) = inl first
joined_later js ks n (inr here) =
    let from = Contains-from_map new_end js n here in
    inr (subst (Contains (map new_end (js ++ ks))) from.2 (Contains-map new_end (js ++ ks) from.0 (Contains-append_left js ks from.0 from.1)))

pub joined_last : (js : List Join) (j : Join) (n : ℕ) → n ≡ new_end j → IsJoinedBy (js ++ j ∷ []) n
joined_last js j n e = inr (subst (Contains (map new_end (js ++ j ∷ []))) (sym e) (Contains-map new_end (js ++ j ∷ []) j (Contains-push js j)))

pub joined_cases : (js : List Join) (j : Join) (n : ℕ) → IsJoinedBy (js ++ j ∷ []) n → IsJoinedBy js n ⊎ (n ≡ new_end j)
joined_cases js j n (inl first) = inl (inl first)
joined_cases js j n (inr here) =
    let from = Contains-from_map new_end (js ++ j ∷ []) n here in
    ⊎_elim
    (λ early. inl (inr (subst (Contains (map new_end js)) from.2 (Contains-map new_end js from.0 early))))
    (λ last. inr (sym from.2 ∙ ap new_end (sym last)))
    (Contains-push_cases js j from.0 from.1)

-- ## Even sides

same_flags : (a b : Bool) → ◌≡◌ {A = ℕ} (cond a 1 0) (cond b 1 0) → a ≡ b
same_flags true true e = refl
same_flags true false e = absurd (omega arith)
same_flags false true e = absurd (omega arith)
same_flags false false e = refl

uneven : (reached : List Bool) (out : Bool) (a b : ℕ) → flag reached (either out a b) ≡ false → flag reached (either out b a) ≡ true → flag reached a ≡ flag reached b → ⊥
uneven reached true a b new old same = cc
uneven reached false a b new old same = cc

either_low : (out : Bool) (a b n : ℕ) → a < n → b < n → either out a b < n
either_low true a b n ha hb = ha
either_low false a b n ha hb = hb

module _ (s : Symbol) (table : IsTable s) (all : Connected s) (f : List ℕ) (visits : IsVisitOrder s f) (sides : List Side) (free : AreFreeSides s f sides) (reached : List Bool) where
  abbrev inv : AreInvolutions s
  inv = table.involutions

  abbrev root : Pair → ℕ → ℕ
  root p = (has_roots s inv p).root

  abbrev roots : (p : Pair) → AreRoots s p (root p)
  roots p = (has_roots s inv p).are

  -- whether a cell is reached, as a number
  abbrev mark : Pair → ℕ → ℕ
  mark p d = cond (flag reached (numbered s p (root p d))) 1 0

  mark_of_cells : IsOfCells s mark
  mark_of_cells p i d h holds = ap (λ z. cond (flag reached (numbered s p z)) 1 0) (root_beside s inv p (root p) (roots p) i d h holds)

  from_is : (x : Side) → IsFreeSide s f x → x.from ≡ numbered s (one_end x.index) (root (one_end x.index) x.chamber)
  from_is x is = number_is s inv (one_end x.index) (root (one_end x.index)) (roots (one_end x.index)) x.chamber x.from is.free.chamber is.from

  to_is : (x : Side) → IsFreeSide s f x → x.to ≡ numbered s (other_end x.index) (root (other_end x.index) x.chamber)
  to_is x is = number_is s inv (other_end x.index) (root (other_end x.index)) (roots (other_end x.index)) x.chamber x.to is.free.chamber is.to

  level_of_even : (x : Side) → IsFreeSide s f x → IsEven reached x → IsLevel mark x.index x.chamber
  level_of_even x is even = ap (λ b. cond b 1 0) (ap (flag reached) (sym (from_is x is)) ∙ even ∙ ap (flag reached) (to_is x is))

  even_of_level : (x : Side) → IsFreeSide s f x → IsLevel mark x.index x.chamber → IsEven reached x
  even_of_level x is level =
      ap (flag reached) (from_is x is)
      ∙ same_flags (flag reached (numbered s (one_end x.index) (root (one_end x.index) x.chamber))) (flag reached (numbered s (other_end x.index) (root (other_end x.index) x.chamber))) level
      ∙ ap (flag reached) (sym (to_is x is))

  rank_low : (i : Index) (d : ℕ) → IsChamber s d → rank i d < 3 * (s.size + 1)
  rank_low i d h = let p = index_low i in omega (arith, h.1)

  next_parted : (j : Join) → IsNext sides reached j → AreEndsJoined s f j.side.index j.side.chamber → ⊥
  next_parted j next joined =
      let is = (free.each j.side next.listed).0 in
      let level = joined mark mark_of_cells (λ i e own before.
      let y = free.all i e own (rank_low i e own.chamber) in
      let less = rank_from_before j.side.index i j.side.chamber e before in
      let same : rank y.side.index y.side.chamber ≡ rank i e = ap (λ z. rank z y.side.chamber) y.index ∙ ap (rank i) y.chamber in
      let even = next.earlier y.side y.listed (omega arith) in
      subst (λ z. IsLevel mark i z) y.chamber (subst (λ z. IsLevel mark z y.side.chamber) y.index (level_of_even y.side (free.each y.side y.listed).0 even))) in
      uneven reached j.out j.side.from j.side.to next.new next.old (even_of_level j.side is level)

  pub ends_low : (x : Side) → Contains sides x → (x.from < 3 * (s.size + 1)) × (x.to < 3 * (s.size + 1))
  ends_low x here =
      let is = (free.each x here).0 in
      (number_low s (one_end x.index) x.chamber x.from is.from, number_low s (other_end x.index) x.chamber x.to is.to)

  module _ (js : List Join) (grown : AreGrown s f reached js) where
    pub ends_within : (x : Side) → Contains sides x → (x.from < length reached) × (x.to < length reached)
    ends_within x here = let l = ends_low x here in let e = grown.flags in (omega (arith, l.0), omega (arith, l.1))

    pub new_within : (j : Join) → IsNext sides reached j → new_end j < length reached
    new_within j next =
        let low = ends_low j.side next.listed in
        let inside = either_low j.out j.side.from j.side.to (3 * (s.size + 1)) low.0 low.1 in
        let size = grown.flags in
        omega arith

    pub grown_more : (j : Join) → IsNext sides reached j → AreGrown s f (set reached (new_end j) true) (js ++ j ∷ [])
    grown_more j next =
        let low = ends_low j.side next.listed in
        let new_low : new_end j < 3 * (s.size + 1) = either_low j.out j.side.from j.side.to (3 * (s.size + 1)) low.0 low.1 in
        let old_low : old_end j < 3 * (s.size + 1) = either_low j.out j.side.to j.side.from (3 * (s.size + 1)) low.1 low.0 in
        let size = grown.flags in
        record {
          flags = length-set reached (new_end j) true ∙ grown.flags;
          joins = push_join s f [] js j grown.joins (record {
            side = (free.each j.side next.listed).0;
            parted = next_parted j next;
            old = (grown.told (old_end j) old_low).0 next.old;
            new = λ before. let yes = (grown.told (new_end j) new_low).1 before in let no = next.new in absurd (cc);
          });
          told = λ n h. ⊎_elim
              (λ same.
              (λ _. joined_last js j n same, λ _. ap (flag (set reached (new_end j) true)) same ∙ get_or-set_same reached (new_end j) true false (omega arith)))
              (λ other.
              let e : flag (set reached (new_end j) true) n ≡ flag reached n = get_or-set_other reached (new_end j) n true false other in (
                λ yes. joined_later js (j ∷ []) n ((grown.told n h).0 (sym e ∙ yes)),
                λ joined. e ∙ ⊎_elim (λ before. (grown.told n h).1 before) (λ same. absurd (other same)) (joined_cases js j n joined),
              ))
              (cases_eq n (new_end j));
        }

    -- where all sides are even, all cells are reached
    pub grown_whole : ((x : Side) → Contains sides x → IsEven reached x) → AreWholeJoins s f js
    grown_whole even =
        let one : IsChamber s 1 = (omega arith, table.chambers) in
        let some = table.chambers in
        record {
          joins = grown.joins;
          all = λ p d n h c.
              let levels = level_everywhere s table all f visits mark mark_of_cells (λ i e own.
              let y = free.all i e own (rank_low i e own.chamber) in
              subst (λ z. IsLevel mark i z) y.chamber (subst (λ z. IsLevel mark z y.side.chamber) y.index (level_of_even y.side (free.each y.side y.listed).0 (even y.side y.listed)))) in
              let same = one_value s inv mark mark_of_cells levels table.chambers all p d h in
              let is = number_is s inv p (root p) (roots p) d n h c in
              let first : flag reached (numbered s Tile (root Tile 1)) ≡ true =
              ap (flag reached) (first_number s inv (root Tile) (roots Tile) one) ∙ (grown.told 1 (omega arith)).1 (inl refl) in
              let yes : flag reached n ≡ true = ap (flag reached) is ∙ same_flags (flag reached (numbered s p (root p d))) (flag reached (numbered s Tile (root Tile 1))) same ∙ first in
              (grown.told n (number_low s p d n c)).0 yes;
        }

-- the tile of chamber 1 alone
pub grown_first : (s : Symbol) (f : List ℕ) (n : ℕ) → n ≡ 3 * (s.size + 1) → AreGrown s f (set (replicate n false) 1 true) []
grown_first s f n size =
    let long : length (replicate n false) ≡ n = length-replicate n false in
    record {
      flags = length-set (replicate n false) 1 true ∙ long ∙ size;
      joins = tt;
      told = λ m h. ⊎_elim
          (λ same. (λ _. inl same, λ _. ap (flag (set (replicate n false) 1 true)) same ∙ get_or-set_same (replicate n false) 1 true false (omega arith)))
          (λ other.
          let none : flag (set (replicate n false) 1 true) m ≡ false = get_or-set_other (replicate n false) 1 m true false other ∙ get_or-replicate n m false false (omega arith) in
          (λ yes. absurd (cc), λ joined. absurd (⊎_elim (λ same. other same) (λ here. Contains-none m here) joined)))
          (cases_eq m 1);
    }

-- ## The next side

pub unequal : (a b : Bool) → not (beq a b) ≡ true → a ≡ b → ⊥
unequal true true differ same = cc
unequal true false differ same = cc
unequal false true differ same = cc
unequal false false differ same = cc

pub equal : (a b : Bool) → not (beq a b) ≡ false → a ≡ b
equal true true same = refl
equal true false same = absurd (cc)
equal false true same = absurd (cc)
equal false false same = refl

uneven_new : (reached : List Bool) (a b : ℕ) (s t : Bool) → flag reached a ≡ s → flag reached b ≡ t → (s ≡ t → ⊥) → flag reached (either t a b) ≡ false
uneven_new reached a b true true ea eb differ = absurd (differ refl)
uneven_new reached a b true false ea eb differ = eb
uneven_new reached a b false true ea eb differ = ea
uneven_new reached a b false false ea eb differ = absurd (differ refl)

uneven_old : (reached : List Bool) (a b : ℕ) (s t : Bool) → flag reached a ≡ s → flag reached b ≡ t → (s ≡ t → ⊥) → flag reached (either t b a) ≡ true
uneven_old reached a b true true ea eb differ = absurd (differ refl)
uneven_old reached a b true false ea eb differ = ea
uneven_old reached a b false true ea eb differ = eb
uneven_old reached a b false false ea eb differ = absurd (differ refl)

pub next_found : (sides : List Side) (reached : List Bool) (k : ℕ) (x : Side) → k < length sides → get_or sides k x ≡ x → AreAscending sides
    → ((q : ℕ) (y : Side) → q < k → get_or sides q y ≡ y → IsEven reached y) → (flag reached x.from ≡ flag reached x.to → ⊥)
    → IsNext sides reached (record { side = x; out = flag reached x.to })
next_found sides reached k x inside at ascending even differ = record {
  listed = (k, inside, at);
  new = uneven_new reached x.from x.to (flag reached x.from) (flag reached x.to) refl refl differ;
  old = uneven_old reached x.from x.to (flag reached x.from) (flag reached x.to) refl refl differ;
  earlier = λ y here less. ⊎_elim
      (λ before. even here.0 y before here.2)
      (λ after. ⊎_elim
      (λ later. let more = ascending k here.0 x y later here.1 at here.2 in absurd (omega arith))
      (λ last.
      let q : here.0 ≡ k = omega arith in
      let own : get_or sides k y ≡ y = subst (λ r. get_or sides r y ≡ y) q here.2 in
      let same : y ≡ x = sym own ∙ get_or_default sides k y x inside ∙ at in
      let e = ap (λ (z : Side). rank z.index z.chamber) same in
      absurd (omega arith))
      (cases_lt k here.0))
      (cases_lt here.0 k);
}
