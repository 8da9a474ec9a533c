-- Members of ascending lists after a stable sort by their codes: members with one symbol are neighbors.
use Rattle.std.proofs.Common.{◌≡◌, ◌⊎◌, ◌&&◌, ℕ, zero, suc, ◌<◌, true, false, not, List, [], ◌∷◌, length, get_or, map, refl, sym, ap, ap₂, ◌∙◌, subst, inl, inr, ⊎_elim, arith}
use Rattle.std.proofs.lemmas.Bool.{cases_order}
use Rattle.std.proofs.lemmas.Cmp.{tied_itself}
use Rattle.std.proofs.lemmas.List.{get_or_default}
use Rattle.std.proofs.lemmas.List.Elements.{Contains-get_or}
use Rattle.std.proofs.lemmas.List.Sorted.{ranks_by, sorted_far, Contains-permutation, IsPermutation-sym}
use Rattle.std.specs.Cmp.{IsStrictWeakOrder}
use Rattle.std.specs.List.{AllByRecursion, Contains, filter}
use Rattle.std.specs.List.Sorted.{IsPermutation, IsSortedBy, IsStableBy, ties}
use Rattle.std.specs.Ordering.{is_lt, ordering_reverse}
use Rattle.std.specs.declared.cmp.Ordering.{Ordering}
use Rattle.std.specs.declared.cmp.Ordering.TheVariants.{Less, Equal, Greater}
use Rattle.dd_model.specs.Symbol.{Symbol}
use Rattle.dd_model.specs.Code.{code_cmp, IsBelow}
use Rattle.dd_model.specs.Wanted.{IsAscending}
use Rattle.dd_model.proofs.Codes.{code_cmp_total}
use Rattle.dd_model.proofs.Lists.{Contains-none, Contains-head, Contains-later, Contains-cases, Contains-map}
use Rattle.dd_model.proofs.Orders.{not_below_itself}
use Rattle.dd_model.proofs.Pairs.{ArePairs}
use Rattle.dd_shard.specs.Merging.{IsNth, IsDoubled, IsFirst, IsNoLater, IsInSome, IsMerged, AreMergeable}
use Rattle.dd_shard.specs.Members.{tagged, by_code}
use Rattle.dd_shard.specs.Doubles.{HasDouble, AreApartBelow, IsLeastDouble}
use Rattle.dd_shard.specs.declared.member.Member.{Member}
use Rattle.dd_shard.specs.declared.member.ListPlace.{ListPlace}
use Rattle.dd_shard.proofs.AscendingLists.{ascending_more}
use Rattle.dd_shard.proofs.KeptPairs.{pairs_filtered, kept_pair}
use Rattle.dd_shard.proofs.TaggedMembers.{Precedes, pairs_tagged, at_place, from_place, some_place, in_some}

pub weak_order : IsStrictWeakOrder by_code
weak_order = ranks_by code_cmp_total (λ m. m.symbol)

not_less : (o : Ordering) → is_lt o ≡ false → o ≡ Less → ⊥
not_less o e is = let f : is_lt o ≡ true = ap is_lt is in cc

equal_between : (o p : Ordering) → o ≡ ordering_reverse p → is_lt o ≡ false → is_lt p ≡ false → o ≡ Equal
equal_between Less p e a b = absurd (cc)
equal_between Equal p e a b = refl
equal_between Greater Less e a b = absurd (cc)
equal_between Greater Equal e a b = absurd (cc)
equal_between Greater Greater e a b = absurd (cc)

less_of : (o p : Ordering) → o ≡ ordering_reverse p → is_lt p ≡ false → (o ≡ Equal → ⊥) → o ≡ Less
less_of Less p e a none = refl
less_of Equal p e a none = absurd (none refl)
less_of Greater Less e a none = absurd (cc)
less_of Greater Equal e a none = absurd (cc)
less_of Greater Greater e a none = absurd (cc)

-- members with one symbol tie
tied : (a b : Member) → a.symbol ≡ b.symbol → ties by_code a b ≡ true
tied a b same =
    let one : code_cmp a.symbol b.symbol ≡ Equal = subst (λ s. code_cmp a.symbol s ≡ Equal) same (tied_itself code_cmp_total a.symbol) in
    let other : code_cmp b.symbol a.symbol ≡ Equal = subst (λ s. code_cmp s a.symbol ≡ Equal) same (tied_itself code_cmp_total a.symbol) in
    ap₂ (λ o p. not (is_lt o) && not (is_lt p)) one other

module _ (lists : List (List Symbol)) (ms : List Member) (up : AllByRecursion IsAscending lists)
    (moved : IsPermutation (tagged 1 lists) ms) (sorted : IsSortedBy by_code ms) (stable : IsStableBy by_code (tagged 1 lists) ms) where
  from_lists : (m : Member) → Contains ms m → Contains (tagged 1 lists) m
  from_lists m there = Contains-permutation ms (tagged 1 lists) m (IsPermutation-sym (tagged 1 lists) ms moved) there

  to_members : (m : Member) → Contains (tagged 1 lists) m → Contains ms m
  to_members m there = Contains-permutation (tagged 1 lists) ms m moved there

  -- members with one symbol stand in the order of their places
  in_order : (i j : ℕ) (d : Member) → i < j → j < length ms → (get_or ms i d).symbol ≡ (get_or ms j d).symbol → (get_or ms i d).file < (get_or ms j d).file
  in_order i j d less low same =
      let a = get_or ms i d in
      let b = get_or ms j d in
      let kept : ArePairs Precedes (filter (ties by_code a) ms) = subst (ArePairs Precedes) (sym (stable a)) (pairs_filtered (ties by_code a) Precedes (tagged 1 lists) (pairs_tagged 1 lists up)) in
      ⊎_elim
      (λ earlier. earlier)
      (λ together. absurd (not_below_itself b.symbol (subst (λ s. IsBelow s b.symbol) same together.1)))
      (kept_pair (ties by_code a) Precedes ms i j d kept less low (tied a a refl) (tied a b same))

  -- a symbol that equals one of an earlier list comes right after a member of its code
  pub record HasNeighbor (file n : ℕ) : Type 0 where
    pub at : ℕ
    pub within : suc at < length ms
    pub double : (d : Member) → HasDouble ms at d
    pub file_is : (d : Member) → (get_or ms (suc at) d).file ≡ file
    pub number_is : (d : Member) → (get_or ms (suc at) d).number ≡ n

  neighbor_of : (a b : Member) (i j : ℕ) → i < length ms → j < length ms → get_or ms i a ≡ a → get_or ms j b ≡ b → a.symbol ≡ b.symbol → a.file < b.file
      → (i ≡ j) ⊎ ((i < j) ⊎ (j < i)) → HasNeighbor b.file b.number
  neighbor_of a b i j li lj is it same less (inl e) =
      let one : a ≡ b = sym is ∙ get_or_default ms i a b li ∙ ap (λ k. get_or ms k b) e ∙ it in
      let files : a.file ≡ b.file = ap (λ m. m.file) one in
      absurd (omega arith)
  neighbor_of a b i j li lj is it same less (inr (inr after)) =
      let first : get_or ms j a ≡ b = get_or_default ms j a b lj ∙ it in
      let order = in_order j i a after li (ap (λ m. m.symbol) first ∙ sym same ∙ ap (λ m. m.symbol) (sym is)) in
      let one : (get_or ms j a).file ≡ b.file = ap (λ m. m.file) first in
      let other : (get_or ms i a).file ≡ a.file = ap (λ m. m.file) is in
      absurd (omega (arith, order, one, other, less))
  neighbor_of a b i zero li lj is it same less (inr (inl before)) = absurd (omega arith)
  neighbor_of a b i (suc k) li lj is it same less (inr (inl before)) =
      let here : (d : Member) → get_or ms (suc k) d ≡ b = λ d. get_or_default ms (suc k) d b lj ∙ it in
      let there : (d : Member) → get_or ms i d ≡ a = λ d. get_or_default ms i d a li ∙ is in
      record {
        at = k;
        within = lj;
        double = λ d.
            let y = get_or ms k d in
            let after : by_code b y ≡ false = subst (λ m. by_code m y ≡ false) (here d) (sorted_far by_code weak_order ms sorted k (suc k) d (omega arith) lj) in
            let late : by_code y a ≡ false = subst (λ m. by_code y m ≡ false) (there d) (sorted_far by_code weak_order ms sorted i k d (omega arith) (omega arith)) in
            let low : is_lt (code_cmp y.symbol b.symbol) ≡ false = subst (λ s. is_lt (code_cmp y.symbol s) ≡ false) same late in
            let equal : code_cmp y.symbol b.symbol ≡ Equal = equal_between (code_cmp y.symbol b.symbol) (code_cmp b.symbol y.symbol) (code_cmp_total.antisymm y.symbol b.symbol) low after in
            subst (λ (m : Member). code_cmp y.symbol m.symbol ≡ Equal) (sym (here d)) equal;
        file_is = λ d. ap (λ m. m.file) (here d);
        number_is = λ d. ap (λ m. m.number) (here d);
      }

  neighbor : (file n : ℕ) → IsDoubled lists file n → HasNeighbor file n
  neighbor file n double =
      let a : Member = record { symbol = double.symbol; file = double.earlier; number = double.number } in
      let b : Member = record { symbol = double.symbol; file = file; number = n } in
      let at = to_members a (from_place lists double.earlier double.number double.symbol double.there) in
      let here = to_members b (from_place lists file n double.symbol double.here) in
      neighbor_of a b at.0 here.0 at.1 here.1 at.2 here.2 refl double.before (cases_order at.0 here.0)

  -- neighbors with one symbol
  doubled_at : (k : ℕ) (d : Member) → suc k < length ms → (get_or ms k d).symbol ≡ (get_or ms (suc k) d).symbol → IsDoubled lists (get_or ms (suc k) d).file (get_or ms (suc k) d).number
  doubled_at k d low same =
      let a = get_or ms k d in
      let b = get_or ms (suc k) d in
      let place = at_place lists a (from_lists a (Contains-get_or ms k d (omega arith))) in
      record {
        symbol = b.symbol;
        here = at_place lists b (from_lists b (Contains-get_or ms (suc k) d low));
        earlier = a.file;
        before = in_order k (suc k) d (omega arith) low same;
        number = a.number;
        there = record { list = place.list; is_list = place.is_list; is_symbol = subst (IsNth place.list a.number) same place.is_symbol };
      }

  pub first_double : (p : ListPlace) → IsLeastDouble ms (length ms) p → IsFirst (IsDoubled lists) p.file p.number
  first_double p least = record {
    holds = go;
    first = λ other m double.
        let next = neighbor other m double in
        let d = get_or ms next.at (record { symbol = double.symbol; file = 0; number = 0 }) in
        let late = least.least next.at d next.within (next.double d) in
        subst (λ k. IsNoLater p.file p.number other k) (next.number_is d) (subst (λ f. IsNoLater p.file p.number f (get_or ms (suc next.at) d).number) (next.file_is d) late);
  }
    where
      some : Member
      some = record { symbol = (record { size = 0; s0 = []; s1 = []; s2 = []; m01 = []; m12 = [] }); file = 0; number = 0 }

      go : IsDoubled lists p.file p.number
      go =
          let at = least.is some in
          subst (IsDoubled lists p.file) at.1 (subst (λ f. IsDoubled lists f (get_or ms (suc least.at) some).number) at.0 (doubled_at least.at some least.within (least.same some)))

  pub none_doubled : AreApartBelow ms (length ms) → (file n : ℕ) → IsDoubled lists file n → ⊥
  none_doubled apart file n double =
      let next = neighbor file n double in
      let d : Member = record { symbol = double.symbol; file = 0; number = 0 } in
      apart next.at d next.within (next.double d)

  pub mergeable : AreApartBelow ms (length ms) → AreMergeable lists
  mergeable apart = record { ascending = up; apart = none_doubled apart }

  merged_members : (s : Symbol) → Contains (map (λ m. m.symbol) ms) s → IsInSome lists s
  merged_members s there =
      let m = mapped ms s there in
      subst (IsInSome lists) m.2 (in_some lists m.0 (from_lists m.0 m.1))
    where
      mapped : (ms : List Member) (s : Symbol) → Contains (map (λ m. m.symbol) ms) s → (m : Member) × Contains ms m × (m.symbol ≡ s)
      mapped [] s there = absurd (Contains-none s there)
      mapped (m ∷ ms) s there = ⊎_elim
          (λ first. (m, Contains-head m ms, first))
          (λ later. let rest = mapped ms s later in (rest.0, Contains-later m rest.0 ms rest.1, rest.2))
          (Contains-cases m.symbol s (map (λ m. m.symbol) ms) there)

  pub is_merged : AreApartBelow ms (length ms) → IsMerged lists (map (λ m. m.symbol) ms)
  is_merged apart = record {
    ascending = symbols_ascend ms (λ k d low.
        let a = get_or ms k d in
        let b = get_or ms (suc k) d in
        let late : by_code b a ≡ false = sorted_far by_code weak_order ms sorted k (suc k) d (omega arith) low in
        less_of (code_cmp a.symbol b.symbol) (code_cmp b.symbol a.symbol) (code_cmp_total.antisymm a.symbol b.symbol) late (apart k d low));
    members = λ s. (
      merged_members s,
      λ is.
          let m = some_place lists s is in
          subst (Contains (map (λ m. m.symbol) ms)) m.2 (Contains-map (λ m. m.symbol) ms m.0 (to_members m.0 m.1)),
    );
  }
    where
      symbols_ascend : (ms : List Member) → ((k : ℕ) (d : Member) → suc k < length ms → IsBelow (get_or ms k d).symbol (get_or ms (suc k) d).symbol) → IsAscending (map (λ m. m.symbol) ms)
      symbols_ascend [] next = tt
      symbols_ascend (a ∷ []) next = (tt, tt)
      symbols_ascend (a ∷ b ∷ ms) next =
          ascending_more a.symbol b.symbol (map (λ m. m.symbol) ms) (next zero a (omega arith)) (symbols_ascend (b ∷ ms) (λ k d low. next (suc k) d (omega arith)))
