-- The members of lists are their symbols, each at its place.
use Rattle.std.proofs.Common.{◌≡◌, ◌⊎◌, ℕ, zero, suc, ◌+◌, ◌<◌, List, [], ◌∷◌, length, get_or, refl, sym, subst, inl, inr, ⊎_elim, arith}
use Rattle.std.proofs.lemmas.List.Elements.{Contains-append_right, Contains-append_left, Contains-append_cases}
use Rattle.std.specs.List.{AllByRecursion, Contains}
use Rattle.dd_model.specs.Symbol.{Symbol}
use Rattle.dd_model.specs.Code.{IsBelow}
use Rattle.dd_model.specs.Wanted.{IsAscending}
use Rattle.dd_model.proofs.Lists.{Contains-none, Contains-head, Contains-later, Contains-cases}
use Rattle.dd_model.proofs.Pairs.{ArePairs, pairs_append}
use Rattle.dd_shard.specs.Merging.{IsSymbolAt, IsInSome}
use Rattle.dd_shard.specs.Members.{numbered, tagged}
use Rattle.dd_shard.specs.declared.member.Member.{Member}

-- a member of a list that is numbered from a number on
record IsNumbered (file from : ℕ) (ss : List Symbol) (m : Member) : Type 0 where
  pub file_is : m.file ≡ file
  pub place : ℕ
  pub number_is : m.number ≡ place + from
  pub within : place < length ss
  pub is : get_or ss place m.symbol ≡ m.symbol

in_numbered : (file from : ℕ) (ss : List Symbol) (m : Member) → Contains (numbered file from ss) m → IsNumbered file from ss m
in_numbered file from [] m there = absurd (Contains-none m there)
in_numbered file from (s ∷ ss) m there =
    ⊎_elim
    (λ first. subst (IsNumbered file from (s ∷ ss)) first (record { file_is = refl; place = zero; number_is = omega arith; within = omega arith; is = refl }))
    (λ later.
    let rest = in_numbered file (from + 1) ss m later in
    record { file_is = rest.file_is; place = suc rest.place; number_is = omega (arith, rest.number_is); within = omega (arith, rest.within); is = rest.is })
    (Contains-cases (record { symbol = s; file = file; number = from }) m (numbered file (from + 1) ss) there)

to_numbered : (file from n : ℕ) (ss : List Symbol) (place : ℕ) (s : Symbol) → n ≡ place + from → place < length ss → get_or ss place s ≡ s
    → Contains (numbered file from ss) (record { symbol = s; file = file; number = n })
to_numbered file from n [] place s e low is = absurd (omega arith)
to_numbered file from n (t ∷ ss) zero s e low is =
    let same : from ≡ n = omega (arith, e) in
    subst (λ (m : Member). Contains (numbered file from (t ∷ ss)) m) (λ i. record { symbol = is i; file = file; number = same i }) (Contains-head (record { symbol = t; file = file; number = from }) (numbered file (from + 1) ss))
to_numbered file from n (t ∷ ss) (suc place) s e low is =
    Contains-later (record { symbol = t; file = file; number = from }) (record { symbol = s; file = file; number = n }) (numbered file (from + 1) ss)
    (to_numbered file (from + 1) n ss place s (omega (arith, e)) (omega (arith, low)) is)

-- a member of lists of which the first has a number
record IsTagged (from : ℕ) (lists : List (List Symbol)) (m : Member) : Type 0 where
  pub list : List Symbol
  pub place : ℕ
  pub file_is : m.file ≡ place + from
  pub within : place < length lists
  pub is : get_or lists place list ≡ list
  pub symbol : IsNumbered m.file 1 list m

in_tagged : (from : ℕ) (lists : List (List Symbol)) (m : Member) → Contains (tagged from lists) m → IsTagged from lists m
in_tagged from [] m there = absurd (Contains-none m there)
in_tagged from (list ∷ lists) m there =
    ⊎_elim
    (λ here.
    let own = in_numbered from 1 list m here in
    record { list = list; place = zero; file_is = omega (arith, own.file_is); within = omega arith; is = refl; symbol = subst (λ f. IsNumbered f 1 list m) (sym own.file_is) own })
    (λ later.
    let rest = in_tagged (from + 1) lists m later in
    record { list = rest.list; place = suc rest.place; file_is = omega (arith, rest.file_is); within = omega (arith, rest.within); is = rest.is; symbol = rest.symbol })
    (Contains-append_cases (numbered from 1 list) (tagged (from + 1) lists) m there)

to_tagged : (from file n : ℕ) (lists : List (List Symbol)) (place : ℕ) (list : List Symbol) (at : ℕ) (s : Symbol) → file ≡ place + from → place < length lists → get_or lists place list ≡ list
    → n ≡ at + 1 → at < length list → get_or list at s ≡ s → Contains (tagged from lists) (record { symbol = s; file = file; number = n })
to_tagged from file n [] place list at s e low is f within has = absurd (omega arith)
to_tagged from file n (own ∷ lists) zero list at s e low is f within has =
    let same : from ≡ file = omega (arith, e) in
    Contains-append_left (numbered from 1 own) (tagged (from + 1) lists) _
    (subst (λ (l : List Symbol). Contains (numbered from 1 l) (record { symbol = s; file = file; number = n })) (sym is)
    (subst (λ k. Contains (numbered k 1 list) (record { symbol = s; file = file; number = n })) (sym same) (to_numbered file 1 n list at s f within has)))
to_tagged from file n (own ∷ lists) (suc place) list at s e low is f within has =
    Contains-append_right (numbered from 1 own) (tagged (from + 1) lists) _
    (to_tagged (from + 1) file n lists place list at s (omega (arith, e)) (omega (arith, low)) is f within has)

-- ## Members and symbols at places

pub at_place : (lists : List (List Symbol)) (m : Member) → Contains (tagged 1 lists) m → IsSymbolAt lists m.file m.number m.symbol
at_place lists m there =
    let is = in_tagged 1 lists m there in
    record {
      list = is.list;
      is_list = record { place = is.place; number = is.file_is; within = is.within; is = is.is };
      is_symbol = record { place = is.symbol.place; number = is.symbol.number_is; within = is.symbol.within; is = is.symbol.is };
    }

pub from_place : (lists : List (List Symbol)) (file n : ℕ) (s : Symbol) → IsSymbolAt lists file n s → Contains (tagged 1 lists) (record { symbol = s; file = file; number = n })
from_place lists file n s at =
    to_tagged 1 file n lists at.is_list.place at.list at.is_symbol.place s at.is_list.number at.is_list.within at.is_list.is at.is_symbol.number at.is_symbol.within at.is_symbol.is

pub some_place : (lists : List (List Symbol)) (s : Symbol) → IsInSome lists s → (m : Member) × Contains (tagged 1 lists) m × (m.symbol ≡ s)
some_place lists s is =
    let list = is.among in
    let symbol = is.there in (
      record { symbol = s; file = list.0 + 1; number = symbol.0 + 1 },
      to_tagged 1 (list.0 + 1) (symbol.0 + 1) lists list.0 is.list symbol.0 s refl list.1 list.2 refl symbol.1 symbol.2,
      refl,
    )

pub in_some : (lists : List (List Symbol)) (m : Member) → Contains (tagged 1 lists) m → IsInSome lists m.symbol
in_some lists m there =
    let is = in_tagged 1 lists m there in
    record { list = is.list; among = (is.place, is.within, is.is); there = (is.symbol.place, is.symbol.within, is.symbol.is) }

-- ## Members of ascending lists

-- a member of an earlier list, or one of the same list that is below
abbrev pub Precedes : Member → Member → Type 0
Precedes a b = (a.file < b.file) ⊎ ((a.file ≡ b.file) × IsBelow a.symbol b.symbol)

below_numbered : (s : Symbol) (file from n : ℕ) (ss : List Symbol) → AllByRecursion (IsBelow s) ss → AllByRecursion (Precedes (record { symbol = s; file = file; number = n })) (numbered file from ss)
below_numbered s file from n [] all = tt
below_numbered s file from n (t ∷ ss) all = (inr (refl, all.0), below_numbered s file (from + 1) n ss all.1)

pairs_numbered : (file from : ℕ) (ss : List Symbol) → IsAscending ss → ArePairs Precedes (numbered file from ss)
pairs_numbered file from [] up = tt
pairs_numbered file from (s ∷ ss) up = (below_numbered s file (from + 1) from ss up.0, pairs_numbered file (from + 1) ss up.1)

pub pairs_tagged : (from : ℕ) (lists : List (List Symbol)) → AllByRecursion IsAscending lists → ArePairs Precedes (tagged from lists)
pairs_tagged from [] all = tt
pairs_tagged from (list ∷ lists) all =
    pairs_append Precedes (numbered from 1 list) (tagged (from + 1) lists) (pairs_numbered from 1 list all.0) (pairs_tagged (from + 1) lists all.1)
    (λ a b here later.
    let low = (in_numbered from 1 list a here).file_is in
    let high = (in_tagged (from + 1) lists b later).file_is in
    inl (omega (arith, low, high)))
