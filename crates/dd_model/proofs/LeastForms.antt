-- The least form of a connected symbol is the least of its numberings by first visits, of which there is one from each start.
use Rattle.std.proofs.Common.{◌≡◌, ◌≢◌, ℕ, zero, suc, ◌+◌, ◌-◌, ◌≤◌, ◌⊎◌, ◌↔◌, inl, inr, List, refl, sym, ap, ◌∙◌, subst, ⊎_elim, arith}
use Rattle.std.proofs.lemmas.Bool.{cases_lt}
use Rattle.std.proofs.lemmas.Cmp.{tied_itself}
use Rattle.std.specs.Ordering.{ordering_reverse}
use Rattle.std.specs.declared.cmp.Ordering.{Ordering}
use Rattle.std.specs.declared.cmp.Ordering.TheVariants.{Less, Equal, Greater}
use Rattle.dd_model.specs.Symbol.{Symbol, IsTable, IsSymbol, IsChamber, item}
use Rattle.dd_model.specs.Connected.{Connected}
use Rattle.dd_model.specs.Isomorphic.{HaveLengths, IsIsomorphism, Isomorphic}
use Rattle.dd_model.specs.Code.{code_cmp, Least, IsLeastForm, count_from}
use Rattle.dd_model.specs.FirstVisit.{IsFirstVisit, IsNumberedFrom, LeastTable, IsLeastTableForm}
use Rattle.std.specs.List.{Contains}
use Rattle.dd_model.specs.Wanted.{Wanted, IsCatalogue}
use Rattle.dd_model.specs.declared.requests.Request.{Request}
use Rattle.dd_model.proofs.CarriedWanted.{wanted-along}
use Rattle.dd_model.proofs.Bijections.{after, item-after}
use Rattle.dd_model.proofs.CountFrom.{item-count_from}
use Rattle.dd_model.proofs.Isomorphisms.{identity_isomorphism, Isomorphic-sym, Isomorphic-trans, inverse_isomorphism, IsIsomorphism-after}
use Rattle.dd_model.proofs.Transport.{Connected-along, IsSymbol-along}
use Rattle.dd_model.proofs.Codes.{code_cmp_total, same_from_code_cmp, equal_from_both, least_unique}
use Rattle.dd_model.proofs.FirstVisits.{first_visit_wins}
use Rattle.dd_model.proofs.Numberings.{numbered_from}

two_left : (o : Ordering) → o ≢ Greater → (o ≡ Less) ⊎ (o ≡ Equal)
two_left Less h = inl refl
two_left Equal h = inr refl
two_left Greater h = absurd (h refl)

less_not_greater : (o : Ordering) → o ≡ Less → o ≢ Greater
less_not_greater o e g = cc

pub below_back : (s t : Symbol) → code_cmp s t ≡ Less → code_cmp t s ≡ Greater
below_back s t e = code_cmp_total.antisymm t s ∙ ap ordering_reverse e

-- a symbol is not above itself
not_above_itself : (s : Symbol) → code_cmp s s ≢ Greater
not_above_itself s g = let e = tied_itself code_cmp_total s in cc

pub not_above_trans : (s t u : Symbol) → code_cmp s t ≢ Greater → (code_cmp t u ≡ Less) ⊎ (t ≡ u) → code_cmp s u ≢ Greater
not_above_trans s t u h later =
    ⊎_elim
    (λ less. ⊎_elim
    (λ first. less_not_greater (code_cmp s u) (code_cmp_total.trans s t u first less))
    (λ tied. less_not_greater (code_cmp s u) (code_cmp_total.congr s t u tied ∙ less))
    (two_left (code_cmp s t) h))
    (λ same. subst (λ v. code_cmp s v ≢ Greater) same h)
    later

pub not_above : (s t : Symbol) → (code_cmp s t ≡ Less) ⊎ (s ≡ t) → code_cmp s t ≢ Greater
not_above s t lower = not_above_trans s s t (not_above_itself s) lower

-- A numbering by first visits is below each other numbering with its start.
pub numbered_wins : (s t u : Symbol) (start : ℕ) (g : List ℕ) → IsTable s → Connected s → IsChamber s start → IsNumberedFrom s start t → IsTable u → IsIsomorphism s u g → item g start ≡ 1
    → (code_cmp t u ≡ Less) ⊎ (t ≡ u)
numbered_wins s t u start g is con h a iu iso one =
    let b = a.isomorphism.bijection in
    let back : IsIsomorphism t s b.inverse = inverse_isomorphism s t a.map is a.isomorphism in
    let there : item b.inverse 1 ≡ start = ap (item b.inverse) (sym a.start_first) ∙ b.left.undone start h.0 h.1 in
    let map = after g b.inverse in
    let size : t.size ≡ s.size = a.isomorphism.size in
    let pos = is.chambers in
    first_visit_wins t u map a.table iu (Connected-along s t a.map is a.isomorphism con) a.first_visit
    (IsIsomorphism-after t s u b.inverse g a.table back iso)
    (item-after g b.inverse t.size 1 (b.inverse_images ∙ sym size) (omega arith) (omega arith) ∙ ap (item g) there ∙ one)

-- There is one numbering by first visits from each start.
pub numbered_unique : (s t u : Symbol) (start : ℕ) → IsTable s → Connected s → IsChamber s start → IsNumberedFrom s start t → IsNumberedFrom s start u → t ≡ u
numbered_unique s t u start is con h a b =
    ⊎_elim
    (λ less. ⊎_elim
    (λ more. let back = below_back t u less in absurd (cc))
    (λ same. sym same)
    (numbered_wins s u t start a.map is con h b a.table a.isomorphism a.start_first))
    (λ same. same)
    (numbered_wins s t u start b.map is con h a b.table b.isomorphism b.start_first)

-- t is numbered by first visits from some chamber
pub record IsNumbered (s t : Symbol) : Type 0 where
  pub start : ℕ
  pub chamber : IsChamber s start
  pub numbered : IsNumberedFrom s start t

-- no numbering by first visits from one of the chambers 1 to n is below t
abbrev pub BestTo : Symbol → ℕ → Symbol → Type 0
BestTo s n t = (d : ℕ) (u : Symbol) → 1 ≤ d → d ≤ n → IsNumberedFrom s d u → code_cmp t u ≢ Greater

-- the best of all starts is least among all symbols that are isomorphic
pub least_of_best : (s t : Symbol) → IsTable s → Connected s → IsTable t → Isomorphic s t → BestTo s s.size t → IsLeastTableForm s t
least_of_best s t is con it iso best = record {
  table = it;
  renumbering = iso;
  least = λ v iv tv.
      let g = Isomorphic-trans s t v is iso tv in
      let b = g.1.bijection in
      let pos = is.chambers in
      let start = item b.inverse 1 in
      let h = b.right.within 1 (omega arith) pos in
      let u = numbered_from s start is con h in
      not_above_trans t u.0 v (best start u.0 h.0 h.1 u.1) (numbered_wins s u.0 v start g.0 is con h u.1 iv g.1 (b.right.undone 1 (omega arith) pos));
}

-- what is least is numbered by first visits
pub least_first_visit : (t : Symbol) → IsTable t → Connected t → LeastTable t → IsFirstVisit t
least_first_visit t it con least =
    let pos = it.chambers in
    let one : IsChamber t 1 = (omega arith, pos) in
    let u = numbered_from t 1 it con one in
    ⊎_elim
    (λ less. absurd (least u.0 u.1.table (u.1.map, u.1.isomorphism) (below_back u.0 t less)))
    (λ same. subst IsFirstVisit same u.1.first_visit)
    (numbered_wins t u.0 t 1 (count_from 1 t.size) it con one u.1 it (identity_isomorphism t it) (item-count_from t.size 1 (omega arith) pos))

-- The least of all renumberings is the numbering by first visits from some chamber.
pub least_form_numbered : (s t : Symbol) → IsTable s → Connected s → IsLeastTableForm s t → IsNumbered s t
least_form_numbered s t is con form =
    let g = form.renumbering in
    let b = g.1.bijection in
    let pos = is.chambers in
    record {
      start = item b.inverse 1;
      chamber = b.right.within 1 (omega arith) pos;
      numbered = record {
        table = form.table;
        map = g.0;
        isomorphism = g.1;
        start_first = b.right.undone 1 (omega arith) pos;
        first_visit = least_first_visit t form.table (Connected-along s t g.0 is g.1 con) form.least;
      };
    }

-- one start more
pub more_best : (s t u : Symbol) (n : ℕ) → IsTable s → Connected s → IsChamber s (n + 1) → BestTo s n t → IsNumberedFrom s (n + 1) u → code_cmp t u ≢ Greater → BestTo s (n + 1) t
more_best s t u n is con h best a ahead d v low high b =
    ⊎_elim
    (λ early. best d v low (omega arith) b)
    (λ late. let e : d ≡ n + 1 = omega arith in
    subst (λ w. code_cmp t w ≢ Greater) (numbered_unique s u v (n + 1) is con h a (subst (λ c. IsNumberedFrom s c v) e b)) ahead)
    (cases_lt d (n + 1))

-- a new start that is below the best so far
pub new_best : (s t u : Symbol) (n : ℕ) → IsTable s → Connected s → IsChamber s (n + 1) → BestTo s n t → IsNumberedFrom s (n + 1) u → code_cmp t u ≡ Greater → BestTo s (n + 1) u
new_best s t u n is con h best a behind d v low high b =
    let less : code_cmp u t ≡ Less = code_cmp_total.antisymm u t ∙ ap ordering_reverse behind in
    ⊎_elim
    (λ early. ⊎_elim
    (λ first. less_not_greater (code_cmp u v) (code_cmp_total.trans u t v less first))
    (λ tied. let back : code_cmp v t ≡ code_cmp t t = sym (code_cmp_total.congr t v t tied) in
    let e = tied_itself code_cmp_total t in
    let same : code_cmp v t ≡ Equal = back ∙ e in
    less_not_greater (code_cmp u v) (code_cmp_total.antisymm u v ∙ ap ordering_reverse (code_cmp_total.congr v t u same ∙ below_back u t less)))
    (two_left (code_cmp t v) (best d v low (omega arith) b)))
    (λ late. let e : d ≡ n + 1 = omega arith in
    subst (λ w. code_cmp u w ≢ Greater) (numbered_unique s u v (n + 1) is con h a (subst (λ c. IsNumberedFrom s c v) e b)) (not_above_itself u))
    (cases_lt d (n + 1))

pub first_best : (s t : Symbol) → IsTable s → Connected s → IsChamber s 1 → IsNumberedFrom s 1 t → BestTo s 1 t
first_best s t is con h a d v low high b =
    let e : d ≡ 1 = omega arith in
    subst (λ w. code_cmp t w ≢ Greater) (numbered_unique s t v 1 is con h a (subst (λ c. IsNumberedFrom s c v) e b)) (not_above_itself t)

-- the best of the first starts
record IsFound (s : Symbol) (n : ℕ) : Type 0 where
  symbol : Symbol
  numbered : IsNumbered s symbol
  best : BestTo s n symbol

best_to : (s : Symbol) (n : ℕ) → IsTable s → Connected s → n + 1 ≤ s.size → IsFound s (n + 1)
best_to s zero is con h =
    let one : IsChamber s 1 = (omega arith, omega arith) in
    let u = numbered_from s 1 is con one in
    let e : 1 ≡ zero + 1 = omega arith in
    record { symbol = u.0; numbered = record { start = 1; chamber = one; numbered = u.1 }; best = subst (λ k. BestTo s k u.0) e (first_best s u.0 is con one u.1) }
best_to s (suc n) is con h =
    let e : suc n ≡ n + 1 = omega arith in
    let old = best_to s n is con (omega arith) in
    let here : IsChamber s (suc n + 1) = (omega arith, h) in
    let u = numbered_from s (suc n + 1) is con here in
    let best : BestTo s (suc n) old.symbol = subst (λ k. BestTo s k old.symbol) (sym e) old.best in
    ⊎_elim
    (λ behind. record { symbol = u.0; numbered = record { start = suc n + 1; chamber = here; numbered = u.1 }; best = new_best s old.symbol u.0 (suc n) is con here best u.1 behind })
    (λ ahead. record { symbol = old.symbol; numbered = old.numbered; best = more_best s old.symbol u.0 (suc n) is con here best u.1 ahead })
    (greater_or_not (code_cmp old.symbol u.0))
  where
    greater_or_not : (o : Ordering) → (o ≡ Greater) ⊎ (o ≢ Greater)
    greater_or_not Less = inr (λ e. cc)
    greater_or_not Equal = inr (λ e. cc)
    greater_or_not Greater = inl refl

-- Each connected symbol has a least form.
pub least_form_exists : (s : Symbol) → IsTable s → Connected s → (t : Symbol) × IsLeastTableForm s t
least_form_exists s is con =
    let pos = is.chambers in
    let e : s.size - 1 + 1 ≡ s.size = omega arith in
    let found = best_to s (s.size - 1) is con (omega arith) in
    let a = found.numbered.numbered in
    (found.symbol, least_of_best s found.symbol is con a.table (a.map, a.isomorphism) (subst (λ k. BestTo s k found.symbol) e found.best))

-- two least tables that are isomorphic are equal
pub least_table_unique : (s t : Symbol) → IsTable s → IsTable t → LeastTable s → LeastTable t → Isomorphic s t → s ≡ t
least_table_unique s t is it ls lt iso =
    same_from_code_cmp s t is it (equal_from_both (code_cmp s t) (code_cmp t s) (code_cmp_total.antisymm s t) (ls t it iso) (lt s is (Isomorphic-sym s t is iso)))

-- Isomorphic tables are those with equal least forms.
pub same_table_forms : (s s' t t' : Symbol) → IsTable s → IsTable s' → IsLeastTableForm s t → IsLeastTableForm s' t' → t ≡ t' ↔ Isomorphic s s'
same_table_forms s s' t t' is is' a b = (
  (λ same. Isomorphic-trans s t s' is a.renumbering (Isomorphic-sym s' t is' (subst (λ u. Isomorphic s' u) (sym same) b.renumbering))),
  (λ iso. least_table_unique t t' a.table b.table a.least b.least
      (Isomorphic-trans t s t' a.table (Isomorphic-sym s t is a.renumbering) (Isomorphic-trans s s' t' is iso b.renumbering))),
)

-- a table that is isomorphic to a symbol is a symbol
pub copy_is_symbol : (s t : Symbol) → IsSymbol s → IsTable t → Isomorphic s t → IsSymbol t
copy_is_symbol s t is it (f, iso) = IsSymbol-along s t f is iso (record { lengths = it.lengths; m01_length = it.m01_length; m12_length = it.m12_length })

pub least_as_table : (s : Symbol) → IsSymbol s → Least s → LeastTable s
least_as_table s is least t it iso = least t (copy_is_symbol s t is it iso) iso

pub least_as_symbol : (s : Symbol) → LeastTable s → Least s
least_as_symbol s least t it iso = least t it.table iso

pub form_as_table : (s t : Symbol) → IsLeastForm s t → IsLeastTableForm s t
form_as_table s t form = record { table = form.symbol.table; renumbering = form.renumbering; least = least_as_table t form.symbol form.least }

pub form_as_symbol : (s t : Symbol) → IsSymbol s → IsLeastTableForm s t → IsLeastForm s t
form_as_symbol s t is form = record { symbol = copy_is_symbol s t is form.table form.renumbering; renumbering = form.renumbering; least = least_as_symbol t form.least }

-- Each connected symbol has a least form.
pub symbol_form_exists : (s : Symbol) → IsSymbol s → Connected s → (t : Symbol) × IsLeastForm s t
symbol_form_exists s is con = let found = least_form_exists s is.table con in (found.0, form_as_symbol s found.0 is found.1)

-- Isomorphic symbols are those with equal least forms.
pub same_least_forms : (s s' t t' : Symbol) → IsSymbol s → IsSymbol s' → IsLeastForm s t → IsLeastForm s' t' → t ≡ t' ↔ Isomorphic s s'
same_least_forms s s' t t' is is' a b = same_table_forms s s' t t' is.table is'.table (form_as_table s t a) (form_as_table s' t' b)

-- a catalogue has a member that is isomorphic to each wanted symbol
pub member_exists : (q : Request) (ss : List Symbol) (s : Symbol) → IsCatalogue q ss → Wanted q s → (t : Symbol) × Contains ss t × IsLeastForm s t
member_exists q ss s cat wanted =
    let found = symbol_form_exists s wanted.symbol wanted.connected in
    let t = found.0 in
    let form = found.1 in
    let it = form.symbol.table in
    let ls : HaveLengths t = record { lengths = it.lengths; m01_length = it.m01_length; m12_length = it.m12_length } in
    let there = form.renumbering in
    (t, (cat.members t).1 (record { wanted = wanted-along q s t there.0 ls there.1 wanted; least = form.least }), form)

-- and no other
pub member_unique : (q : Request) (ss : List Symbol) (s t u : Symbol) → IsCatalogue q ss → IsSymbol s → Contains ss t → Contains ss u → Isomorphic s t → Isomorphic s u → t ≡ u
member_unique q ss s t u cat is ht hu there there' =
    let mt = (cat.members t).0 ht in
    let mu = (cat.members u).0 hu in
    least_unique t u mt.wanted.symbol mu.wanted.symbol mt.least mu.least
    (Isomorphic-trans t s u mt.wanted.symbol.table (Isomorphic-sym s t is.table there) there')
