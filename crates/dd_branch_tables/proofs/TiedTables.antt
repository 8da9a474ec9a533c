-- The numberings of a symbol beside those of its table with branching values 1.
use Rattle.std.proofs.Common.{◌≡◌, ◌≢◌, ℕ, List, sym, ap, ◌∙◌, subst, inl, inr, ⊎_elim, arith}
use Rattle.std.proofs.lemmas.Bool.{cases_lt}
use Rattle.std.specs.List.{Contains}
use Rattle.std.specs.Ordering.{nat_cmp}
use Rattle.std.specs.Cmp.Lexicographic.{slice_cmp}
use Rattle.std.specs.declared.cmp.Ordering.TheVariants.{Less, Greater}
use Rattle.std.proofs.lemmas.Map.Lookups.{exact_bytes}
use Rattle.dd_model.specs.Symbol.{Symbol, IsTable, IsSymbol, IsChamber}
use Rattle.dd_model.specs.Connected.{Connected}
use Rattle.dd_model.specs.Lists.{Begins}
use Rattle.dd_model.specs.Isomorphic.{IsIsomorphism}
use Rattle.dd_model.specs.Code.{code, all_images, code_cmp, count_from, Least}
use Rattle.dd_model.specs.FirstVisit.{Grows, IsFirstVisit, IsNumberedFrom}
use Rattle.dd_model.specs.Wanted.{IsMember}
use Rattle.dd_model.specs.declared.requests.Request.{Request}
use Rattle.dd_model.specs.Involutions.{HaveSameInvolutions}
use Rattle.dd_model.proofs.CountFrom.{item-count_from}
use Rattle.dd_model.proofs.Isomorphisms.{identity_isomorphism, Isomorphic-refl}
use Rattle.dd_model.proofs.LeastForms.{copy_is_symbol, least_of_best, not_above, numbered_unique}
use Rattle.dd_model.proofs.SameInvolutions.{same-sym}
use Rattle.dd_canon.specs.Ties.{AreTies, IsLeastFrom}
use Rattle.dd_branch_tables.specs.Table.{IsUnbranched}
use Rattle.dd_branch_tables.proofs.BareTables.{IsBare, bare_least, carried, images_alike, unbranched_along}
use Rattle.dd_branch_tables.proofs.Follows.{member_orderly}
use Rattle.dd_branch_tables.proofs.TableFronts.{front_same}
use Rattle.dd_branch_tables.proofs.Unbranched.{unbranched_unique}
use Rattle.dd_branch_tables.proofs.WalkOrder.{below_by_images, length-front, own_begins, three, turned_round}

-- A symbol with branching values 1 is told by its images.
same_by_images : (t u : Symbol) (f : List ℕ) → IsSymbol t → IsUnbranched t → IsTable u → IsIsomorphism t u f → all_images t ≡ all_images u → t ≡ u
same_by_images t u f it ones iu iso images =
    let alike : HaveSameInvolutions t u = front_same u t (all_images t) iu it.table iso.size (length-front t) (own_begins t) (subst (λ xs. Begins xs (code u)) (sym images) (own_begins u)) in
    unbranched_unique t u it (copy_is_symbol t u it iu (f, iso)) ones (unbranched_along t u f it.table iu ones iso) alike

-- Where the numbering of a bare table from a chamber is larger, so is that of each symbol with its involutions.
pub not_above_larger : (s t : Symbol) → IsTable s → IsBare s t → (d : ℕ) → ((v : Symbol) → IsNumberedFrom t d v → code_cmp v t ≡ Greater) → (u : Symbol) → IsNumberedFrom s d u → code_cmp s u ≢ Greater
not_above_larger s t is bare d larger u a =
    let other = carried t s u a.map bare.symbol.table (same-sym s t bare.same) a.table a.isomorphism in
    let v = other.0 in
    let images : all_images v ≡ all_images u = images_alike u v other.1.same in
    let great : code_cmp v t ≡ Greater = larger v (record { table = other.1.table; map = a.map; isomorphism = other.1.renumbering; start_first = a.start_first; first_visit = subst (Grows 1) (sym images) a.first_visit }) in
    ⊎_elim
    (λ less. absurd (
    let lower : slice_cmp nat_cmp (all_images v) (all_images t) ≡ Less =
    ap (λ xs. slice_cmp nat_cmp xs (all_images t)) images ∙ ap (slice_cmp nat_cmp (all_images u)) (images_alike s t bare.same) ∙ less in
    let below = below_by_images v t other.1.renumbering.size lower in cc))
    (λ others. ⊎_elim
    (λ tied. absurd (
    let same : all_images t ≡ all_images v = images_alike s t bare.same ∙ sym (exact_bytes (all_images u) (all_images s) tied) ∙ sym images in
    let equal = same_by_images t v a.map bare.symbol bare.unbranched other.1.table other.1.renumbering same in
    not_above v t (inr (sym equal)) great))
    (λ more. not_above s u (inl (below_by_images s u (sym a.isomorphism.size) (turned_round (all_images u) (all_images s) more))))
    others)
    (three (slice_cmp nat_cmp (all_images u) (all_images s)))

-- what is numbered from chamber 1 has no other numbering from there
pub own_numbering : (s t u : Symbol) → IsTable s → Connected s → HaveSameInvolutions s t → IsFirstVisit t → IsNumberedFrom s 1 u → code_cmp s u ≢ Greater
own_numbering s t u is con same visit a =
    let pos = is.chambers in
    let own : IsNumberedFrom s 1 s = record {
      table = is;
      map = count_from 1 s.size;
      isomorphism = identity_isomorphism s is;
      start_first = item-count_from s.size 1 (omega arith) pos;
      first_visit = subst (Grows 1) (images_alike s t same) visit;
    } in
    not_above s u (inr (numbered_unique s s u 1 is con (omega arith, pos) own a))

-- A symbol is least where no numbering from a tie of its table is smaller.
pub least_of_ties : (s t : Symbol) (ds : List ℕ) → IsSymbol s → Connected s → IsBare s t → AreTies t ds → IsLeastFrom s ds → Least s
least_of_ties s t ds is con bare ties least =
    let size = bare.same.size in
    let some = bare.symbol.table.chambers in
    let best = least_of_best s s is.table con is.table (Isomorphic-refl s is.table) (λ d u low high a.
    ⊎_elim
    (λ first. let one : d ≡ 1 = omega (arith, first, low) in own_numbering s t u is.table con bare.same (ties.first some) (subst (λ c. IsNumberedFrom s c u) one a))
    (λ later. ⊎_elim
    (λ there. least.none d u there a)
    (λ larger. not_above_larger s t is.table bare d larger u a)
    (ties.others d low (omega (arith, high, size)) (λ one. omega (arith, one, later))))
    (cases_lt d 2)) in
    λ v iv there. best.least v iv.table there

-- and each least one is so
pub ties_of_least : (s : Symbol) (ds : List ℕ) → IsSymbol s → ((d : ℕ) → Contains ds d → IsChamber s d) → Least s → IsLeastFrom s ds
ties_of_least s ds is chambers least = record { none = λ d u there a. least u (copy_is_symbol s u is a.table (a.map, a.isomorphism)) (a.map, a.isomorphism) }

-- with a symbol its table is least
pub table_of_least : (q : Request) (s t : Symbol) → IsMember q s → IsBare s t → Least t
table_of_least q s t member bare = λ v iv there. bare_least s t (member_orderly q s member) bare v iv.table there
