-- The starts from which a symbol may be numbered as it stands.
use Rattle.std.proofs.Common.{◌≡◌, ◌≢◌, ◌⊎◌, ℕ, false, true, ◌+◌, ◌<◌, ◌≤◌, List, [], ◌∷◌, ◌++◌, length, get_or, sym, ap, ◌∙◌, subst, inl, inr, ⊎_elim, arith}
use Rattle.std.proofs.lemmas.Bool.{cases_lt}
use Rattle.std.proofs.lemmas.List.{get_or_default}
use Rattle.std.proofs.lemmas.List.Elements.{Contains-append_left, Contains-append_right, Contains-append_cases}
use Rattle.std.specs.List.{Contains}
use Rattle.std.specs.Ordering.{is_lt, ordering_reverse}
use Rattle.std.specs.declared.cmp.Ordering.{Ordering}
use Rattle.std.specs.declared.cmp.Ordering.TheVariants.{Less, Greater}
use Rattle.dd_model.specs.Symbol.{Symbol, IsTable, IsSymbol, IsChamber}
use Rattle.dd_model.specs.Connected.{Connected}
use Rattle.dd_model.specs.Code.{code_cmp, count_from}
use Rattle.dd_model.specs.FirstVisit.{IsFirstVisit, IsNumberedFrom}
use Rattle.dd_model.proofs.Codes.{code_cmp_total}
use Rattle.dd_model.proofs.CountFrom.{item-count_from}
use Rattle.dd_model.proofs.Isomorphisms.{identity_isomorphism}
use Rattle.dd_model.proofs.LeastForms.{below_back, numbered_wins}
use Rattle.dd_model.proofs.Lists.{Contains-head, Contains-one}
use Rattle.dd_model.proofs.Numberings.{numbered_from}
use Rattle.dd_canon.specs.Standing.{IsStanding}
use Rattle.dd_canon.specs.Ties.{AreTiesTo, IsLeastFrom}
use Rattle.dd_canon.proofs.OrderLemmas.{less_of}

-- what is not beaten from chamber 1 is numbered from there
first_of_standing : (s : Symbol) (o : Ordering) → IsTable s → Connected s → IsStanding s s 1 o → is_lt o ≡ false → IsFirstVisit s
first_of_standing s o is con standing not_less =
    let pos = is.chambers in
    let one : IsChamber s 1 = (omega arith, pos) in
    let u = numbered_from s 1 is con one in
    ⊎_elim
    (λ less. let stands = standing.stands u.0 u.1 in let now : is_lt o ≡ true = ap is_lt (sym stands ∙ less) in absurd (cc))
    (λ same. subst IsFirstVisit same u.1.first_visit)
    (numbered_wins s u.0 s 1 (count_from 1 s.size) is con one u.1 is (identity_isomorphism s is) (item-count_from s.size 1 (omega arith) pos))

-- one start more
pub more_ties : (s : Symbol) (k : ℕ) (ds new : List ℕ) (o : Ordering) → IsTable s → Connected s → IsChamber s (k + 1) → AreTiesTo s k ds → IsStanding s s (k + 1) o → is_lt o ≡ false
    → (new ≡ ds ++ (k + 1) ∷ []) ⊎ (((o ≡ Greater) ⊎ (k + 1 ≡ 1)) × (new ≡ ds)) → AreTiesTo s (k + 1) new
more_ties s k ds new o is con h old standing not_less kept = record {
  chambers = λ d there. ⊎_elim
      (λ longer. ⊎_elim (λ early. old.chambers d early) (λ late. subst (IsChamber s) (Contains-one (k + 1) d late) h) (Contains-append_cases ds ((k + 1) ∷ []) d (subst (λ xs. Contains xs d) longer there)))
      (λ same. old.chambers d (subst (λ xs. Contains xs d) same.1 there))
      kept;
  first = λ some. ⊎_elim
      (λ start. let e : k + 1 ≡ 1 = omega (arith, start) in first_of_standing s o is con (subst (λ d. IsStanding s s d o) e standing) not_less)
      (λ later. old.first later)
      (cases_lt k 1);
  others = λ d low high other. ⊎_elim
      (λ early. ⊎_elim
      (λ there. inl (⊎_elim (λ longer. subst (λ xs. Contains xs d) (sym longer) (Contains-append_left ds ((k + 1) ∷ []) d there)) (λ same. subst (λ xs. Contains xs d) (sym same.1) there) kept))
      (λ larger. inr larger)
      (old.others d low (omega (arith, early)) other))
      (λ late.
      let e : k + 1 ≡ d = omega (arith, late, high) in
      ⊎_elim
      (λ longer. inl (subst (λ xs. Contains xs d) (sym longer) (Contains-append_right ds ((k + 1) ∷ []) d (subst (λ x. Contains ((k + 1) ∷ []) x) e (Contains-head (k + 1) [])))))
      (λ same. ⊎_elim
      (λ great. inr (λ u a. standing.stands u (subst (λ c. IsNumberedFrom s c u) (sym e) a) ∙ great))
      (λ one. absurd (other (sym e ∙ one)))
      same.0)
      kept)
      (cases_lt d (k + 1));
}

-- ## Some starts

-- the first k starts
pub record IsLeastFromFirst (s : Symbol) (ds : List ℕ) (k : ℕ) : Type 0 where
  pub none : (j : ℕ) (u : Symbol) → j < k → IsNumberedFrom s (get_or ds j 0) u → code_cmp s u ≢ Greater

pub none_smaller : (s : Symbol) (ds : List ℕ) → IsLeastFromFirst s ds 0
none_smaller s ds = record { none = λ j u low. absurd (omega (arith, low)) }

pub next_start : (s : Symbol) (ds : List ℕ) (k : ℕ) (o : Ordering) → IsLeastFromFirst s ds k → IsStanding s s (get_or ds k 0) o → is_lt o ≡ false → IsLeastFromFirst s ds (k + 1)
next_start s ds k o old standing not_less = record {
  none = λ j u low a. ⊎_elim
      (λ early. old.none j u early a)
      (λ late great.
      let e : j ≡ k = omega (arith, low, late) in
      let stands : code_cmp u s ≡ o = standing.stands u (subst (λ i. IsNumberedFrom s (get_or ds i 0) u) e a) in
      let less : code_cmp u s ≡ Less = code_cmp_total.antisymm u s ∙ ap ordering_reverse great in
      let now : is_lt o ≡ true = ap is_lt (sym stands ∙ less) in
      cc)
      (cases_lt j k);
}

pub all_starts : (s : Symbol) (ds : List ℕ) (k : ℕ) → length ds ≤ k → IsLeastFromFirst s ds k → IsLeastFrom s ds
all_starts s ds k end all = record {
  none = λ d u there a.
      let low = there.1 in
      let at : d ≡ get_or ds there.0 0 = sym there.2 ∙ get_or_default ds there.0 d 0 low in
      all.none there.0 u (omega (arith, low, end)) (subst (λ c. IsNumberedFrom s c u) at a);
}

-- a start from which a numbering is smaller
pub smaller_start : (s : Symbol) (ds : List ℕ) (k : ℕ) (o : Ordering) → IsSymbol s → Connected s → IsChamber s (get_or ds k 0) → k < length ds → IsStanding s s (get_or ds k 0) o → is_lt o ≡ true → IsLeastFrom s ds → ⊥
smaller_start s ds k o is con h low standing less least =
    let u = numbered_from s (get_or ds k 0) is.table con h in
    least.none (get_or ds k 0) u.0 (k, low, get_or_default ds k (get_or ds k 0) 0 low) u.1 (below_back u.0 s (standing.stands u.0 u.1 ∙ less_of o less))
