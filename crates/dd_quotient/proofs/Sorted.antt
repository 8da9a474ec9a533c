-- What is decided of tables is an ascending list of some of them.
use Rattle.std.proofs.Common.{◌≡◌, ◌⊎◌, ◌↔◌, List, [], ◌∷◌, refl, sym, ◌∙◌, subst, inl, inr, ⊎_elim}
use Rattle.std.specs.List.{AllByRecursion, Contains}
use Rattle.std.specs.Ordering.{ordering_reverse}
use Rattle.std.specs.declared.cmp.Ordering.{Ordering}
use Rattle.std.specs.declared.cmp.Ordering.TheVariants.{Less, Equal, Greater}
use Rattle.dd_model.specs.Symbol.{Symbol, IsTable}
use Rattle.dd_model.specs.Code.{code_cmp, IsBelow}
use Rattle.dd_model.specs.Wanted.{IsAscending}
use Rattle.dd_model.proofs.CellSearch.{Decided}
use Rattle.dd_model.proofs.Codes.{code_cmp_total, same_from_code_cmp}
use Rattle.dd_model.proofs.Lists.{Contains-none, Contains-head, Contains-later, Contains-cases, all_from_members, each_of}

compared : (s t : Symbol) → IsTable s → IsTable t → (s ≡ t) ⊎ (IsBelow s t ⊎ IsBelow t s)
compared s t is it = by (code_cmp s t) (code_cmp t s) (code_cmp_total.antisymm t s) refl refl
  where
    by : (a b : Ordering) → b ≡ ordering_reverse a → code_cmp s t ≡ a → code_cmp t s ≡ b → (s ≡ t) ⊎ (IsBelow s t ⊎ IsBelow t s)
    by Less b r ha hb = inr (inl ha)
    by Equal b r ha hb = inl (same_from_code_cmp s t is it ha)
    by Greater b r ha hb = inr (inr (subst (λ o. code_cmp t s ≡ o) r hb))

-- the list with one symbol more
record IsInserted (s : Symbol) (ss ts : List Symbol) : Type 0 where
  pub ascending : IsAscending ts
  pub members : (u : Symbol) → Contains ts u ↔ ((s ≡ u) ⊎ Contains ss u)

in_front : (s : Symbol) (ss : List Symbol) → AllByRecursion (IsBelow s) ss → IsAscending ss → IsInserted s ss (s ∷ ss)
in_front s ss below up = record {
  ascending = (below, up);
  members = λ u. (
    λ there. Contains-cases s u ss there,
    λ h. ⊎_elim (λ e. subst (Contains (s ∷ ss)) e (Contains-head s ss)) (λ later. Contains-later s u ss later) h,
  );
}

already_there : (s t : Symbol) (ss : List Symbol) → s ≡ t → IsAscending (t ∷ ss) → IsInserted s (t ∷ ss) (t ∷ ss)
already_there s t ss e up = record {
  ascending = up;
  members = λ u. (λ there. inr there, λ h. ⊎_elim (λ same. subst (Contains (t ∷ ss)) (sym e ∙ same) (Contains-head t ss)) (λ there. there) h);
}

after_first : (s t : Symbol) (ss ts : List Symbol) → IsBelow t s → IsAscending (t ∷ ss) → IsInserted s ss ts → IsInserted s (t ∷ ss) (t ∷ ts)
after_first s t ss ts below up i = record {
  ascending = (
    all_from_members (IsBelow t) ts (λ u there. ⊎_elim (λ e. subst (IsBelow t) e below) (λ old. each_of (IsBelow t) ss u up.0 old) ((i.members u).0 there)),
    i.ascending,
  );
  members = λ u. (
    λ there. ⊎_elim
        (λ e. inr (subst (Contains (t ∷ ss)) e (Contains-head t ss)))
        (λ later. ⊎_elim (λ e. inl e) (λ old. inr (Contains-later t u ss old)) ((i.members u).0 later))
        (Contains-cases t u ts there),
    λ h. ⊎_elim
        (λ e. Contains-later t u ts ((i.members u).1 (inl e)))
        (λ there. ⊎_elim
        (λ e. subst (Contains (t ∷ ts)) e (Contains-head t ts))
        (λ old. Contains-later t u ts ((i.members u).1 (inr old)))
        (Contains-cases t u ss there))
        h,
  );
}

inserted : (s : Symbol) (ss : List Symbol) → IsTable s → AllByRecursion IsTable ss → IsAscending ss → (ts : List Symbol) × IsInserted s ss ts
inserted s [] is all up = (s ∷ [], in_front s [] tt tt)
inserted s (t ∷ ss) is all up =
    ⊎_elim
    (λ e. (t ∷ ss, already_there s t ss e up))
    (λ apart. ⊎_elim
    (λ below. (s ∷ t ∷ ss, in_front s (t ∷ ss) (below, all_from_members (IsBelow s) ss (λ u there. code_cmp_total.trans s t u below (each_of (IsBelow t) ss u up.0 there))) up))
    (λ above. let rest = inserted s ss is all.1 up.1 in (t ∷ rest.0, after_first s t ss rest.0 above up rest.1))
    apart)
    (compared s t is all.0)

-- the ascending list of what P holds of among some candidates
pub record AreChosen (P : Symbol → Type 0) (from ss : List Symbol) : Type 0 where
  pub ascending : IsAscending ss
  pub holds : (s : Symbol) → Contains ss s → P s
  pub all : (s : Symbol) → Contains from s → P s → Contains ss s

chosen_more : (P : Symbol → Type 0) (s : Symbol) (from ss ts : List Symbol) → P s → AreChosen P from ss → IsInserted s ss ts → AreChosen P (s ∷ from) ts
chosen_more P s from ss ts here c i = record {
  ascending = i.ascending;
  holds = λ u there. ⊎_elim (λ e. subst P e here) (λ old. c.holds u old) ((i.members u).0 there);
  all = λ u there p. (i.members u).1 (⊎_elim (λ e. inl e) (λ later. inr (c.all u later p)) (Contains-cases s u from there));
}

chosen_no_more : (P : Symbol → Type 0) (s : Symbol) (from ss : List Symbol) → (P s → ⊥) → AreChosen P from ss → AreChosen P (s ∷ from) ss
chosen_no_more P s from ss fails c = record {
  ascending = c.ascending;
  holds = c.holds;
  all = λ u there p. ⊎_elim (λ e. absurd (fails (subst P (sym e) p))) (λ later. c.all u later p) (Contains-cases s u from there);
}

pub chosen : (P : Symbol → Type 0) → ((s : Symbol) → Decided (P s)) → ((s : Symbol) → P s → IsTable s) → (from : List Symbol) → (ss : List Symbol) × AreChosen P from ss
chosen P decide tables [] = ([], record { ascending = tt; holds = λ s none. absurd (Contains-none s none); all = λ s none p. absurd (Contains-none s none) })
chosen P decide tables (s ∷ from) =
    let c = chosen P decide tables from in
    ⊎_elim
    (λ here.
    let i = inserted s c.0 (tables s here) (all_from_members IsTable c.0 (λ u there. tables u (c.1.holds u there))) c.1.ascending in
    (i.0, chosen_more P s from c.0 i.0 here c.1 i.1))
    (λ fails. (c.0, chosen_no_more P s from c.0 fails c.1))
    (decide s)
