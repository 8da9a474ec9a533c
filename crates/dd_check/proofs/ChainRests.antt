-- Where a text exists, the lines from a position to the end are the text from there.
use Rattle.std.proofs.Common.{◌≡◌, ℕ, ◌+◌, List, [], ◌∷◌, ◌++◌, length, refl, sym, ◌∙◌, subst, inl, inr, ⊎_elim}
use Rattle.std.proofs.lemmas.List.Elements.{Contains-append_right, Contains-append_left, Contains-append_cases}
use Rattle.std.specs.List.{Contains}
use Rattle.dd_model.specs.Symbol.{Symbol}
use Rattle.dd_model.specs.Code.{IsBelow}
use Rattle.dd_model.specs.Lists.{IsWithout}
use Rattle.dd_model.specs.Position.{IsBefore}
use Rattle.dd_model.specs.Text.{AreLines}
use Rattle.dd_model.specs.Wanted.{IsAscending}
use Rattle.dd_model.specs.declared.jobs.Position.{Position}
use Rattle.dd_model.specs.declared.jobs.Position.TheVariants.{End}
use Rattle.dd_front_jobs.specs.declared.portions.Portion.{Portion}
use Rattle.dd_front_jobs.specs.Portions.{IsPortionMember, ArePortionMembers, IsPortionText}
use Rattle.dd_front_jobs.proofs.PortionLaws.{portion_symbol, told_text, members_unique}
use Rattle.dd_model.proofs.Ascending.{ascending-append}
use Rattle.dd_model.proofs.Lists.{cons_tail}
use Rattle.dd_model.proofs.Pairs.{ascending_pairs, pairs_ascending}
use Rattle.dd_model.proofs.Positions.{before_or_not, below_over}
use Rattle.dd_model.proofs.Texts.{lines_unique}
use Rattle.dd_model.proofs.Without.{without_kept, without_pairs, without_there}
use Rattle.dd_check.specs.Texts.{Text}
use Rattle.dd_check.specs.Between.{AreMembersBetween, AreLinesBetween}
use Rattle.dd_check.proofs.Fronts.{without_some}

same_behind : (ws xs ys : List Symbol) → ws ++ xs ≡ ws ++ ys → xs ≡ ys
same_behind [] xs ys e = e
same_behind (w ∷ ws) xs ys e = same_behind ws xs ys (cons_tail w w (ws ++ xs) (ws ++ ys) e)

-- what is left of an ascending list ascends
left_ascending : (P : Symbol → Type 0) (ss ts : List Symbol) → IsAscending ss → IsWithout P ss ts → IsAscending ts
left_ascending P ss ts ascending is = pairs_ascending ts (without_pairs P IsBelow ss ts is (ascending_pairs ss ascending))

-- what is not before a position are the members from there to the end
later_between : (q : Portion) (at : Position) (all later : List Symbol) → ArePortionMembers q all → IsWithout (IsBefore at) all later → AreMembersBetween q at End later
later_between q at all later catalogue is = record {
  ascending = left_ascending (IsBefore at) all later catalogue.ascending is;
  members = λ s. (
    (λ there. let left = without_there (IsBefore at) all later s is there in record { member = (catalogue.members s).0 left.0; later = left.1; earlier = tt }),
    (λ p. without_kept (IsBefore at) all later s is ((catalogue.members s).1 p.member) p.later),
  );
}

-- those before it, and all from there to the end, are all members
module _ (q : Portion) (at : Position) (all early : List Symbol) (catalogue : ArePortionMembers q all) (is : IsWithout (λ s. ¬ IsBefore at s) all early) where
  early_before : (s : Symbol) → Contains early s → IsPortionMember q s × IsBefore at s
  early_before s there =
      let left = without_there (λ u. ¬ IsBefore at u) all early s is there in
      ((catalogue.members s).0 left.0, ⊎_elim (λ before. before) (λ not. absurd (left.1 not)) (before_or_not at s))

  early_and : (later : List Symbol) → AreMembersBetween q at End later → ArePortionMembers q (early ++ later)
  early_and later are = record {
    ascending = ascending-append early later (left_ascending (λ s. ¬ IsBefore at s) all early catalogue.ascending is) are.ascending
        (λ s t hs ht.
        let a = early_before s hs in
        let b = (are.members t).0 ht in
        below_over at s t (portion_symbol q s a.0).table (portion_symbol q t b.member).table a.1 b.later);
    members = λ s. (
      (λ there. ⊎_elim (λ first. (early_before s first).0) (λ last. ((are.members s).0 last).member) (Contains-append_cases early later s there)),
      (λ member. ⊎_elim
          (λ before. Contains-append_left early later s (without_kept (λ u. ¬ IsBefore at u) all early s is ((catalogue.members s).1 member) (λ not. not before)))
          (λ not. Contains-append_right early later s ((are.members s).1 (record { member = member; later = not; earlier = tt })))
          (before_or_not at s)),
    );
  }

  one_rest : (xs ys : List Symbol) → AreMembersBetween q at End xs → AreMembersBetween q at End ys → xs ≡ ys
  one_rest xs ys hx hy =
      same_behind early xs ys
      (members_unique q (early ++ xs) all (early_and xs hx) catalogue ∙ sym (members_unique q (early ++ ys) all (early_and ys hy) catalogue))

pub rest_is_text : (q : Portion) (at : Position) (k l : ℕ) (bytes text : Text) → AreLinesBetween q at End k l bytes → IsPortionText q at k text → bytes ≡ text
rest_is_text q at k l bytes text x is =
    let t = told_text q at k text is in
    let early = without_some (λ s. ¬ IsBefore at s) (λ s. ⊎_elim (λ before. inr (λ not. not before)) (λ not. inl not) (before_or_not at s)) t.members in
    let same = one_rest q at t.members early.0 t.catalogue early.1 x.members t.later x.between (later_between q at t.members t.later t.catalogue t.not_before) in
    lines_unique k t.later bytes text (subst (λ ss. AreLines k ss bytes) same x.lines) t.lines

-- and the text from a position is these lines
pub text_is_rest : (q : Portion) (at : Position) (k : ℕ) (text : Text) → IsPortionText q at k text → (l : ℕ) × AreLinesBetween q at End k l text
text_is_rest q at k text is =
    let t = told_text q at k text is in (
      k + length t.later,
      record { members = t.later; between = later_between q at t.members t.later t.catalogue t.not_before; no_earlier = λ s member before. tt; count = refl; lines = t.lines },
    )
