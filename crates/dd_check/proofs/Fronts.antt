-- The lines up to a position are a front of each text.
use Rattle.std.proofs.Common.{◌≡◌, ◌⊎◌, ℕ, ◌+◌, List, [], ◌∷◌, ◌++◌, length, refl, sym, ap, ◌∙◌, subst, inr, ⊎_elim}
use Rattle.std.proofs.lemmas.List.Elements.{Contains-append_right, Contains-append_left, Contains-append_cases}
use Rattle.std.specs.List.{Contains}
use Rattle.dd_model.specs.Symbol.{Symbol, IsSymbol}
use Rattle.dd_model.specs.Code.{IsBelow}
use Rattle.dd_model.specs.Lists.{Begins, IsWithout}
use Rattle.dd_model.specs.Position.{IsBefore}
use Rattle.dd_model.specs.Text.{AreLines, beginning}
use Rattle.dd_model.specs.declared.jobs.Position.{Position}
use Rattle.dd_front_jobs.specs.declared.portions.Portion.{Portion}
use Rattle.dd_front_jobs.specs.Portions.{IsPortionMember, ArePortionMembers, IsPortionText}
use Rattle.dd_front_jobs.proofs.PortionLaws.{IsTold, portion_symbol, told_text, text_from, members_unique}
use Rattle.dd_model.proofs.Ascending.{ascending-append}
use Rattle.dd_model.proofs.Lists.{all_from_members}
use Rattle.dd_model.proofs.Pairs.{ascending_pairs, pairs_ascending}
use Rattle.dd_model.proofs.Positions.{before_or_not, below_over}
use Rattle.dd_model.proofs.Texts.{all_from_beginning, lines_unique, nothing_before, split_lines}
use Rattle.dd_model.proofs.Without.{without_first, without_kept, without_pairs, without_there, without_unique}
use Rattle.dd_check.specs.Texts.{Text}
use Rattle.dd_check.specs.Between.{AreLinesBetween}

-- what is left of a list is told by a test
pub without_some : {A : Type 0} (P : A → Type 0) → ((x : A) → P x ⊎ ¬ P x) → (xs : List A) → (ys : List A) × IsWithout P xs ys
without_some P decide [] = ([], tt)
without_some P decide (x ∷ xs) =
    let rest = without_some P decide xs in
    ⊎_elim (λ holds. (rest.0, without_first P x xs rest.0 holds rest.1)) (λ not. (x ∷ rest.0, inr (not, refl, rest.1))) (decide x)

-- a text from the beginning is the lines up to a position, and the text from there
pub record IsParted (q : Portion) (at : Position) (l : ℕ) (a text : Text) : Type 0 where
  pub rest : Text
  pub from : IsPortionText q at l rest
  pub text_is : text ≡ a ++ rest

pub parted_text : (q : Portion) (at : Position) (l : ℕ) (a text : Text) → AreLinesBetween q beginning at 0 l a → IsPortionText q beginning 0 text → IsParted q at l a text
parted_text q at l a text x is = record {
  rest = parts.1;
  from = text_from q at l parts.1 (record {
    members = t.members;
    catalogue = t.catalogue;
    later = left.0;
    not_before = left.1;
    lines = subst (λ n. AreLines n left.0 parts.1) (sym x.count) parts.3;
  });
  text_is = parts.4 ∙ ap (λ z. z ++ parts.1) (lines_unique 0 x.members parts.0 a parts.2 x.lines);
}
  where
    t : IsTold q beginning 0 text
    t = told_text q beginning 0 text is

    left : (ss : List Symbol) × IsWithout (IsBefore at) t.members ss
    left = without_some (IsBefore at) (before_or_not at) t.members

    below : (s u : Symbol) → Contains x.members s → Contains left.0 u → IsBelow s u
    below s u hs hu =
        let early = (x.between.members s).0 hs in
        let late = without_there (IsBefore at) t.members left.0 u left.1 hu in
        let member = (t.catalogue.members u).0 late.0 in
        below_over at s u (portion_symbol q s early.member).table (portion_symbol q u member).table early.earlier late.1

    member_of : (s : Symbol) → Contains (x.members ++ left.0) s → IsPortionMember q s
    member_of s there =
        ⊎_elim
        (λ early. ((x.between.members s).0 early).member)
        (λ late. (t.catalogue.members s).0 (without_there (IsBefore at) t.members left.0 s left.1 late).0)
        (Contains-append_cases x.members left.0 s there)

    there_is : (s : Symbol) → IsPortionMember q s → Contains (x.members ++ left.0) s
    there_is s member =
        ⊎_elim
        (λ before. Contains-append_left x.members left.0 s
        ((x.between.members s).1 (record { member = member; later = nothing_before s (portion_symbol q s member); earlier = before })))
        (λ not. Contains-append_right x.members left.0 s (without_kept (IsBefore at) t.members left.0 s left.1 ((t.catalogue.members s).1 member) not))
        (before_or_not at s)

    joined : ArePortionMembers q (x.members ++ left.0)
    joined = record {
      ascending = ascending-append x.members left.0 x.between.ascending
          (pairs_ascending left.0 (without_pairs (IsBefore at) IsBelow t.members left.0 left.1 (ascending_pairs t.members t.catalogue.ascending))) below;
      members = λ s. (member_of s, there_is s);
    }

    all_later : t.later ≡ x.members ++ left.0
    all_later =
        without_unique (IsBefore beginning) t.members t.later t.members t.not_before
        (all_from_beginning t.members (all_from_members IsSymbol t.members (λ s there. portion_symbol q s ((t.catalogue.members s).0 there))))
        ∙ members_unique q t.members (x.members ++ left.0) t.catalogue joined

    parts : (b : Text) × (c : Text) × AreLines 0 x.members b × AreLines (0 + length x.members) left.0 c × (text ≡ b ++ c)
    parts = split_lines 0 x.members left.0 text (subst (λ ss. AreLines 0 ss text) all_later t.lines)

-- a front of what comes behind a text
pub begins_behind : (xs ys zs : Text) → Begins ys zs → Begins (xs ++ ys) (xs ++ zs)
begins_behind [] ys zs b = b
begins_behind (x ∷ xs) ys zs b = (refl, begins_behind xs ys zs b)
