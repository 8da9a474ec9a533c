-- Lines up to a position, and the lines from there.
use Rattle.std.proofs.Common.{ℕ, [], ◌++◌, refl, subst, inl, inr, ⊎_elim, arith}
use Rattle.std.proofs.lemmas.List.{length-append}
use Rattle.std.proofs.lemmas.List.Elements.{Contains-append_right, Contains-append_left, Contains-append_cases}
use Rattle.std.specs.List.{Contains}
use Rattle.dd_model.specs.Symbol.{Symbol, IsSymbol}
use Rattle.dd_model.specs.Code.{IsBelow}
use Rattle.dd_model.specs.Text.{AreLines, beginning}
use Rattle.dd_model.specs.declared.jobs.Position.{Position}
use Rattle.dd_model.specs.declared.jobs.Position.TheVariants.{End}
use Rattle.dd_front_jobs.specs.declared.portions.Portion.{Portion}
use Rattle.dd_front_jobs.specs.Portions.{ArePortionMembers, IsPortionText}
use Rattle.dd_front_jobs.proofs.PortionLaws.{portion_symbol, text_from}
use Rattle.dd_model.proofs.Ascending.{ascending-append}
use Rattle.dd_model.proofs.Lists.{Contains-none, all_from_members}
use Rattle.dd_model.proofs.Positions.{before_or_not, below_over}
use Rattle.dd_model.proofs.Texts.{all_from_beginning, joined_lines, nothing_before}
use Rattle.dd_check.specs.Texts.{Text}
use Rattle.dd_check.specs.Between.{IsMemberBetween, AreLinesBetween, AreFirstLines}

-- nothing is between a position and itself
pub no_lines : (q : Portion) (at : Position) (k : ℕ) → AreLinesBetween q at at k k []
no_lines q at k = record {
  members = [];
  between = record { ascending = tt; members = λ s. ((λ there. absurd (Contains-none s there)), (λ p. absurd (p.later p.earlier))) };
  no_earlier = λ s member h. h;
  count = omega arith;
  lines = refl;
}

-- the lines up to a position, and the lines from there to another
pub joined_between : (q : Portion) (from at to : Position) (k l m : ℕ) (a b : Text) → AreLinesBetween q from at k l a → AreLinesBetween q at to l m b → AreLinesBetween q from to k m (a ++ b)
joined_between q from at to k l m a b x y = record {
  members = x.members ++ y.members;
  between = record {
    ascending = ascending-append x.members y.members x.between.ascending y.between.ascending below;
    members = λ s. (parted s, joined s);
  };
  no_earlier = λ s member h. y.no_earlier s member (x.no_earlier s member h);
  count = let e = length-append x.members y.members in let c = x.count in let d = y.count in omega (arith, e, c, d);
  lines = joined_lines k x.members y.members a b x.lines (subst (λ n. AreLines n y.members b) x.count y.lines);
}
  where
    below : (s t : Symbol) → Contains x.members s → Contains y.members t → IsBelow s t
    below s t hs ht =
        let early = (x.between.members s).0 hs in
        let late = (y.between.members t).0 ht in
        below_over at s t (portion_symbol q s early.member).table (portion_symbol q t late.member).table early.earlier late.later

    parted : (s : Symbol) → Contains (x.members ++ y.members) s → IsMemberBetween q from to s
    parted s there =
        ⊎_elim
        (λ early. let p = (x.between.members s).0 early in record { member = p.member; later = p.later; earlier = y.no_earlier s p.member p.earlier })
        (λ late. let p = (y.between.members s).0 late in record { member = p.member; later = λ h. p.later (x.no_earlier s p.member h); earlier = p.earlier })
        (Contains-append_cases x.members y.members s there)

    joined : (s : Symbol) → IsMemberBetween q from to s → Contains (x.members ++ y.members) s
    joined s p =
        ⊎_elim
        (λ before. Contains-append_left x.members y.members s ((x.between.members s).1 (record { member = p.member; later = p.later; earlier = before })))
        (λ not. Contains-append_right x.members y.members s ((y.between.members s).1 (record { member = p.member; later = not; earlier = p.earlier })))
        (before_or_not at s)

-- the members from the beginning to the end are those of the portion
pub whole_members : (q : Portion) (l : ℕ) (a : Text) → (x : AreLinesBetween q beginning End 0 l a) → ArePortionMembers q x.members
whole_members q l a x = record {
  ascending = x.between.ascending;
  members = λ s. (
    (λ there. ((x.between.members s).0 there).member),
    (λ member. (x.between.members s).1 (record { member = member; later = nothing_before s (portion_symbol q s member); earlier = tt })),
  );
}

-- and their lines its text
pub whole_text : (q : Portion) (l : ℕ) (a : Text) → AreLinesBetween q beginning End 0 l a → IsPortionText q beginning 0 a
whole_text q l a x = text_from q beginning 0 a (record {
  members = x.members;
  catalogue = whole_members q l a x;
  later = x.members;
  not_before = all_from_beginning x.members (all_from_members IsSymbol x.members (λ s there. portion_symbol q s ((x.between.members s).0 there).member));
  lines = x.lines;
})

-- those from the beginning to any position are its first lines
pub first_lines : (q : Portion) (at : Position) (l : ℕ) (a : Text) → AreLinesBetween q beginning at 0 l a → AreFirstLines q l a
first_lines q at l a x = record {
  members = x.members;
  first = record {
    ascending = x.between.ascending;
    members = λ s there. ((x.between.members s).0 there).member;
    first = λ s member.
        ⊎_elim
        (λ before. inl ((x.between.members s).1 (record { member = member; later = nothing_before s (portion_symbol q s member); earlier = before })))
        (λ not. inr (all_from_members (λ m. IsBelow m s) x.members (λ m there.
        let p = (x.between.members m).0 there in
        below_over at m s (portion_symbol q m p.member).table (portion_symbol q s member).table p.earlier not)))
        (before_or_not at s);
  };
  count = let c = x.count in omega (arith, c);
  lines = x.lines;
}
