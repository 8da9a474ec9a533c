use Rattle.std.proofs.Common.{◌≤◌, refl, sym, subst, arith}
use Rattle.dd_covers.specs.CellNumbers.{IsCellNumber}
use Rattle.dd_covers.specs.Visits.{IsFirstStep}
use Rattle.dd_covers.proofs.SideListLemmas.{free_more, free_as_before}
use Rattle.dd_covers.proofs.free_sides.push_if_free.Goals as goal

pub returns-then-there-chamber : goal.returns-then-there-chamber
returns-then-there-chamber c =
    free_as_before c.args.symbol.now c.args.numbers.now c.args.i c.args.chamber c.args.sides.now.items
    (λ free. let least = free.least in let at = c.op-there.ensures.image in let less = c.if-there-chamber.true in omega arith) c.requires.sides

pub returns-then-is_first : goal.returns-then-is_first
returns-then-is_first c =
    free_as_before c.args.symbol.now c.args.numbers.now c.args.i c.args.chamber c.args.sides.now.items
    (λ free. free.there (c.is_first.ensures.0 c.if-is_first.true)) c.requires.sides

pub returns-then-is_first-2 : goal.returns-then-is_first-2
returns-then-is_first-2 c =
    free_as_before c.args.symbol.now c.args.numbers.now c.args.i c.args.chamber c.args.sides.now.items
    (λ free. free.back (subst (IsFirstStep c.args.symbol.now c.args.numbers.now c.args.i) c.op-there.ensures.image (c.is_first-2.ensures.0 c.if-is_first-2.true))) c.requires.sides

pub returns : goal.returns
returns c =
    let s = c.args.symbol.now in
    let f = c.args.numbers.now in
    let i = c.args.i in
    let d = c.args.chamber in
    let at = c.op-there.ensures.image in
    rw c.in_ok-push.ensures.items
    (free_more s f i d c.args.sides.now.items (record { chamber = d; index = i; from = c.cell_number-from.result; to = c.cell_number-to.result }) refl refl
    (record {
      free = record {
        chamber = c.requires.chamber;
        least = subst (λ z. d ≤ z) at c.if-there-chamber.false;
        there = λ first. absurd (let t = c.is_first.ensures.1 first in let n = c.if-is_first.false in cc);
        back = λ first. absurd (let t = c.is_first-2.ensures.1 (subst (IsFirstStep s f i) (sym at) first) in let n = c.if-is_first-2.false in cc);
      };
      from = subst (λ p. IsCellNumber s p d c.cell_number-from.result) c.one_end.ensures c.cell_number-from.ensures;
      to = subst (λ p. IsCellNumber s p d c.cell_number-to.result) c.other_end.ensures c.cell_number-to.ensures;
    })
    c.requires.sides)
