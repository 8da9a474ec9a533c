use Rattle.std.proofs.Common.{◌≡◌, ◌<◌, ◌≤◌, true, false, not, refl, sym, ◌∙◌, ap, subst}
use Rattle.dd_model.specs.declared.index.Index.TheVariants.{Zero, One, Two}
use Rattle.dd_model.specs.Symbol.{item, op}
use Rattle.dd_cells.proofs.ColoringLemmas.{by_index}
use Rattle.dd_covers.specs.Visits.{rank}
use Rattle.dd_covers.proofs.SideListLemmas.{number_small, first_told, first_sooner}
use Rattle.dd_covers.proofs.free_sides.is_first.Goals as goal

pub rank-own-requires : goal.rank-own-requires
rank-own-requires c =
    subst (λ n. n ≤ 16384) (sym c.item.ensures) (number_small c.args.symbol.now c.args.numbers.now c.requires.visits c.args.chamber c.requires.chamber)

pub returns-then-is_sooner : goal.returns-then-is_sooner
returns-then-is_sooner c =
    let s = c.args.symbol.now in
    let f = c.args.numbers.now in
    let own : c.rank-own.result ≡ rank c.args.i (item f c.args.chamber) = c.rank-own.ensures ∙ ap (rank c.args.i) c.item.ensures in (
      λ no. absurd (cc),
      λ first. absurd (first_sooner s c.requires.visits.small.symbol.table.involutions f c.args.i c.args.chamber c.op-there.result c.rank-own.result c.requires.chamber c.op-there.ensures.image own first Zero
          (c.is_sooner.ensures.0 c.if-is_sooner.true)),
    )

pub returns-then-is_sooner-2 : goal.returns-then-is_sooner-2
returns-then-is_sooner-2 c =
    let s = c.args.symbol.now in
    let f = c.args.numbers.now in
    let own : c.rank-own.result ≡ rank c.args.i (item f c.args.chamber) = c.rank-own.ensures ∙ ap (rank c.args.i) c.item.ensures in (
      λ no. absurd (cc),
      λ first. absurd (first_sooner s c.requires.visits.small.symbol.table.involutions f c.args.i c.args.chamber c.op-there.result c.rank-own.result c.requires.chamber c.op-there.ensures.image own first One
          (c.is_sooner-2.ensures.0 c.if-is_sooner-2.true)),
    )

pub returns : goal.returns
returns c =
    let s = c.args.symbol.now in
    let f = c.args.numbers.now in
    let inv = c.requires.visits.small.symbol.table.involutions in
    let own : c.rank-own.result ≡ rank c.args.i (item f c.args.chamber) = c.rank-own.ensures ∙ ap (rank c.args.i) c.item.ensures in
    let told = c.is_sooner-3.ensures in
    let last = c.is_sooner-3.result in (
      λ yes. first_told s inv f c.args.i c.args.chamber c.op-there.result c.rank-own.result c.requires.chamber c.op-there.ensures.image own c.if-there-eq1.false
          (by_index (λ j. rank j (item f (op s j c.op-there.result)) < c.rank-own.result → ⊥)
          (λ less. absurd (let t = c.is_sooner.ensures.1 less in let n = c.if-is_sooner.false in cc))
          (λ less. absurd (let t = c.is_sooner-2.ensures.1 less in let n = c.if-is_sooner-2.false in cc))
          (λ less. absurd (let t = ap not (told.1 less) in cc))),
      λ first. elim last as (λ b. (b ≡ true → rank Two (item f (op s Two c.op-there.result)) < c.rank-own.result) → not b ≡ true) [
        | true ↦ λ sooner. absurd (first_sooner s inv f c.args.i c.args.chamber c.op-there.result c.rank-own.result c.requires.chamber c.op-there.ensures.image own first Two (sooner refl))
        | false ↦ λ sooner. refl
      ] told.0,
    )
