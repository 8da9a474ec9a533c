use Rattle.std.proofs.Common.{sym, ◌∙◌}
use Rattle.dd_model.specs.declared.index.Index.TheVariants.{Zero, One, Two}
use Rattle.dd_cells.specs.Coloring.{ExchangesBy}
use Rattle.dd_cells.proofs.ColoringLemmas.{by_index}
use Rattle.dd_cells.proofs.colorings.exchange.Goals as goal
use Rattle.dd_cells.proofs.colorings.exchange.Goals.{then-exchanges_by, else-exchanges_by}

pub returns-then-exchanges_by-2 : goal.returns-then-exchanges_by-2
returns-then-exchanges_by-2 c =
    elim c.if-exchanges_by.branch [
      | then-exchanges_by w ↦ (
        λ h. by_index (λ i. ExchangesBy c.args.symbol.now i c.args.colors.now) (c.exchanges_by.ensures.0 w.if-exchanges_by.true)
            (w.exchanges_by-then-exchanges_by.ensures.0 (sym w.value-is ∙ c.if-exchanges_by-2.true)) (c.exchanges_by-then-exchanges_by-2.ensures.0 h),
        λ all. c.exchanges_by-then-exchanges_by-2.ensures.1 (all Two),
      )
      | else-exchanges_by w ↦ absurd (let yes = c.if-exchanges_by-2.true in let no = w.value-is in (cc))
    ]

pub returns-else-exchanges_by-2 : goal.returns-else-exchanges_by-2
returns-else-exchanges_by-2 c =
    let no = c.if-exchanges_by-2.false in (
      λ h. absurd (cc),
      λ all. elim c.if-exchanges_by.branch [
        | then-exchanges_by w ↦ w.value-is ∙ w.exchanges_by-then-exchanges_by.ensures.1 (all One)
        | else-exchanges_by w ↦ absurd (let yes = c.exchanges_by.ensures.1 (all Zero) in let not = w.if-exchanges_by.false in (cc))
      ],
    )
