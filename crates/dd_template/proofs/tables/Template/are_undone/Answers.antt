use Rattle.std.proofs.Common.{◌≡◌, length, sym, ◌∙◌}
use Rattle.dd_model.specs.declared.index.Index.TheVariants.{Zero, One, Two}
use Rattle.dd_template.specs.Table.{table_of, moves}
use Rattle.dd_template.specs.Moves.{AreUndoneBy}
use Rattle.dd_template.proofs.tables.Template.are_undone.Goals as goal
use Rattle.dd_template.proofs.tables.Template.are_undone.Goals.{then-are_undone_by, else-are_undone_by}

pub returns-then-are_undone_by-2-clause-undone : goal.returns-then-are_undone_by-2-clause-undone
returns-then-are_undone_by-2-clause-undone g c =
    let P = AreUndoneBy (table_of c.args.self.now) in
    elim c.if-are_undone_by.branch [
      | then-are_undone_by w ↦ (
        λ h i. elim i as P [
          | Zero ↦ c.are_undone_by.ensures.undone.0 w.if-are_undone_by.true
          | One ↦ w.are_undone_by-then-are_undone_by.ensures.undone.0 (sym w.value-is ∙ c.if-are_undone_by-2.true)
          | Two ↦ c.are_undone_by-then-are_undone_by-2.ensures.undone.0 h
        ],
        λ all. c.are_undone_by-then-are_undone_by-2.ensures.undone.1 (all Two),
      )
      | else-are_undone_by w ↦ absurd (let yes = c.if-are_undone_by-2.true in let no = w.value-is in (cc))
    ]

pub returns-then-are_undone_by-2-clause-parts : goal.returns-then-are_undone_by-2-clause-parts
returns-then-are_undone_by-2-clause-parts g c =
    let t = table_of c.args.self.now in
    elim c.if-are_undone_by.branch [
      | then-are_undone_by w ↦
          λ h i. elim i as (λ j. length (moves t j) ≡ g.row.K) [
            | Zero ↦ c.are_undone_by.ensures.parts
            | One ↦ w.are_undone_by-then-are_undone_by.ensures.parts
            | Two ↦ c.are_undone_by-then-are_undone_by-2.ensures.parts
          ]
      | else-are_undone_by w ↦ absurd (let yes = c.if-are_undone_by-2.true in let no = w.value-is in (cc))
    ]

pub returns-else-are_undone_by-2-clause-undone : goal.returns-else-are_undone_by-2-clause-undone
returns-else-are_undone_by-2-clause-undone g c =
    let no = c.if-are_undone_by-2.false in (
      λ h. absurd (cc),
      λ all. elim c.if-are_undone_by.branch [
        | then-are_undone_by w ↦ w.value-is ∙ w.are_undone_by-then-are_undone_by.ensures.undone.1 (all One)
        | else-are_undone_by w ↦ absurd (let yes = c.are_undone_by.ensures.undone.1 (all Zero) in let not = w.if-are_undone_by.false in (cc))
      ],
    )
