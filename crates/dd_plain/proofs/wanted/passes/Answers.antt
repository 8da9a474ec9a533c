use Rattle.std.proofs.Common.{◌≡◌, ℕ, ◌<◌, Bool, true, false, leb, sym, ap, ◌∙◌, arith}
use borrow.Author.Tests.{leb-true}
use Rattle.dd_model.specs.Symbol.{Symbol}
use Rattle.dd_plain.proofs.wanted.passes.Goals as goal
use Rattle.dd_plain.proofs.wanted.passes.Goals.{then-size-q, else-size-q, then-is_flat, else-is_flat, then-has_degrees_in, else-has_degrees_in, then-has_degrees_in-2, else-has_degrees_in-2}
use Rattle.dd_plain.proofs.wanted.passes.Goals.{then-has_crystallographic_cells, else-has_crystallographic_cells, then-has_crystallographic_cells-2, else-has_crystallographic_cells-2}

contrary : (b : Bool) → b ≡ true → b ≡ false → ⊥
contrary b set unset = cc

over : (n limit : ℕ) → limit < n → leb n limit ≡ true → ⊥
over n limit more within = let most = leb-true n limit within in omega arith

-- Each test before the last was passed.
pub returns-then-has_at_most : goal.returns-then-has_at_most
returns-then-has_at_most c =
    let size = ap (λ (t : Symbol). t.size) c.symbol.ensures.same in
    elim c.if-has_crystallographic_cells-2.branch [
      | else-has_crystallographic_cells-2 w ↦ absurd (contrary _ c.if-has_at_most.true (w.value-is ∙ w.if-has_crystallographic_cells-2.false))
      | then-has_crystallographic_cells-2 tiles ↦ elim c.if-has_crystallographic_cells.branch [
        | else-has_crystallographic_cells w ↦ absurd (contrary _ tiles.if-has_crystallographic_cells-2.true (w.value-is ∙ w.if-has_crystallographic_cells.false))
        | then-has_crystallographic_cells corners ↦ elim c.if-has_degrees_in-2.branch [
          | else-has_degrees_in-2 w ↦ absurd (contrary _ corners.if-has_crystallographic_cells.true (w.value-is ∙ w.if-has_degrees_in-2.false))
          | then-has_degrees_in-2 edges ↦ elim c.if-has_degrees_in.branch [
            | else-has_degrees_in w ↦ absurd (contrary _ edges.if-has_degrees_in-2.true (w.value-is ∙ w.if-has_degrees_in.false))
            | then-has_degrees_in degrees ↦ elim c.if-is_flat.branch [
              | else-is_flat w ↦ absurd (contrary _ degrees.if-has_degrees_in.true (w.value-is ∙ w.if-is_flat.false))
              | then-is_flat faces ↦ elim c.if-size-q.branch [
                | else-size-q w ↦ absurd (over c.size.result c.args.q.now.chambers w.if-size-q.false (sym w.value-is ∙ faces.if-is_flat.true))
                | then-size-q flat ↦ (
                  (λ few. record {
                    symbol = c.symbol.ensures.symbol.symbol;
                    connected = c.symbol.ensures.connected;
                    chambers = let most = flat.if-size-q.true in let own = c.size.ensures.size in omega arith;
                    flat = flat.is_flat.ensures.0 (sym flat.value-is ∙ faces.if-is_flat.true);
                    faces = faces.has_degrees_in.ensures.0 (sym faces.value-is ∙ degrees.if-has_degrees_in.true);
                    degrees = degrees.has_degrees_in-then-has_degrees_in.ensures.0 (sym degrees.value-is ∙ edges.if-has_degrees_in-2.true);
                    face_branching = edges.has_crystallographic_cells.ensures.0 (sym edges.value-is ∙ corners.if-has_crystallographic_cells.true);
                    vertex_branching = corners.has_crystallographic_cells-then-has_crystallographic_cells.ensures.0
                        (sym corners.value-is ∙ tiles.if-has_crystallographic_cells-2.true);
                    tiles = tiles.has_at_most.ensures.0 (sym tiles.value-is ∙ c.if-has_at_most.true);
                    vertices = c.has_at_most-then-has_at_most.ensures.0 few;
                  }),
                  (λ passes. c.has_at_most-then-has_at_most.ensures.1 passes.vertices),
                )
              ]
            ]
          ]
        ]
      ]
    ]
