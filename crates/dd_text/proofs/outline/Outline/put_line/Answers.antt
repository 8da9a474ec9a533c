use Rattle.std.proofs.Common.{refl, arith, All, ◌++◌, ◌∙◌, ap, sym, subst}
use Rattle.dd_model.specs.declared.pair.Pair.TheVariants.{Tile, Vertex}
use Rattle.dd_model.specs.Symbol.{IsChamber}
use Rattle.dd_text.proofs.LineTexts.{line_added, outline_kept, all_chambers}
use Rattle.dd_text.proofs.outline.Outline.put_line.Goals as goal

pub put_cells-requires-clause-tiles : goal.put_cells-requires-clause-tiles
put_cells-requires-clause-tiles c =
    subst (All (IsChamber c.args.symbol.now)) (sym c.deref.ensures.value) (all_chambers c.args.symbol.now Tile c.args.self.now.tiles.items c.requires.tiles)

pub put_cells-requires-clause-vertices : goal.put_cells-requires-clause-vertices
put_cells-requires-clause-vertices c =
    subst (All (IsChamber c.args.symbol.now)) (sym c.deref-2.ensures.value) (all_chambers c.args.symbol.now Vertex c.args.self.now.vertices.items c.requires.vertices)

pub returns-clause-line : goal.returns-clause-line
returns-clause-line c k is =
    let old = c.args.out.now.items in
    line_added k c.args.symbol.now c.args.self.now c.deref.result.now c.deref-2.result.now old c.put_cells.new.out.items c.extend_from_slice.new.self.items
    is c.deref.ensures.value c.deref-2.ensures.value c.in_ok-put_cells.ensures
    (c.in_ok-extend_from_slice.ensures.items ∙ ap (λ t. old ++ t) c.deref-3.ensures.value)

pub returns-clause-outline : goal.returns-clause-outline
returns-clause-outline c k s =
    outline_kept k s c.args.self.now _ _ _ _ _ c.put_cells.new.out.items _ (omega (arith, c.len-length.ensures, c.args.self.now.head.ok.0)) c.in_ok-put_cells.ensures c.truncate.ensures.items refl refl refl
