use Rattle.std.proofs.Common.{refl, arith, ◌++◌, ◌∙◌, ap, length}
use Rattle.dd_model.specs.declared.pair.Pair.TheVariants.{Tile, Vertex}
use Rattle.dd_symbol.specs.Images.{with_degrees}
use Rattle.dd_text.proofs.LineTexts.{line_added, outline_kept, all_within}
use Rattle.dd_text.proofs.outline.Outline.put_listed.Goals as goal

pub put_told-requires-clause-tiles : goal.put_told-requires-clause-tiles
put_told-requires-clause-tiles c =
    let l = c.args.listed.now in
    all_within (with_degrees l.table.now l.m01.now l.m12.now) Tile c.args.self.now.tiles.items c.deref.result.now (length l.m01.now)
    c.requires.cells.tiles c.deref.ensures.value c.requires.small.symbol.table.m01_length

pub put_told-requires-clause-vertices : goal.put_told-requires-clause-vertices
put_told-requires-clause-vertices c =
    let l = c.args.listed.now in
    all_within (with_degrees l.table.now l.m01.now l.m12.now) Vertex c.args.self.now.vertices.items c.deref-2.result.now (length l.m12.now)
    c.requires.cells.vertices c.deref-2.ensures.value c.requires.small.symbol.table.m12_length

pub returns-clause-line : goal.returns-clause-line
returns-clause-line c k is =
    let l = c.args.listed.now in
    let old = c.args.out.now.items in
    line_added k (with_degrees l.table.now l.m01.now l.m12.now) c.args.self.now c.deref.result.now c.deref-2.result.now old c.put_told.new.out.items c.extend_from_slice.new.self.items
    is c.deref.ensures.value c.deref-2.ensures.value c.in_ok-put_told.ensures.degrees
    (c.in_ok-extend_from_slice.ensures.items ∙ ap (λ t. old ++ t) c.deref-3.ensures.value)

pub returns-clause-outline : goal.returns-clause-outline
returns-clause-outline c k s =
    outline_kept k s c.args.self.now _ _ _ _ _ c.put_told.new.out.items _ (omega (arith, c.len-length.ensures, c.args.self.now.head.ok.0)) c.in_ok-put_told.ensures.degrees c.truncate.ensures.items refl refl refl
