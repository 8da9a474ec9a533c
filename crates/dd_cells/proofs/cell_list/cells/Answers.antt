use Rattle.std.proofs.Common.{◌≡◌, ◌<◌, length, map, slice_index, sym, ap, ◌∙◌, subst, arith}
use Rattle.std.specs.List.{AllByRecursion}
use Rattle.std.proofs.lemmas.List.{get_or_default, take_all}
use Rattle.std.proofs.lemmas.List.Elements.{Contains-get_or}
use Rattle.dd_model.specs.Cell.{IsLeastOfCell, AreCells}
use Rattle.dd_cells.specs.Cells.{IsCellOf}
use Rattle.dd_cells.specs.declared.cell.Cell.{Cell}
use Rattle.dd_cells.proofs.MemberLemmas.{least_more, each_more}
use Rattle.dd_cells.proofs.cell_list.cells.Goals as goal

pub cell_at-requires : goal.cell_at-requires
cell_at-requires c =
    let chambers = c.in_ok-chambers.chambers.items in
    let k = c.loop-k.k in
    let below : k < length chambers = omega arith in
    let here : c.index.result.now ≡ slice_index chambers k = c.index.ensures ∙ get_or_default chambers k c.index.result.now 0 below in
    subst (IsLeastOfCell c.args.s.now c.args.pair) (sym here)
    (((subst (λ t. AreCells t c.args.pair chambers) c.symbol.ensures.same c.in_ok-chambers.ensures).members (slice_index chambers k)).0 (Contains-get_or chambers k 0 below))

pub loop-k-preserved : goal.loop-k-preserved
loop-k-preserved c =
    let s = c.args.s.now in
    let p = c.args.pair in
    let chambers = c.in_ok-chambers.chambers.items in
    let k = c.loop-k.k in
    let cells = c.loop-k.cells.items in
    let cell = c.in_ok-cell_at.field-0 in
    let below : k < length chambers = omega arith in
    let here : c.index.result.now ≡ slice_index chambers k = c.index.ensures ∙ get_or_default chambers k c.index.result.now 0 below in
    let items = c.in_ok-push.ensures.items in
    record {
      least = ap (map (λ (t : Cell). t.least)) items ∙ least_more cells cell chambers k c.loop-k.invariant.least below (c.in_ok-cell_at.ensures.least ∙ here);
      each = subst (AllByRecursion (IsCellOf s p)) (sym items) (each_more (IsCellOf s p) cells cell c.loop-k.invariant.each c.in_ok-cell_at.ensures.cell);
    }

pub returns : goal.returns
returns c =
    let p = c.args.pair in
    let chambers = c.in_ok-chambers.chambers.items in
    let cells = c.loop-k.cells.items in
    let whole : map (λ (t : Cell). t.least) cells ≡ chambers = c.loop-k.invariant.least ∙ take_all c.loop-k.k chambers (omega arith) in
    record {
      least_chambers = subst (AreCells c.args.s.now p) (sym whole) (subst (λ t. AreCells t p chambers) c.symbol.ensures.same c.in_ok-chambers.ensures);
      each = c.loop-k.invariant.each;
    }
